-- `keytable::hex::decode`: the i-th byte is what the i-th pair stands for.
use Rattle.std.proofs.Common.{rules, ◌≡◌, ◌<◌, ◌/◌, ◌∙◌, length, arith}
use Rattle.lists.proofs.Copies.{fill-turn, filled-all}
use Rattle.keytable.specs.Table.{decoded}
use Rattle.keytable.proofs.Pairs.{pair_in, length-decoded}
use Rattle.keytable.proofs.hex.decode.Goals as goal

pub overflow_mul-out : goal.overflow_mul-out
overflow_mul-out c =
    let p = pair_in c.args.text.now c.loop-i.i c.as_chunks.ensures.front (omega (arith, c.as_chunks.ensures.front_len)) c.requires.text_value in
    let h : c.digit.result < 16 = rw c.digit.ensures p.high in
    search rules

pub overflow_add-out : goal.overflow_add-out
overflow_add-out c =
    let p = pair_in c.args.text.now c.loop-i.i c.as_chunks.ensures.front (omega (arith, c.as_chunks.ensures.front_len)) c.requires.text_value in
    let h : c.digit.result < 16 = rw c.digit.ensures p.high in
    let l : c.digit-in-loop-i.result < 16 = rw c.digit-in-loop-i.ensures p.low in
    search rules

pub loop-i-preserved : goal.loop-i-preserved
loop-i-preserved c =
    let text = c.args.text.now in
    let i = c.loop-i.i in
    let inside : i < length text / 2 = omega (arith, c.as_chunks.ensures.front_len) in
    let p = pair_in text i c.as_chunks.ensures.front inside c.requires.text_value in
    let turn = fill-turn (decoded text) c.args.out.now i (rw length-decoded inside) (omega (arith, c.requires.text_in_bounds)) in
    rw (c.loop-i.invariant, c.digit.ensures, c.digit-in-loop-i.ensures, ← p.is) turn

pub returns : goal.returns
returns c =
    let text = c.args.text.now in
    let all : c.loop-i.i ≡ length text / 2 = omega (arith, c.as_chunks.ensures.front_len) in
    c.loop-i.invariant ∙ filled-all (decoded text) _ _ _ (length-decoded text) all
