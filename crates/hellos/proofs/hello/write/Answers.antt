-- `hellos::hello::write`: what is put at the front of the output is the message, which is valid and has room.
use Rattle.std.proofs.Common.{ℕ, ◌≡◌, ◌+◌, ◌∙◌, List, ◌++◌, true, not, ap, sym, arith, length, drop, length-append}
use Rattle.std.specs.Option.{option_copied}
use borrow.Author.Tests.{not-false}
use Rattle.layout.specs.Layout.{Layout, bytes, valid}
use Rattle.layout.proofs.Layouts.{valid-within, writes}
use Rattle.layout.proofs.Puts.{front-answers}
use Rattle.hellos.specs.Hello.{Front, hello_with, between, front_given, front_rules, block_rules, tail_bytes}
use Rattle.hellos.proofs.Hellos.{front-rules, length-body, length-between}
use Rattle.hellos.proofs.hello.write.Goals as goal

pub returns : goal.returns
returns c =
    let a = c.args in
    let random = a.random.now in
    let id = a.session_id.now in
    let out = a.out.now in
    let middle : List ℕ = between a.a.now a.b.now a.c.now a.d.now in
    let block = option_copied a.block in
    let tail : List ℕ = tail_bytes block in
    let layout : Layout Front = hello_with a.kind middle in
    let fields : Front = front_given a.version random id block in
    let front_true : front_rules a.version random id ≡ true = sym c.front_valid.ensures ∙ not-false c.front_valid.result (ap not c.if-not-front_valid.false) in
    let tail_true : block_rules block ≡ true = sym c.tail_valid.ensures ∙ not-false c.tail_valid.result (ap not c.if-not-tail_valid.false) in
    let long = length-body a.version random id (middle ++ tail) (front-rules a.version random id front_true).1 in
    let size : length (layout.body fields) ≡ 35 + length id + (length a.a.now + length a.b.now + length a.c.now + length a.d.now) + c.tail_len.result =
    omega (arith, long, length-append middle tail, length-between a.a.now a.b.now a.c.now a.d.now, c.tail_len.ensures) in
    let ok : valid layout fields ≡ true = valid-within layout fields (rw (front_true) tail_true) (omega arith) in
    let whole : 4 + (35 + length id + (length a.a.now + length a.b.now + length a.c.now + length a.d.now) + c.tail_len.result) ≡ length (bytes layout fields) = omega arith in
    let put = c.put_all-end.ensures.out_after ∙ ap (λ (k : ℕ). bytes layout fields ++ drop k out) whole in
    writes layout fields out _ _ ok
    (front-answers (bytes layout fields) out _ _ (omega (arith, c.if-out-body_len.false)) put (c.put_all-end.ensures.value ∙ whole))
