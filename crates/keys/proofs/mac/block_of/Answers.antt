-- `keys::mac::block_of`: a short key is copied over zeros, a long one hashed.
use Rattle.std.proofs.Common.{rules, ◌≡◌, ◌∙◌, arith}
use Rattle.refusal.proofs.Laws.{answer-in-front}
use Rattle.sha256.specs.State.{absorb, fresh}
use Rattle.sha256.proofs.Finish.{length-digest, finished-within}
use Rattle.keys.proofs.HmacSteps.{short-key, long-key, counts-of, counted_of, short-blocks, long-blocks}
use Rattle.keys.proofs.mac.block_of.Goals as goal

pub returns-then-key-le64-clause-bytes_value : goal.returns-then-key-le64-clause-bytes_value
returns-then-key-le64-clause-bytes_value c =
    let key = c.args.key.now in
    (short-key key c.copy.new.dst c.if-key-le64.true c.copy.ensures.1, short-blocks key c.if-key-le64.true)

pub returns-clause-bytes_value : goal.returns-clause-bytes_value
returns-clause-bytes_value c =
    let key = c.args.key.now in
    let long = c.if-key-le64.false in
    let s = c.update.result in
    let absorbed : s ≡ absorb fresh key = c.update.ensures ∙ rw c.new.ensures in
    let hashed = rw (finished-within s key absorbed c.requires) at c.finish_counted-done.ensures.answers in (
      long-key key c.finish_counted-done.new.out long (answer-in-front hashed (rw (length-digest key) (omega arith))),
      counted_of s key c.finish_counted-done.result absorbed c.requires c.finish_counted-done.ensures.answers (omega arith) (counts-of s c.finish_counted-done.result _ c.finish_counted-done.ensures.blocks_value (search rules)) ∙ long-blocks key long,
    )
