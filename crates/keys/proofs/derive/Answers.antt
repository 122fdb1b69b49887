-- `keys::derive`: the tests in their order, and then the first 48 bytes, with their blocks.
use Rattle.std.proofs.Common.{rules, ◌≡◌, Err, arith, sym, length}
use mathlib.Core.Bool.{and-false}
use lib.Seq.{length-take-le}
use borrow.Author.Tests.{le-leb, lt-leb}
use Rattle.refusal.proofs.Laws.{refuses-answers}
use Rattle.keys.specs.Prf.{prf}
use Rattle.keys.proofs.derive.Goals.{then-secret-gt65536-via-then-secret-gt65536, then-secret-gt65536-via-else-secret-gt65536+then-seed-gt65536}
use Rattle.keys.proofs.derive.Goals as goal

pub returns-then-secret-gt65536-clause-answers : goal.returns-then-secret-gt65536-clause-answers
unfolding prf
returns-then-secret-gt65536-clause-answers c = elim c.then-secret-gt65536.branch [
  | then-secret-gt65536-via-then-secret-gt65536 w ↦ simp (lt-leb _ _ w.if-secret-gt65536.true) (refuses-answers _ _)
  | then-secret-gt65536-via-else-secret-gt65536+then-seed-gt65536 w ↦ simp (lt-leb _ _ w.if-seed-gt65536.true, and-false) (refuses-answers _ _)
]

pub slice_bounds-put-end : goal.slice_bounds-put-end
slice_bounds-put-end c =
    let buffer = c.expand_afresh-blocks.new.buffer in
    let size : length buffer ≡ 64 = search rules in
    sym (length-take-le 48 buffer (omega arith))

pub returns-in_err-len-clause-answers : goal.returns-in_err-len-clause-answers
unfolding prf
returns-in_err-len-clause-answers c =
    let told : c.from_residual.result ≡ Err c.in_err-len.field-0.0 = search rules in
    rw told
    (simp (le-leb _ _ c.if-secret-gt65536.false, le-leb _ _ c.if-seed-gt65536.false)
    (rw (c.expand_afresh-blocks.ensures.buffer_after, c.in_err-len.was) at c.put.ensures))

pub returns-clause-answers : goal.returns-clause-answers
unfolding prf
returns-clause-answers c =
    simp (le-leb _ _ c.if-secret-gt65536.false, le-leb _ _ c.if-seed-gt65536.false)
    (rw (c.expand_afresh-blocks.ensures.buffer_after, c.in_ok-len.was) at c.put.ensures)
