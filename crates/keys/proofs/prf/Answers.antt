-- `keys::prf`: the tests in their order, and then the first n bytes.
use mathlib.Core.Bool.{and-false}
use borrow.Author.Tests.{le-leb, lt-leb}
use Rattle.refusal.proofs.Laws.{refuses-answers}
use Rattle.keys.specs.Prf.{prf}
use Rattle.keys.proofs.prf.Goals.{then-secret-gt65536-via-then-secret-gt65536, then-secret-gt65536-via-else-secret-gt65536+then-seed-gt65536, then-secret-gt65536-via-else-secret-gt65536+else-seed-gt65536+then-n-gt256}
use Rattle.keys.proofs.prf.Goals as goal

pub returns-then-secret-gt65536 : goal.returns-then-secret-gt65536
unfolding prf
returns-then-secret-gt65536 c = elim c.then-secret-gt65536.branch [
  | then-secret-gt65536-via-then-secret-gt65536 w ↦ simp (lt-leb _ _ w.if-secret-gt65536.true) (refuses-answers _ _)
  | then-secret-gt65536-via-else-secret-gt65536+then-seed-gt65536 w ↦ simp (lt-leb _ _ w.if-seed-gt65536.true, and-false) (refuses-answers _ _)
  | then-secret-gt65536-via-else-secret-gt65536+else-seed-gt65536+then-n-gt256 w ↦ simp (lt-leb _ _ w.if-n-gt256.true, and-false) (refuses-answers _ _)
]

pub returns : goal.returns
unfolding prf
returns c =
    simp (le-leb _ _ c.if-secret-gt65536.false, le-leb _ _ c.if-seed-gt65536.false, le-leb _ _ c.if-n-gt256.false)
    (rw c.expand.ensures at c.put.ensures)
