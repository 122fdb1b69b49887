-- `keys::finished`: the tests in their order, and then the PRF's own answer.
use mathlib.Core.Bool.{and-false}
use borrow.Author.Tests.{eq-eqb, ne_eqb}
use Rattle.refusal.proofs.Laws.{refuses-answers}
use Rattle.keys.specs.Secrets.{verify_data}
use Rattle.keys.proofs.finished.Goals.{then-master-ne48-via-then-master-ne48, then-master-ne48-via-else-master-ne48+then-hash-ne32}
use Rattle.keys.proofs.finished.Goals as goal

pub returns-then-master-ne48 : goal.returns-then-master-ne48
unfolding verify_data
returns-then-master-ne48 c = elim c.then-master-ne48.branch [
  | then-master-ne48-via-then-master-ne48 w ↦ simp (ne_eqb _ _ w.if-master-ne48.true) (refuses-answers _ _)
  | then-master-ne48-via-else-master-ne48+then-hash-ne32 w ↦ simp (ne_eqb _ _ w.if-hash-ne32.true, and-false) (refuses-answers _ _)
]

pub returns : goal.returns
unfolding verify_data
returns c =
    simp (eq-eqb _ _ c.if-master-ne48.false, eq-eqb _ _ c.if-hash-ne32.false)
    (rw c.from.ensures at c.prf.ensures)
