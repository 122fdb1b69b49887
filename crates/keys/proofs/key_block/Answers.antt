-- `keys::key_block`: the tests in their order, and then the PRF's own answer.
use mathlib.Core.Bool.{and-false, and-true}
use borrow.Author.Tests.{eq-eqb, ne_eqb, le-leb, lt-leb}
use Rattle.refusal.proofs.Laws.{refuses-answers}
use Rattle.keys.specs.Secrets.{keys}
use Rattle.keys.proofs.key_block.Goals.{then-master-ne48-via-then-master-ne48, then-master-ne48-via-else-master-ne48+then-n-lt1, then-master-ne48-via-else-master-ne48+else-n-lt1+then-server-ne32, then-master-ne48-via-else-master-ne48+else-n-lt1+else-server-ne32+then-client-ne32}
use Rattle.keys.proofs.key_block.Goals as goal

pub returns-then-master-ne48 : goal.returns-then-master-ne48
unfolding keys
returns-then-master-ne48 c = elim c.then-master-ne48.branch [
  | then-master-ne48-via-then-master-ne48 w ↦ simp (ne_eqb _ _ w.if-master-ne48.true) (refuses-answers _ _)
  | then-master-ne48-via-else-master-ne48+then-n-lt1 w ↦ simp (lt-leb _ _ (rw c.key_block_length-n.ensures at w.if-n-lt1.true), and-false) (refuses-answers _ _)
  | then-master-ne48-via-else-master-ne48+else-n-lt1+then-server-ne32 w ↦ simp (ne_eqb _ _ w.if-server-ne32.true, and-false) (refuses-answers _ _)
  | then-master-ne48-via-else-master-ne48+else-n-lt1+else-server-ne32+then-client-ne32 w ↦ simp (ne_eqb _ _ w.if-client-ne32.true, and-false) (refuses-answers _ _)
]

pub returns : goal.returns
unfolding keys
returns c =
    let size = c.key_block_length-n.ensures in
    simp (
      eq-eqb _ _ c.if-master-ne48.false,
      eq-eqb _ _ c.if-server-ne32.false,
      eq-eqb _ _ c.if-client-ne32.false,
      le-leb _ _ (rw size at c.if-n-lt1.false),
      and-true,
    )
    (rw (size, c.joined-seed.ensures) at c.prf.ensures)
