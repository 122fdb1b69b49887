-- `keys::premaster`: the two tests, and then the bytes.
use mathlib.Core.Bool.{and-false}
use borrow.Author.Tests.{lt-leb}
use Rattle.refusal.proofs.Laws.{refuses-answers}
use Rattle.keys.specs.Secrets.{premaster}
use Rattle.keys.proofs.Lengths.{premaster-given}
use Rattle.keys.proofs.premaster.Goals.{then-n-lt1-via-then-n-lt1, then-n-lt1-via-else-n-lt1+then-n-gt64}
use Rattle.keys.proofs.premaster.Goals as goal

pub returns-then-n-lt1 : goal.returns-then-n-lt1
unfolding premaster
returns-then-n-lt1 c = elim c.then-n-lt1.branch [
  | then-n-lt1-via-then-n-lt1 w ↦ simp (lt-leb _ _ w.if-n-lt1.true) (refuses-answers _ _)
  | then-n-lt1-via-else-n-lt1+then-n-gt64 w ↦ simp (lt-leb _ _ w.if-n-gt64.true, and-false) (refuses-answers _ _)
]

pub returns : goal.returns
returns c =
    rw (premaster-given _ c.if-n-lt1.false c.if-n-gt64.false)
    (rw c.premaster_bytes-bytes.ensures at c.put.ensures)
