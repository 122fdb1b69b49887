-- The bytes so far are a front.
use Rattle.lines.specs.Front.{Front}
use Rattle.lines.proofs.read.field.Given as goal

abbrev pub invariant-loop : goal.invariant-loop
invariant-loop g l = Front l.at l.fn.out l.out
