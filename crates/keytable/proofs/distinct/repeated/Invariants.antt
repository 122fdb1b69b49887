-- `keytable::distinct::repeated`: none of the lines passed has the identity.
use Rattle.keytable.proofs.Chains.{Walked}
use Rattle.keytable.proofs.distinct.repeated.Given as goal

abbrev pub invariant-loop-c : goal.invariant-loop-c
invariant-loop-c l = Walked l.table l.starts l.identity l.n l.c

abbrev pub decreases-loop-c : goal.decreases-loop-c
decreases-loop-c l = l.c
