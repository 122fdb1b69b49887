-- `keytable::list::put`: the starts before i are written, and the others are as they were.
use Rattle.std.proofs.Common.{◌≡◌}
use Rattle.lists.proofs.Copies.{filled}
use Rattle.keytable.proofs.list.put.Given as goal

abbrev pub invariant-loop-i : goal.invariant-loop-i
invariant-loop-i l = l.starts ≡ filled l.own l.initial.starts l.i
