-- `keytable::entries::first_line`: the starts that are left give what the whole list gives, and at a start so does what is left of the line and of the
-- identity.
use Rattle.std.proofs.Common.{◌≡◌, ◌≤◌, ◌+◌, ◌-◌, length, drop}
use Rattle.keytable.specs.Starts.{placed}
use Rattle.keytable.proofs.Search.{Matched}
use Rattle.keytable.proofs.entries.first_line.Given as goal

abbrev pub invariant-lines : goal.invariant-lines
invariant-lines l = (l.k ≤ length l.starts) × (placed 0 l.identity l.table l.starts ≡ placed l.k l.identity l.table (drop l.k l.starts))

abbrev pub decreases-lines : goal.decreases-lines
decreases-lines l = length l.starts - l.k

abbrev pub invariant-loop-i : goal.invariant-loop-i
invariant-loop-i l = (l.i ≤ length l.identity) × Matched l.table l.identity l.at l.i

abbrev pub decreases-loop-i : goal.decreases-loop-i
decreases-loop-i l = length l.table - (l.at + l.i)
