-- `keytable::scan::scan_lines`: what is known of the lines before `at`.
use Rattle.std.proofs.Common.{length, ◌-◌}
use Rattle.keytable.proofs.Scanning.{Passed}
use Rattle.keytable.proofs.scan.scan_lines.Given as goal

abbrev pub invariant-loop-at : goal.invariant-loop-at
invariant-loop-at l = Passed l.table l.starts l.heads l.links l.tags l.n l.at

abbrev pub decreases-loop-at : goal.decreases-loop-at
decreases-loop-at l = length l.table - l.at
