-- `table_edits::list::follow`: the moved starts up to the index are shifted, those behind it are as they were moved.
use Rattle.std.proofs.Common.{◌≡◌, ◌++◌, map, take, drop}
use Rattle.table_edits.specs.Inner.{shifted}
use Rattle.table_edits.proofs.list.follow.Given as goal

abbrev pub invariant-loop-start : goal.invariant-loop-start
invariant-loop-start l = l.start-items ≡ map (shifted l.old l.new) (take l.start-index l.initial.start-items) ++ drop l.start-index l.initial.start-items
