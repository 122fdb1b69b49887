-- `table_edits::list::follow`: the starts are moved, and each is then shifted where it stands.
-- Assumes nothing.
use Rattle.std.proofs.Common.{arith, rules, ◌-◌}
use Rattle.std.proofs.lemmas.List.Edits.{map_over_more}
use Rattle.table_edits.specs.Inner.{shifted}
use Rattle.table_edits.proofs.Moving.{moved-shifted}
use Rattle.table_edits.proofs.list.follow.Goals as goal

pub loop-start-preserved : goal.loop-start-preserved
loop-start-preserved c = search (rules, map_over_more (shifted c.args.old c.args.new))

pub returns : goal.returns
returns c =
    let a = c.args in
    rw c.copy_within.ensures.after
    (moved-shifted (shifted a.old a.new) a.starts.now c.loop-start.start-items a.from a.to (a.count - a.from) _ c.loop-start.start-index (omega arith) (omega arith) (omega arith) (omega arith)
    (rw c.copy_within.ensures.after at c.loop-start.invariant))
