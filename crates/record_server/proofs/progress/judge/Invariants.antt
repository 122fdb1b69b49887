-- `record_server::progress::judge`: what all of the bytes come to is what the progress so far comes to. The measure is what is left of the bytes, and
-- one more while it goes on.
use Rattle.std.proofs.Common.{◌++◌, length}
use Rattle.server.specs.KeyExchange.{view}
use Rattle.record_server.specs.Joining.{judged}
use Rattle.record_server.proofs.Courses.{Running, left_over}
use Rattle.record_server.proofs.progress.judge.Given as goal

abbrev pub invariant-loop-table : goal.invariant-loop-table
invariant-loop-table l =
    Running (view l.table) (length l.held) (l.held ++ l.content) (judged (view l.table) l.initial.p.connection (l.held ++ l.content)) l.p

abbrev pub decreases-loop-table : goal.decreases-loop-table
decreases-loop-table l = left_over (l.held ++ l.content) l.p
