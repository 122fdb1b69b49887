-- `record_server::taking::hear`: what was heard decides.
use Rattle.record_server.proofs.taking.hear.Goals as goal

pub returns-in-Ends : goal.returns-in-Ends
returns-in-Ends c memory held bytes =
    rw (← c.hear.ensures, c.in-Ends.is)
    (rw (c.closed_with.ensures, c.no_alert.ensures) at (c.silent.ensures memory held bytes))

pub returns-in-Ignored : goal.returns-in-Ignored
returns-in-Ignored c memory held bytes =
    rw (← c.hear.ensures, c.in-Ignored.is)
    (rw c.one_more.ensures at (c.silent-in-Ignored.ensures memory held bytes))
