-- `record_server::closing::closing_alert`: there is room for the record, and the array with it is what the connection keeps.
use Rattle.record_server.proofs.Alerts.{alert-room, alert-kept}
use Rattle.record_server.proofs.closing.closing_alert.Goals as goal

pub returns-in-Ok : goal.returns-in-Ok
returns-in-Ok c = alert-kept c.args.writing c.args.number c.seal.ensures c.if-writing-eq-LAST.false c.in-Ok.is

pub returns-in-Err : goal.returns-in-Err
returns-in-Err c = absurd (alert-room c.args.writing c.args.number c.seal.ensures c.in-Err.is)
