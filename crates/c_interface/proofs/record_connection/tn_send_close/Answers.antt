-- `c_interface::record_connection::tn_send_close`: what `record_server::close` answered, kept.
use Rattle.std.proofs.Common.{arith}
use Rattle.record_server.specs.declared.RecordConnection.{RecordConnection}
use Rattle.record_server.specs.Connection.{no_alert, closed_with}
use Rattle.record_server.specs.Sending.{close_record}
use Rattle.c_interface.proofs.RecordSizes.{close-small}
use Rattle.c_interface.proofs.Keeping.{kept-as}
use Rattle.c_interface.proofs.RecordKeeping.{sent-count, sent-keeps}
use Rattle.c_interface.proofs.record_connection.tn_send_close.Goals as goal

pub keep-requires : goal.keep-requires
keep-requires c =
    let a = c.args in
    let x = c.restore.result in
    (omega arith, sent-count a.connection.now a.out.now (λ (x : RecordConnection). closed_with no_alert) close_record x c.close-answer.ensures.0 (close-small x))

pub returns-clause-keeps_record : goal.returns-clause-keeps_record
returns-clause-keeps_record c =
    let a = c.args in
    (sent-keeps a.connection.now a.out.now (λ (x : RecordConnection). closed_with no_alert) close_record c.restore.ensures c.close-answer.ensures c.keep.type_inv c.keep.ensures.value
    (kept-as c.save.ensures.value c.save.ensures.result_value c.keep.ensures.kept)).0
