-- `c_interface::record_connection::tn_send_data`: what `record_server::send` answered, kept.
use Rattle.std.proofs.Common.{arith}
use Rattle.record_server.specs.declared.RecordConnection.{RecordConnection}
use Rattle.record_server.specs.Sending.{after_sending, data_record}
use Rattle.c_interface.proofs.RecordSizes.{data-small}
use Rattle.c_interface.proofs.Keeping.{kept-as}
use Rattle.c_interface.proofs.RecordKeeping.{sent-count, sent-keeps}
use Rattle.c_interface.proofs.record_connection.tn_send_data.Goals as goal

pub keep-requires : goal.keep-requires
keep-requires c =
    let a = c.args in
    let x = c.restore.result in
    (omega arith, sent-count a.connection.now a.out.now after_sending (λ (x : RecordConnection). data_record x a.content.now) x c.send-answer.ensures.0 (data-small x a.content.now))

pub returns-clause-keeps_record : goal.returns-clause-keeps_record
returns-clause-keeps_record c =
    let a = c.args in
    (sent-keeps a.connection.now a.out.now after_sending (λ (x : RecordConnection). data_record x a.content.now) c.restore.ensures c.send-answer.ensures c.keep.type_inv c.keep.ensures.value
    (kept-as c.save.ensures.value c.save.ensures.result_value c.keep.ensures.kept)).0
