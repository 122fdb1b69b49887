-- `c_interface::connection::tn_message`: what `server::message` replied, kept.
use Rattle.server.specs.declared.Phase.{Phase}
use Rattle.server.specs.declared.Connection.{Connection}
use Rattle.server.specs.Connection.{ended}
use Rattle.server.specs.Step.{settled}
use Rattle.server.specs.KeyExchange.{view_of}
use Rattle.server.specs.Message.{message_step}
use Rattle.c_interface.specs.Connections.{handed_by}
use Rattle.c_interface.proofs.Keeping.{kept-as, step_keeps, reply-parts}
use Rattle.c_interface.proofs.connection.tn_message.Goals as goal

pub returns-clause-keeps : goal.returns-clause-keeps
returns-clause-keeps c =
    let a = c.args in
    let v = view_of a.table.now a.starts.now a.count in
    let was = c.restore.result in
    let step = λ (x : Connection). message_step v x a.message.now x.phase in
    let parts = reply-parts (settled was a.out.now (step was)) (handed_by v was a.message.now) c.message-reply.ensures.value.0 in
    step_keeps (ended Phase.Closed) a.connection.now a.out.now step c.restore.ensures parts.0 parts.1 c.keep.type_inv c.keep.ensures.value (kept-as c.save.ensures.value c.save.ensures.result_value c.keep.ensures.kept)
