-- `c_interface::client_connection::tn_client_message`: what `client::message` replied, kept.
use Rattle.client.specs.declared.Phase.{Phase}
use Rattle.client.specs.declared.Connection.{Connection}
use Rattle.client.specs.Connection.{ended}
use Rattle.client.specs.Message.{message_call, message_step}
use Rattle.c_interface.proofs.Keeping.{kept-as, step_keeps, reply-parts}
use Rattle.c_interface.proofs.client_connection.tn_client_message.Goals as goal

pub returns-clause-keeps : goal.returns-clause-keeps
returns-clause-keeps c =
    let a = c.args in
    let call = message_call c.restore.result a.message.now a.out.now in
    let step = λ (x : Connection). message_step x a.message.now x.phase in
    let parts = reply-parts call _ c.message-reply.ensures.value.0 in
    step_keeps (ended Phase.Closed) a.client.now a.out.now step c.restore.ensures parts.0 parts.1 c.keep.type_inv c.keep.ensures.value (kept-as c.save.ensures.value c.save.ensures.result_value c.keep.ensures.kept)
