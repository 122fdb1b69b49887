-- `record_server::taking::change`: what the server's call said decides.
use Rattle.std.proofs.Common.{◌∙◌}
use Rattle.record_server.proofs.Decisions.{same_step, change-said}
use Rattle.record_server.proofs.taking.change.Goals as goal

pub returns : goal.returns
returns c memory held bytes =
    let conn = c.args.c in
    let said = change-said conn held conn.handshake conn.handshake.phase c.change_of_cipher-answer.ensures in
    same_step (said ∙ rw c.in_ok-answer.was) (rw c.after_change.ensures at (c.silent.ensures memory held bytes))
