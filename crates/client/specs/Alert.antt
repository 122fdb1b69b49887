-- An alert from the server, by the rule that both sides share (crates/handshake/specs/Alert.antt), R4 first.
use Rattle.std.specs.Prelude.{ℕ, cond, []}
use Rattle.refusal.specs.declared.Refusal.TheVariants.{ConnectionOver}
use Rattle.handshake.specs.Alert.{heard, heard_step}
use Rattle.handshake.specs.Step.{refuse}
use Rattle.client.specs.declared.Phase.{Phase}
use Rattle.client.specs.declared.Connection.{Connection}
use Rattle.client.specs.Connection.{ended, is_over}
use Rattle.client.specs.Step.{Step, Settled, settled}

abbrev pub alert_step : Connection → ℕ → ℕ → Step
alert_step c level description =
    cond (is_over c.phase) (refuse ConnectionOver) (heard_step (ended Phase.Closed) c (heard level description))

-- the call, which is lent no output
abbrev pub alert_call : Connection → ℕ → ℕ → Settled
alert_call c level description = settled c [] (alert_step c level description)
