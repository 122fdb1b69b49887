-- A received alert, two byte values (document 01, "The server's steps"; RFC 5246, section 7.2); what it comes to by itself is both sides' (crates/handshake).
use Rattle.std.specs.Prelude.{ℕ, cond, []}
use Rattle.refusal.specs.declared.Refusal.TheVariants.{ConnectionOver}
use Rattle.handshake.specs.Alert.{heard, heard_step}
use Rattle.handshake.specs.Step.{refuse}
use Rattle.server.specs.declared.Phase.{Phase}
use Rattle.server.specs.declared.Connection.{Connection}
use Rattle.server.specs.Connection.{ended, is_over}
use Rattle.server.specs.Step.{Step, Settled, settled}

-- R4 first
abbrev pub alert_step : Connection → ℕ → ℕ → Step
alert_step c level description =
    cond (is_over c.phase) (refuse ConnectionOver) (heard_step (ended Phase.Closed) c (heard level description))

-- the call, which is lent no output
abbrev pub alert_call : Connection → ℕ → ℕ → Settled
alert_call c level description = settled c [] (alert_step c level description)
