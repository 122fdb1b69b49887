-- What a refusal does to a record connection, by who is given it.
-- Assumes nothing.
use mathlib.Core.Path.{◌≡◌}
use mathlib.Core.Bool.{cond}
use Rattle.refusal.specs.declared.Refusal.{Refusal}
use Rattle.refusal.specs.Table.{to_peer, number_of}
use Rattle.handshake.proofs.Refusals as Shared
use Rattle.record_server.specs.declared.RecordConnection.{RecordConnection}
use Rattle.record_server.specs.Connection.{closed_with, closing_alert, after_refusal}

-- an alert closes the connection, an R number leaves it as it was
pub alerts-close : (r : Refusal) (c : RecordConnection) → after_refusal r c ≡ cond (to_peer r) (closed_with (closing_alert c.writing (number_of r))) c
alerts-close r c = Shared.alerts-close (closed_with (closing_alert c.writing (number_of r))) r c
