-- A series of calls on a client's connection (crates/handshake/specs/Series.antt), by the very definitions that the client's contracts name.
use Rattle.std.specs.Prelude.{List}
use Rattle.handshake.specs.Series as Shared
use Rattle.handshake.specs.Series.{Call, message, change_of_cipher, alert}
use Rattle.client.specs.declared.Connection.{Connection}
use Rattle.client.specs.Step.{Settled}
use Rattle.client.specs.Message.{message_call}
use Rattle.client.specs.Change.{change_call}
use Rattle.client.specs.Alert.{alert_call}

abbrev pub call : Connection → Call → Settled
call c (message bytes out) = message_call c bytes out
call c change_of_cipher = change_call c
call c (alert level description) = alert_call c level description

abbrev pub run : Connection → List Call → Connection
run = Shared.run call
