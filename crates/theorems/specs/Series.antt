-- A series of calls on one connection of the server's (document 01, "The series of demand 3"), and what is compared of it.
use Rattle.std.specs.Prelude.{ℕ, List, [], ◌∷◌, Result}
use Rattle.refusal.specs.declared.Refusal.{Refusal}
use Rattle.handshake.specs.Series as Shared
use Rattle.handshake.specs.Series.{Call, message, change_of_cipher, alert}
use Rattle.server.specs.declared.Connection.{Connection}
use Rattle.server.specs.KeyExchange.{View}
use Rattle.server.specs.Step.{Settled}
use Rattle.server.specs.Message.{message_call}
use Rattle.server.specs.Change.{change_call}
use Rattle.server.specs.Alert.{alert_call}

-- a call on a connection, by the very definitions that the server's contracts name
abbrev pub call : View → Connection → Call → Settled
call v c (message bytes out) = message_call v c bytes out
call v c change_of_cipher = change_call c
call v c (alert level description) = alert_call c level description

-- each call with the same table
abbrev pub run : View → Connection → List Call → Connection
run v = Shared.run (call v)

-- what is compared of a call: the alert or refusal or the answer's length, which are in what is said, and all of the output afterwards
pub record Seen : Type 0 where
  pub said : Result ℕ Refusal
  pub out : List ℕ

abbrev pub seen : Settled → Seen
seen s = record { said = s.said; out = s.out }

abbrev pub answers : View → Connection → List Call → List Seen
answers v c [] = []
answers v c (x ∷ xs) = seen (call v c x) ∷ answers v (call v c x).next xs
