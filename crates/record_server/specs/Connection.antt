-- A record connection (document 02, P5): a connection of the server's, and around it the connection states of RFC 5246, section 6.1, one for each
-- direction.
use Rattle.std.specs.Prelude.{ℕ, ◌-◌, Bool, true, false, cond, List, [], ◌∷◌, ◌++◌, length, take, replicate, eqb, Result, Ok, Err}
use Rattle.lists.specs.Lists.{part}
use Rattle.refusal.specs.declared.Refusal.{Refusal}
use Rattle.refusal.specs.declared.Refusal.TheVariants.{ConnectionOver, SequenceSpent}
use Rattle.refusal.specs.Table.{number_of}
use Rattle.refusal.specs.Lent.{bytes_of}
use Rattle.keys.specs.Secrets.{keys}
use Rattle.handshake.specs.declared.Answer.{Answer}
use Rattle.handshake.specs.Alert.{fatal}
use Rattle.handshake.specs.Step as Shared
use Rattle.server.specs.declared.Phase.{Phase}
use Rattle.server.specs.declared.Connection.{Connection}
use Rattle.server.specs.Connection.{Settings, ended, start_answer}
use Rattle.records.specs.declared.ContentType.{ContentType}
use Rattle.records.specs.declared.State.{State}
use Rattle.records.specs.Protection.{initial_state, last_sequence, sealed}
use Rattle.record_server.specs.declared.Pending.{Pending}
use Rattle.record_server.specs.declared.ClosingAlert.{ClosingAlert}
use Rattle.record_server.specs.declared.RecordConnection.{RecordConnection}

-- ---- the suite

-- TLS_PSK_WITH_NULL_SHA256
abbrev pub null_suite : ℕ
null_suite = 0x00b0

-- a record connection offers it alone: it stands in each of the three places
abbrev pub offered : List ℕ
offered = null_suite ∷ null_suite ∷ null_suite ∷ []

-- RFC 5246, 6.3: the first bytes of the key block are the client's MAC key, the next the server's
abbrev pub key_block : Connection → List ℕ
key_block c = bytes_of (keys c.secrets.master c.setup.random c.client.random null_suite)

abbrev pub keys_of : Connection → Pending
keys_of c = record { client = part 0 32 (key_block c); server = part 32 32 (key_block c) }

-- ---- start

abbrev pub no_key : List ℕ
no_key = replicate 32 0

abbrev pub no_alert : ClosingAlert
no_alert = record { length = 0; bytes = replicate 39 0 }

-- around a connection of the server's that has taken and sent nothing
abbrev pub around : Connection → ClosingAlert → RecordConnection
around c alert =
    record {
      handshake = c;
      reading = initial_state;
      writing = initial_state;
      pending = record { client = no_key; server = no_key };
      held = 0;
      alert = alert;
    }

-- what start was given, with the one suite; R3 as for the server's own start
abbrev pub record_start : Settings → Answer RecordConnection
record_start s = record { said = (start_answer s).said; next = around (start_answer s).next no_alert }

-- ---- complete and closed

abbrev pub is_closed : Phase → Bool
is_closed Phase.Hello = false
is_closed Phase.KeyExchange = false
is_closed Phase.Change = false
is_closed Phase.Finished = false
is_closed Phase.Complete = false
is_closed Phase.Closed = true

abbrev pub is_complete : Phase → Bool
is_complete Phase.Hello = false
is_complete Phase.KeyExchange = false
is_complete Phase.Change = false
is_complete Phase.Finished = false
is_complete Phase.Complete = true
is_complete Phase.Closed = false

-- R4 on a closed connection, and R9 for a record under the last sequence number: what every call begins with
abbrev pub over_test : Phase → (sequence : ℕ) → Result Unit Refusal
over_test phase sequence =
    cond (is_closed phase) (Err ConnectionOver)
    (cond (eqb sequence last_sequence) (Err SequenceSpent) (Ok tt))

-- A closed connection has no secret and no trace of the client. It keeps the record of the alert that closed it, for the host to send.
abbrev pub closed_with : ClosingAlert → RecordConnection
closed_with alert = around (ended Phase.Closed) alert

-- a record of at most 39 bytes, with zeros behind it
abbrev pub kept : List ℕ → ClosingAlert
kept bytes = record { length = length bytes; bytes = bytes ++ replicate (39 - length bytes) 0 }

-- The record of a fatal alert under the protection of the moment; under the last sequence number none can be sent.
abbrev pub closing_alert : State → ℕ → ClosingAlert
closing_alert writing number = cond (eqb writing.sequence last_sequence) no_alert (kept (sealed writing ContentType.Alert (fatal ∷ number ∷ [])))

-- the record that is left to be sent, if there is one
abbrev pub alert_of : RecordConnection → List ℕ
alert_of c = take c.alert.length c.alert.bytes

-- ---- what a refusal does to a connection: the table's last column

abbrev pub after_refusal : Refusal → RecordConnection → RecordConnection
after_refusal r c = Shared.after_refusal (closed_with (closing_alert c.writing (number_of r))) r c
