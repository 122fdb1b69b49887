-- What a record connection sends by itself (document 02, P5): application data after completion, and close_notify.
use Rattle.std.specs.Prelude.{cond, List, [], ◌∷◌, ℕ, length, Result, Ok, Err}
use Rattle.refusal.specs.declared.Refusal.{Refusal}
use Rattle.refusal.specs.declared.Refusal.TheVariants.{BadValue}
use Rattle.refusal.specs.Lent.{Outcome, gives, refuses, within, answer, after}
use Rattle.handshake.specs.Alert.{warning, close_notify}
use Rattle.handshake.specs.Step.{Settled}
use Rattle.records.specs.declared.ContentType.{ContentType}
use Rattle.records.specs.Protection.{counted, sealing}
use Rattle.record_server.specs.declared.RecordConnection.{RecordConnection}
use Rattle.record_server.specs.Connection.{no_alert, is_complete, over_test, closed_with, after_refusal}

-- R4, then R9
abbrev pub after_over : Result Unit Refusal → Outcome → Outcome
after_over (Ok tt) wanted = wanted
after_over (Err r) wanted = refuses r

abbrev pub unless_over : RecordConnection → Outcome → Outcome
unless_over c wanted = after_over (over_test c.handshake.phase c.writing.sequence) wanted

-- one more record sent
abbrev pub after_sending : RecordConnection → RecordConnection
after_sending c =
    record {
      handshake = c.handshake;
      reading = c.reading;
      writing = counted c.writing;
      pending = c.pending;
      held = c.held;
      alert = c.alert;
    }

-- application data: R5 before completion, and, by `sealing`, for more than a record holds
abbrev pub data_record : RecordConnection → List ℕ → Outcome
data_record c content =
    unless_over c (cond (is_complete c.handshake.phase) (sealing c.writing ContentType.ApplicationData content) (refuses BadValue))

-- close_notify, under the protection of the moment
abbrev pub close_record : RecordConnection → Outcome
close_record c = unless_over c (sealing c.writing ContentType.Alert (warning ∷ close_notify ∷ []))

-- what the call gives back, which leads to `next` where its record was written
abbrev pub next_after : RecordConnection → RecordConnection → Outcome → RecordConnection
next_after c next (gives bytes) = next
next_after c next (refuses r) = after_refusal r c

abbrev pub settled : RecordConnection → RecordConnection → List ℕ → Outcome → Settled RecordConnection
settled c next out wanted =
    record {
      said = answer (within (length out) wanted);
      next = next_after c next (within (length out) wanted);
      out = after (within (length out) wanted) out;
    }

abbrev pub send_call : RecordConnection → (content out : List ℕ) → Settled RecordConnection
send_call c content out = settled c (after_sending c) out (data_record c content)

abbrev pub close_call : RecordConnection → (out : List ℕ) → Settled RecordConnection
close_call c out = settled c (closed_with no_alert) out (close_record c)
