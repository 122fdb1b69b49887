-- Taking a record (document 02, P5), in the order of its tests: R4, R9, those on the record and its MAC, those on what it holds; R1 comes last, for
-- the room that all answers of the record take together. Whatever R number comes, the whole record counts as not come.
use Rattle.std.specs.Prelude.{ℕ, ◌≡◌, Bool, cond, not, ◌&&◌, ◌||◌, List, [], ◌∷◌, ◌++◌, length, get_or, drop, leb, eqb, Result, Ok, Err, Option, None, Some}
use Rattle.records.specs.declared.Content.{Content}
use Rattle.lists.specs.Lists.{same, part}
use Rattle.refusal.specs.declared.Refusal.{Refusal}
use Rattle.refusal.specs.declared.Refusal.TheVariants.{ShortOutput, UnexpectedMessage, IllegalParameter, DecodeError, DecryptError}
use Rattle.refusal.specs.Table.{number_of}
use Rattle.handshake.specs.declared.Heard.{Heard}
use Rattle.handshake.specs.Alert.{heard}
use Rattle.handshake.specs.declared.Derived.{Derived}
use Rattle.handshake.specs.Step as Shared
use Rattle.server.specs.declared.Connection.{Connection}
use Rattle.server.specs.KeyExchange.{View}
use Rattle.server.specs.Step as Server
use Rattle.server.specs.Change.{change_step}
use Rattle.records.specs.declared.ContentType.{ContentType}
use Rattle.records.specs.Protection.{protected_by, counted, opened, content_of}
use Rattle.records.specs.Joining.{held_in}
use Rattle.record_server.specs.declared.Pending.{Pending}
use Rattle.record_server.specs.declared.RecordConnection.{RecordConnection}
use Rattle.record_server.specs.declared.Taken.{Taken}
use Rattle.record_server.specs.Connection.{keys_of, no_key, no_alert, is_complete, over_test, closed_with, after_refusal}
use Rattle.record_server.specs.Answering.{change_of_cipher, flight_records, writing_after}
use Rattle.record_server.specs.Joining as Judging
use Rattle.record_server.specs.Joining.{Progress, Judged, goes_on, is_empty, judged}

-- ---- what a record comes to, whatever the room

-- what is sent, the connection then, what is held of an unfinished message, the master secret with the number of its blocks if one is handed over, and
-- application data if there is some
pub record Accepted : Type 0 where
  pub answer : List ℕ
  pub next : RecordConnection
  pub held : List ℕ
  pub master : Option Derived
  pub holds : Option ℕ

pub data Step : Type 0 where
  refuse : Refusal → Step
  accept : Accepted → Step

-- one more record taken, and nothing else
abbrev pub one_more : RecordConnection → RecordConnection
one_more c =
    record {
      handshake = c.handshake;
      reading = counted c.reading;
      writing = c.writing;
      pending = c.pending;
      held = c.held;
      alert = c.alert;
    }

-- nothing is sent, and what is held stays
abbrev pub silently : RecordConnection → (held : List ℕ) → Option ℕ → Step
silently next held holds = accept (record { answer = []; next = next; held = held; master = None; holds = holds })

-- an alert: 47 for a level that is neither; a fatal one or close_notify closes without an answer; any other warning changes nothing
abbrev pub alert_step : RecordConnection → List ℕ → Heard → Step
alert_step c held Heard.Illegal = refuse IllegalParameter
alert_step c held Heard.Ends = silently (closed_with no_alert) held None
alert_step c held Heard.Ignored = silently (one_more c) held None

-- a change of cipher: the pending state becomes the current one (RFC 5246, section 6.1), and its numbers begin at 0
abbrev pub changed : RecordConnection → Connection → RecordConnection
changed c next =
    record {
      handshake = next;
      reading = protected_by c.pending.client;
      writing = c.writing;
      pending = record { client = no_key; server = c.pending.server };
      held = c.held;
      alert = c.alert;
    }

abbrev pub changed_by : RecordConnection → List ℕ → Server.Step → Step
changed_by c held (Shared.refuse r) = refuse r
changed_by c held (Shared.accept flight next) = silently (changed c next) held None

-- ---- handshake bytes

-- the keys of the pending states: made where a master secret was handed over
abbrev pub pending_with : Pending → Connection → Option Derived → Pending
pending_with pending next None = pending
pending_with pending next (Some d) = keys_of next

-- the server's key is pending no more when its change of cipher is sent
abbrev pub pending_after : Pending → List (List ℕ) → Pending
pending_after pending [] = pending
pending_after pending (m ∷ ms) = record { client = pending.client; server = no_key }

abbrev pub progressed : RecordConnection → Progress → Pending → Accepted
progressed c p pending =
    record {
      answer = flight_records c.writing pending.server p.flight;
      next =
          record {
            handshake = p.connection;
            reading = counted c.reading;
            writing = writing_after c.writing pending.server p.flight;
            pending = pending_after pending p.flight.protected;
            held = length p.left;
            alert = c.alert;
          };
      held = p.left;
      master = p.master;
      holds = None;
    }

abbrev pub handshake_step : RecordConnection → Judged → Step
handshake_step c (Judging.refuse r) = refuse r
handshake_step c (goes_on p) = accept (progressed c p (pending_with c.pending p.connection p.master))

-- ---- what is in a record

-- In P5's order. 10: application data before completion, handshake bytes after it, a change of cipher after it or amid an unfinished message. 50: an
-- empty handshake fragment, an alert not of two bytes, a change of cipher that isn't the one byte 01.
abbrev pub content_test : ContentType → (complete amid : Bool) → List ℕ → Result Unit Refusal
content_test ContentType.ApplicationData complete amid content = cond complete (Ok tt) (Err UnexpectedMessage)
content_test ContentType.Handshake complete amid content =
    cond (is_empty content) (Err DecodeError) (cond complete (Err UnexpectedMessage) (Ok tt))
content_test ContentType.ChangeCipherSpec complete amid content =
    cond (complete || amid) (Err UnexpectedMessage) (cond (same content change_of_cipher) (Ok tt) (Err DecodeError))
content_test ContentType.Alert complete amid content = cond (eqb (length content) 2) (Ok tt) (Err DecodeError)

abbrev pub content_step : View → RecordConnection → (held content : List ℕ) → ContentType → Step
content_step v c held content ContentType.ApplicationData = silently (one_more c) held (Some (length content))
content_step v c held content ContentType.Alert = alert_step c held (heard (get_or content 0 0) (get_or content 1 0))
content_step v c held content ContentType.ChangeCipherSpec = changed_by c held (change_step c.handshake c.handshake.phase)
content_step v c held content ContentType.Handshake = handshake_step c (judged v c.handshake (held ++ content))

-- a test that stands before what the record comes to
abbrev pub after_test : Result Unit Refusal → Step → Step
after_test (Ok tt) step = step
after_test (Err r) step = refuse r

-- its tests, and then what it comes to
abbrev pub content_decided : View → RecordConnection → (held content : List ℕ) → ContentType → Step
content_decided v c held content kind =
    after_test (content_test kind (is_complete c.handshake.phase) (not (is_empty held)) content) (content_step v c held content kind)

-- ---- the tests in their order

-- the first record under the client's protection, which its Finished begins with
abbrev pub is_first : RecordConnection → Bool
is_first c = c.reading.protected && eqb c.reading.sequence 0

-- a bad MAC is 51 in the first one, and 20 in a later one
abbrev pub refused_as : RecordConnection → Refusal → Refusal
refused_as c r = cond (is_first c && eqb (number_of r) 20) DecryptError r

-- the first one is 51 whatever its MAC where the identity is unlisted
abbrev pub unlisted_first : RecordConnection → Bool
unlisted_first c = is_first c && not c.handshake.client.listed

abbrev pub opened_step : View → RecordConnection → (held bytes : List ℕ) → Result Content Refusal → Step
opened_step v c held bytes (Err r) = refuse (refused_as c r)
opened_step v c held bytes (Ok content) =
    cond (unlisted_first c) (refuse DecryptError) (content_decided v c held (content_of c.reading bytes) content.kind)

abbrev pub take_step : View → RecordConnection → (memory bytes : List ℕ) → Step
take_step v c memory bytes =
    after_test (over_test c.handshake.phase c.reading.sequence) (opened_step v c (held_in memory c.held) bytes (opened c.reading bytes))

-- ---- what the call gives back

-- what is said, the connection, the lent output and the lent memory afterwards, the master secret with the number of its blocks if one is handed over, and
-- application data
pub record Settled : Type 0 where
  pub said : Result ℕ Refusal
  pub next : RecordConnection
  pub out : List ℕ
  pub memory : List ℕ
  pub master : Option Derived
  pub holds : Option ℕ

abbrev pub refused : RecordConnection → (out memory : List ℕ) → Refusal → Settled
refused c out memory r =
    record { said = Err r; next = after_refusal r c; out = out; memory = memory; master = None; holds = None }

-- bytes at the front of lent memory
abbrev pub front : List ℕ → List ℕ → List ℕ
front bytes memory = bytes ++ drop (length bytes) memory

-- R1 where the output is shorter than the answer, or the memory than what is to be held in it
abbrev pub settled : RecordConnection → (out memory : List ℕ) → Step → Settled
settled c out memory (refuse r) = refused c out memory r
settled c out memory (accept a) =
    cond (leb (length a.answer) (length out) && leb (length a.held) (length memory))
    (record {
      said = Ok (length a.answer);
      next = a.next;
      out = front a.answer out;
      memory = front a.held memory;
      master = a.master;
      holds = a.holds;
    })
    (refused c out memory ShortOutput)

abbrev pub take_call : View → RecordConnection → (bytes memory out : List ℕ) → Settled
take_call v c bytes memory out = settled c out memory (take_step v c memory bytes)

-- as the code's type has it
abbrev pub taken : Settled → Taken
taken s = record { said = s.said; holds = s.holds; handed = s.master; next = s.next }

-- A call that was to come to `wanted` gave this back and left this.
pub record Takes (wanted : Settled) (given : Taken) (out memory : List ℕ) : Type 0 where
  pub gives : given ≡ taken wanted
  pub out-left : out ≡ wanted.out
  pub memory-left : memory ≡ wanted.memory

-- the application data as that part of the record, none where there is none
abbrev pub data_in : Option ℕ → List ℕ → List ℕ
data_in None bytes = []
data_in (Some n) bytes = part 5 n bytes
