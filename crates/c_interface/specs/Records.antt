-- Record connections as C has them, in 576 lent bytes (crates/saved_records/specs/Saved.antt), and the layout and protection of a record on numbers.
use Rattle.std.specs.Prelude.{◌≡◌, ℕ, true, cond, List, [], ◌∷◌, length, leb, ℤ, pos, Result, Ok, Err, Option, None, Some}
use Rattle.records.specs.declared.Content.{Content}
use Rattle.refusal.specs.declared.Refusal.{Refusal}
use Rattle.refusal.specs.declared.Refusal.TheVariants.{BadSetting, BadValue}
use Rattle.refusal.specs.Lent.{Outcome, refuses}
use Rattle.endian.specs.Number.{number}
use Rattle.lists.specs.Lists.{part}
use Rattle.handshake.specs.declared.Answer.{Answer}
use Rattle.handshake.specs.declared.Derived.{Derived}
use Rattle.records.specs.declared.ContentType.{ContentType}
use Rattle.records.specs.declared.State.{State}
use Rattle.records.specs.Record.{type_number, type_of, fragment_of, record_read}
use Rattle.records.specs.Protection.{sealing}
use Rattle.record_server.specs.declared.RecordConnection.{RecordConnection}
use Rattle.record_server.specs.Connection.{offered, no_alert, closed_with, record_start}
use Rattle.record_server.specs.Taking as Taking
use Rattle.saved_records.specs.Saved.{saved, restored}
use Rattle.c_interface.specs.Codes.{refusal_code, Reading, accepted, rejected}
use Rattle.c_interface.specs.Connections.{named_of}
use Rattle.c_interface.specs.Kept.{KeepsAs, StartsAs, master_after, blocks_after}

-- ---- a connection

-- a call that was lent the connection's bytes
abbrev pub KeepsRecord : Result ℕ Refusal → RecordConnection → (bytes : List ℕ) → ℤ → (bytes' : List ℕ) → Type 0
KeepsRecord = KeepsAs saved restored

-- a rule of 3 and above is R3
abbrev pub record_start_call : (random hint stand_in : List ℕ) → ℕ → Answer RecordConnection
record_start_call random hint stand_in rule =
    cond (leb rule 2) (record_start (record { random = random; hint = hint; stand_in = stand_in; named = named_of rule; suites = offered }))
    (record { said = Err BadSetting; next = closed_with no_alert })

-- the call that makes a connection
abbrev pub StartsRecord : Answer RecordConnection → (bytes : List ℕ) → ℤ → (bytes' : List ℕ) → Type 0
StartsRecord wanted = StartsAs saved restored wanted.said wanted.next

-- ---- a record that was taken

-- 1 where a master secret was handed over
abbrev pub handed_field : Option Derived → ℕ
handed_field None = 0
handed_field (Some d) = 1

-- whether there is application data, where it starts in the record, and its length
abbrev pub data_fields : Option ℕ → List ℕ
data_fields None = 0 ∷ 0 ∷ 0 ∷ []
data_fields (Some n) = 1 ∷ 5 ∷ n ∷ []

abbrev pub told_after : Result ℕ Refusal → Taking.Settled → List ℕ → List ℕ
told_after (Ok n) wanted told = handed_field wanted.master ∷ data_fields wanted.holds
told_after (Err r) wanted told = told

-- what is left in the output, the memory, the master secret, the four numbers and the number of the secret's blocks
pub record TakesRecord (wanted : Taking.Settled) (out' memory' master master' told told' : List ℕ) (blocks blocks' : ℕ) : Type 0 where
  pub out-left : out' ≡ wanted.out
  pub memory-left : memory' ≡ wanted.memory
  pub handed : master' ≡ master_after wanted.master master
  pub fields : told' ≡ told_after wanted.said wanted told
  pub counted : blocks' ≡ blocks_after wanted.master blocks

-- ---- a record's layout and protection

-- type, version, length of the fragment, which stands at 5
abbrev pub record_reading : List ℕ → Result ContentType Refusal → Reading
record_reading bytes (Ok kind) = accepted (type_number kind ∷ number (part 1 2 bytes) ∷ length (fragment_of bytes) ∷ [])
record_reading bytes (Err r) = rejected r

abbrev pub read_record : (added : ℕ) → List ℕ → Reading
read_record added bytes = record_reading bytes (record_read added bytes)

-- a direction's state under a MAC key
abbrev pub under : (key : List ℕ) → (sequence : ℕ) → State
under key sequence = record { protected = true; sequence = sequence; key = key }

-- a number that is no content type is R5
abbrev pub sealing_typed : State → List ℕ → Option ContentType → Outcome
sealing_typed s content None = refuses BadValue
sealing_typed s content (Some kind) = sealing s kind content

abbrev pub sealing_as : State → ℕ → List ℕ → Outcome
sealing_as s kind content = sealing_typed s content (type_of kind)

-- how many bytes behind the header are content
abbrev pub opened_code : Result Content Refusal → ℤ
opened_code (Ok content) = pos content.len
opened_code (Err r) = refusal_code r
