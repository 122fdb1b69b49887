-- What the contracts of private functions of src/flight.rt and src/sending.rt cite. Nothing that a public contract says stands here.
use Rattle.std.specs.Prelude.{ℕ, ◌≤◌, ◌≡◌, Bool, true, false, cond, List, [], ◌∷◌, ◌++◌, length, drop, eqb, Result, Ok, Err}
use Rattle.refusal.specs.declared.Refusal.{Refusal}
use Rattle.handshake.specs.declared.Answer.{Answer}
use Rattle.handshake.specs.Flight.{Flight}
use Rattle.records.specs.declared.State.{State}
use Rattle.record_server.specs.declared.Pending.{Pending}
use Rattle.record_server.specs.declared.RecordConnection.{RecordConnection}
use Rattle.record_server.specs.declared.flight.Put.{Put}
use Rattle.record_server.specs.declared.flight.Sent.{Sent}
use Rattle.record_server.specs.Taking.{pending_after}
use Rattle.record_server.specs.Connection.{no_key}
use Rattle.record_server.specs.Answering.{flight_records, writing_after}

-- ---- sending

-- what a call gives back that said this and was to lead to `next`
abbrev pub settled_by : RecordConnection → RecordConnection → Result ℕ Refusal → Answer RecordConnection
settled_by c next (Ok n) = record { said = Ok n; next = next }
settled_by c next (Err r) = record { said = Err r; next = c }

-- ---- a flight's records at the front of an output

abbrev pub pending_if : Pending → Bool → Pending
pending_if pending true = record { client = pending.client; server = no_key }
pending_if pending false = pending

-- bytes that were put there, and the state and the place in the messages behind them
pub record Puts (wanted : List ℕ) (behind : State) (n : ℕ) (out : List ℕ) (r : Put) (out' : List ℕ) : Type 0 where
  pub size : r.len ≡ length wanted
  pub bytes : out' ≡ wanted ++ drop (length wanted) out
  pub state : r.writing ≡ behind
  pub used : r.used ≡ n

-- a flight's records
pub record Sends (s : State) (key : List ℕ) (f : Flight) (out : List ℕ) (r : Sent) (out' : List ℕ) : Type 0 where
  pub size : r.len ≡ length (flight_records s key f)
  pub bytes : out' ≡ flight_records s key f ++ drop (length (flight_records s key f)) out
  pub state : r.writing ≡ writing_after s key f
  pub change : (pending : Pending) → pending_if pending r.changed ≡ pending_after pending f.protected
  pub fits : r.len ≤ 336

-- ---- messages among lengths

-- one of them is not 0
abbrev pub some_message : List ℕ → Bool
some_message [] = false
some_message (n ∷ ns) = cond (eqb n 0) (some_message ns) true
