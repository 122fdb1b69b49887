-- A flight as records (document 02, P5): each message and the change of cipher in a record of its own.
use Rattle.std.specs.Prelude.{ℕ, List, [], ◌∷◌, ◌++◌}
use Rattle.handshake.specs.Flight.{Flight}
use Rattle.records.specs.declared.ContentType.{ContentType}
use Rattle.records.specs.declared.State.{State}
use Rattle.records.specs.Protection.{protected_by, counted, sealed}

-- the one byte of a change of cipher (RFC 5246, section 7.1)
abbrev pub change_of_cipher : List ℕ
change_of_cipher = 1 ∷ []

-- messages, each in a record, from this state on, and the state behind them
abbrev pub message_records : State → List (List ℕ) → List ℕ
message_records s [] = []
message_records s (m ∷ ms) = sealed s ContentType.Handshake m ++ message_records (counted s) ms

abbrev pub counted_over : State → List (List ℕ) → State
counted_over s [] = s
counted_over s (m ∷ ms) = counted_over (counted s) ms

-- where there are messages behind the server's change of cipher: that, and then they under the key of the pending state
abbrev pub change_records : State → (key : List ℕ) → List (List ℕ) → List ℕ
change_records s key [] = []
change_records s key (m ∷ ms) = sealed s ContentType.ChangeCipherSpec change_of_cipher ++ message_records (protected_by key) (m ∷ ms)

abbrev pub state_behind : State → (key : List ℕ) → List (List ℕ) → State
state_behind s key [] = s
state_behind s key (m ∷ ms) = counted_over (protected_by key) (m ∷ ms)

-- the records of a flight
abbrev pub flight_records : State → (key : List ℕ) → Flight → List ℕ
flight_records s key f = message_records s f.plain ++ change_records (counted_over s f.plain) key f.protected

-- the server's state behind it
abbrev pub writing_after : State → (key : List ℕ) → Flight → State
writing_after s key f = state_behind (counted_over s f.plain) key f.protected
