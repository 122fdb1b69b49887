-- A flight: the messages that a step has for the peer, in the order in which they are sent.
use Rattle.std.specs.Prelude.{List, [], ◌∷◌, ◌++◌, ℕ, Result, Ok, Err}
use Rattle.refusal.specs.declared.Refusal.{Refusal}

-- Those that go out before the sender's change of cipher, and those behind it. A layer that makes records puts each message in one of its own, and the
-- change of cipher between the two lists where the second is not empty.
pub record Flight : Type 0 where
  pub plain : List (List ℕ)
  pub protected : List (List ℕ)

-- nothing to send
abbrev pub silence : Flight
silence = record { plain = []; protected = [] }

-- messages one behind the other
abbrev pub joined : List (List ℕ) → List ℕ
joined [] = []
joined (m ∷ ms) = m ++ joined ms

-- the longest flight: a ServerHello of 42 bytes, a ServerKeyExchange with a hint of 128, a ServerHelloDone
abbrev pub longest : ℕ
longest = 180

-- how many bytes a call says that it wrote
abbrev pub counted : Result ℕ Refusal → ℕ
counted (Ok n) = n
counted (Err r) = 0

-- the bytes of a flight, as they go to the lent output and to the transcript
abbrev pub flight_bytes : Flight → List ℕ
flight_bytes f = joined f.plain ++ joined f.protected
