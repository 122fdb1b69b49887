-- A Finished value (RFC 5246, section 7.4.9), as either side judges the other's.
use Rattle.std.specs.Prelude.{ℕ, Bool, false, List}
use Rattle.refusal.specs.Lent.{Outcome, gives, refuses}
use Rattle.lists.specs.Lists.{same}

-- the bytes of a Finished value, and of the message that carries it
abbrev pub verify_data_length : ℕ
verify_data_length = 12

abbrev pub finished_length : ℕ
finished_length = 16

-- the value is that one; none is where the transcript is past the hash's limit, which no series of calls reaches
abbrev pub is_value : List ℕ → Outcome → Bool
is_value value (gives b) = same value b
is_value value (refuses r) = false
