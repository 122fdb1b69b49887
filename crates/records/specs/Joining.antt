-- Handshake messages in the bytes of records (RFC 5246, section 6.2.1): several in one record, or one over several. Where one ends is said by its header.
use Rattle.std.specs.Prelude.{ℕ, ◌+◌, Bool, cond, ◌||◌, List, [], length, take, drop, ltb}
use Rattle.endian.specs.Vector.{stated}

-- where the first message ends, by the four bytes of its header
abbrev pub message_end : List ℕ → ℕ
message_end bytes = 4 + stated 3 (drop 1 bytes)

-- the bytes are less than a message: the header is not in, or the rest is not
abbrev pub unfinished : List ℕ → Bool
unfinished bytes = ltb (length bytes) 4 || ltb (length bytes) (message_end bytes)

-- What lent memory holds of a message that is not finished, of which so many bytes are kept there. Bytes that are a whole message or more are none that a
-- call has kept, and count as nothing.
abbrev pub held_in : List ℕ → ℕ → List ℕ
held_in memory n = cond (unfinished (take n memory)) (take n memory) []
