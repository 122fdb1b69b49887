-- The tests on a header, in document 01's order ("Numbers that come back").
use Rattle.std.specs.Prelude.{ℕ, ◌-◌, cond, List, length, get_or, drop, leb, ltb, eqb, Result, Ok, Err}
use Rattle.refusal.specs.declared.Refusal.{Refusal}
use Rattle.endian.specs.Vector.{stated}
use Rattle.refusal.specs.declared.Refusal.TheVariants.{DecodeError, UnexpectedMessage}
use Rattle.layout.specs.Types.{message_limit}

-- The tests on a header, in order: under 4 bytes is 50, a type other than the awaited one 10, a length that is not that of the rest 50, and a message
-- over the limit 50.
abbrev pub header : ℕ → List ℕ → Result Unit Refusal
header kind m =
    cond (ltb (length m) 4) (Err DecodeError)
    (cond (eqb (get_or m 0 0) kind)
    (cond (eqb (stated 3 (drop 1 m)) (length m - 4)) (cond (leb (length m) message_limit) (Ok tt) (Err DecodeError)) (Err DecodeError))
    (Err UnexpectedMessage))
