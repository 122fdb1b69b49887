-- The tests on the header of a message, by the type that is awaited, if one is (document 01, "Numbers that come back").
use Rattle.std.specs.Prelude.{ℕ, ◌+◌, cond, List, length, get_or, drop, leb, ltb, eqb, Result, Ok, Err, Option, None, Some}
use Rattle.refusal.specs.declared.Refusal.{Refusal}
use Rattle.endian.specs.Vector.{stated}
use Rattle.refusal.specs.declared.Refusal.TheVariants.{UnexpectedMessage, DecodeError}
use Rattle.layout.specs.Types.{message_limit}
use Rattle.layout.specs.Header.{header}

-- The tests on a header: fewer than 4 bytes 50, a type that isn't the awaited one 10, and so on; where none is awaited every type is 10.
abbrev pub header_test : Option ℕ → List ℕ → Result Unit Refusal
header_test (Some kind) m = header kind m
header_test None m = Err (cond (ltb (length m) 4) DecodeError UnexpectedMessage)

-- What is judged of a message as soon as the four bytes of its header are in, although the rest may not be (document 02, P5): the type is the awaited one, 10
-- otherwise, and the whole message is within the limit, 50 otherwise.
abbrev pub early_test : Option ℕ → List ℕ → Result Unit Refusal
early_test (Some kind) m =
    cond (eqb (get_or m 0 0) kind)
    (cond (leb (4 + stated 3 (drop 1 m)) message_limit) (Ok tt) (Err DecodeError))
    (Err UnexpectedMessage)
early_test None m = Err UnexpectedMessage
