-- Vectors with their length in front (RFC 5246, section 4.3), for every width w of the length field.
use Rattle.std.specs.Prelude.{ℕ, ◌+◌, ◌^◌, Bool, cond, List, ◌++◌, length, take, drop, leb, ltb, Option, None, Some}
use Rattle.endian.specs.Number.{be, number}

-- a length that w bytes hold; a longer vector can't be written
abbrev pub writable : ℕ → List ℕ → Bool
writable w xs = ltb (length xs) (256 ^ w)

abbrev pub vector : ℕ → List ℕ → List ℕ
vector w xs = be w (length xs) ++ xs

-- a vector that was read, and what stands after it
pub record Split : Type 0 where
  pub contents : List ℕ
  pub rest : List ℕ

-- the length that stands in front of bs
abbrev pub stated : ℕ → List ℕ → ℕ
stated w bs = number (take w bs)

-- The vector at the front of bs; none where it is cut off: bs ends before the length field or the contents do.
abbrev pub split : ℕ → List ℕ → Option Split
split w bs =
    cond (leb (w + stated w bs) (length bs))
    (Some (record { contents = take (stated w bs) (drop w bs); rest = drop (w + stated w bs) bs }))
    None
