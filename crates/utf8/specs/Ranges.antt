-- UTF-8 a second time, by the table of byte ranges of RFC 3629, section 4, to check Utf8.antt against: it takes nothing from there.
use Rattle.std.specs.Prelude.{◌≡◌, ℕ, Bool, true, false, ◌&&◌, leb}
use mathlib.Core.List.{List, [], ◌∷◌, flatten}
use Rattle.lists.specs.Lists.{each, any}

-- bytes from `low` to `high`, both among them
pub record Range : Type 0 where
  pub low : ℕ
  pub high : ℕ

infix 70 ◌to◌
abbrev pub ◌to◌ : ℕ → ℕ → Range
a to b = record { low = a; high = b }

-- a byte behind the first, where the row asks no more of it
abbrev pub tail : Range
tail = 0x80 to 0xBF

-- Section 4: the rows of UTF8-1, UTF8-2, UTF8-3 and UTF8-4 in its order, with a range for each byte.
abbrev pub syntax : List (List Range)
syntax =
    (0x00 to 0x7F ∷ [])
    ∷ (0xC2 to 0xDF ∷ tail ∷ [])
    ∷ (0xE0 to 0xE0 ∷ 0xA0 to 0xBF ∷ tail ∷ [])
    ∷ (0xE1 to 0xEC ∷ tail ∷ tail ∷ [])
    ∷ (0xED to 0xED ∷ 0x80 to 0x9F ∷ tail ∷ [])
    ∷ (0xEE to 0xEF ∷ tail ∷ tail ∷ [])
    ∷ (0xF0 to 0xF0 ∷ 0x90 to 0xBF ∷ tail ∷ tail ∷ [])
    ∷ (0xF1 to 0xF3 ∷ tail ∷ tail ∷ tail ∷ [])
    ∷ (0xF4 to 0xF4 ∷ 0x80 to 0x8F ∷ tail ∷ tail ∷ [])
    ∷ []

-- the bytes are as many as the row's ranges, each within its own
abbrev pub fits : List Range → List ℕ → Bool
fits [] [] = true
fits [] (b ∷ s) = false
fits (r ∷ rs) [] = false
fits (r ∷ rs) (b ∷ s) = (leb r.low b && leb b r.high) && fits rs s

-- the bytes are one character: they fit some row
abbrev pub in_syntax : List ℕ → Bool
in_syntax c = any (λ (row : List Range). fits row c) syntax

-- A text (UTF8-octets): any number of characters, whose bytes, one character after another, are all there is.
pub record Text (s : List ℕ) : Type 0 where
  pub characters : List (List ℕ)
  pub good : each in_syntax characters ≡ true
  pub bytes : s ≡ flatten characters
