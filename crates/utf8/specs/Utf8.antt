-- UTF-8 (RFC 3629): which bytes are the text of characters, one after another. Used for identities and for the hint.
use Rattle.std.specs.Prelude.{ℕ, zero, suc, ◌+◌, ◌-◌, ◌*◌, ◌/◌, ◌%◌, Bool, true, false, cond, not, ◌&&◌, List, [], ◌∷◌, length, take, leb, eqb}
use Rattle.std.specs.Int.Count.{count_leading_zeros}
use Rattle.lists.specs.Lists.{each}
use Rattle.utf8.specs.declared.Row.{Row}

-- The one bits at the front of a byte: the zero bits at the front of its complement.
abbrev pub leading_ones : ℕ → ℕ
leading_ones b = count_leading_zeros 8 (255 - b)

-- Document 01: the one bits at the front of the first byte count the bytes of a character, none standing for one byte; 1 and more than 4 are bad. A bad
-- byte begins a character of no bytes, and there is none such.
abbrev pub size_of : ℕ → ℕ
size_of ones = cond (eqb ones 0) 1 (cond (leb 2 ones && leb ones 4) ones 0)

-- how many bytes the character has that begins with the byte b
abbrev pub size : ℕ → ℕ
size b = size_of (leading_ones b)

-- The table of section 3, by the count of bytes: the x bits of the first byte a (0xxxxxxx, 110xxxxx, 1110xxxx, 11110xxx), and the row's least
-- character number.
abbrev pub row : ℕ → ℕ → Row
row n a =
    cond (eqb n 1) (record { bits = a % 128; least = 0 })
    (cond (eqb n 2) (record { bits = a % 32; least = 0x80 })
    (cond (eqb n 3) (record { bits = a % 16; least = 0x800 })
    (record { bits = a % 8; least = 0x10000 })))

-- a byte 10xxxxxx
abbrev pub tail : ℕ → Bool
tail b = eqb (b / 64) 2

-- the number with the x bits of the bytes 10xxxxxx behind it
abbrev pub number : ℕ → List ℕ → ℕ
number v [] = v
number v (b ∷ s) = number (v * 64 + b % 64) s

-- A character number v, in the row whose least number is `least`: a smaller one would be overlong, D800 to DFFF are no characters
-- (section 3), and the last is 10FFFF.
abbrev pub allowed : ℕ → ℕ → Bool
allowed least v = leb least v && leb v 0x10FFFF && not (leb 0xD800 v && leb v 0xDFFF)

-- The bytes are one character: as many as the first has it, bytes 10xxxxxx behind it, and an allowed number.
abbrev pub character : List ℕ → Bool
character [] = false
character (a ∷ s) = eqb (size a) (length (a ∷ s)) && (each tail s && allowed (row (size a) a).least (number (row (size a) a).bits s))

-- The text after so many bytes that a character, judged already, still has.
abbrev pub valid_after : ℕ → List ℕ → Bool
valid_after zero [] = true
valid_after (suc k) [] = false
valid_after zero (b ∷ s) = character (take (size b) (b ∷ s)) && valid_after (size b - 1) s
valid_after (suc k) (b ∷ s) = valid_after k s

-- Characters, one after another, are all there is.
unfoldable pub valid_utf8 : List ℕ → Bool
valid_utf8 s = valid_after 0 s
