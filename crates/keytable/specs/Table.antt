-- The key table (document 01, "The key table"): lines `identity:hex`, each with a byte 0A at its end. The test that a table is well formed, and the
-- key that stands in it for an identity.
use Rattle.std.specs.Prelude.{ℕ, ◌+◌, ◌-◌, ◌*◌, ◌%◌, Bool, true, cond, not, ◌&&◌, List, [], ◌∷◌, ◌++◌, map, length, leb, ltb, eqb, Result, Ok, Err, Option, None, Some}
use Rattle.lists.specs.Lists.{each, distinct, same}
use Rattle.refusal.specs.Lent.{Outcome, gives, refuses}
use Rattle.refusal.specs.declared.Refusal.{Refusal}
use Rattle.refusal.specs.declared.Refusal.TheVariants.{BadTable, UnknownPskIdentity}
use Rattle.utf8.specs.Utf8.{valid_utf8}

abbrev pub line_end : ℕ
line_end = 0x0A

abbrev pub colon : ℕ
colon = 0x3A

-- ---- lines

-- a byte in front of the lines that follow it
abbrev pub before : ℕ → List (List ℕ) → List (List ℕ)
before b [] = (b ∷ []) ∷ []
before b (l ∷ ls) = (b ∷ l) ∷ ls

-- a byte 0A ends an empty line there
abbrev pub line : ℕ → List (List ℕ) → List (List ℕ)
line b ls = cond (eqb b line_end) ([] ∷ ls) (before b ls)

-- What stands between the bytes 0A. Bytes after the last 0A are a line too: such a table isn't well formed, and lookup is defined on it.
abbrev pub lines : List ℕ → List (List ℕ)
lines [] = []
lines (b ∷ s) = line b (lines s)

-- the text of lines, each with its 0A
abbrev pub joined : List (List ℕ) → List ℕ
joined [] = []
joined (l ∷ ls) = l ++ (line_end ∷ joined ls)

-- ---- keys

abbrev pub between : ℕ → ℕ → ℕ → Bool
between low high n = leb low n && leb n high

-- the number of a hex digit of either case (0 to 9, A to F, a to f), 16 for any other byte
abbrev pub digit : ℕ → ℕ
digit b =
    cond (between 0x30 0x39 b) (b - 0x30)
    (cond (between 0x41 0x46 b) (b - 0x41 + 10)
    (cond (between 0x61 0x66 b) (b - 0x61 + 10)
    16))

abbrev pub hex_digit : ℕ → Bool
hex_digit b = ltb (digit b) 16

-- A key has 1 to 64 bytes, two hex digits of either case for each.
abbrev pub valid_key : List ℕ → Bool
valid_key s = between 2 128 (length s) && eqb (length s % 2) 0 && each hex_digit s

-- the bytes that pairs of hex digits stand for
abbrev pub decoded : List ℕ → List ℕ
decoded [] = []
decoded (a ∷ []) = []
decoded (a ∷ b ∷ s) = (digit a * 16 + digit b) ∷ decoded s

-- ---- identities

-- the bytes before the first x, all where there is none
abbrev pub upto : ℕ → List ℕ → List ℕ
upto x [] = []
upto x (b ∷ s) = cond (eqb b x) [] (b ∷ upto x s)

-- the bytes after the first x, none where there is none
abbrev pub past : ℕ → List ℕ → List ℕ
past x [] = []
past x (b ∷ s) = cond (eqb b x) s (past x s)

-- A byte of an identity: 20 hex or above, not 7F, and no colon.
abbrev pub plain : ℕ → Bool
plain b = leb 0x20 b && not (eqb b 0x7F) && not (eqb b colon)

-- An identity has 1 to 128 bytes, of valid UTF-8.
abbrev pub valid_identity : List ℕ → Bool
valid_identity s = between 1 128 (length s) && each plain s && valid_utf8 s

-- A key has 1 to 64 bytes, of which the table has the digits.
abbrev pub valid_secret : List ℕ → Bool
valid_secret key = between 1 64 (length key)

-- ---- well-formedness, as a test

-- The identity is what stands before a line's first colon, and the key what stands after it: without a colon there is no key.
abbrev pub identity_of : List ℕ → List ℕ
identity_of l = upto colon l

abbrev pub valid_line : List ℕ → Bool
valid_line l = valid_identity (identity_of l) && valid_key (past colon l)

-- the last byte, if there is one, is 0A
abbrev pub ended : List ℕ → Bool
ended [] = true
ended (b ∷ []) = eqb b line_end
ended (b ∷ c ∷ s) = ended (c ∷ s)

-- At most 65,536 bytes and 256 lines, each of identity and key, and no identity in two of them; a table of no bytes is one. Where this fails it is R2.
unfoldable pub well_formed : List ℕ → Bool
well_formed t =
    leb (length t) 65536 && ended t && leb (length (lines t)) 256 && each valid_line (lines t) && distinct same (map identity_of (lines t))

-- What a table comes to by itself, before anything is looked up in it.
abbrev pub table_refusal : List ℕ → Option Refusal
table_refusal t = cond (well_formed t) None (Some BadTable)

-- the same as the code's type has it
abbrev pub judged : Option Refusal → Result Unit Refusal
judged None = (Ok tt)
judged (Some r) = Err r

-- ---- lookup

-- what follows the identity and a colon in a line that begins with them
abbrev pub key_text : List ℕ → List ℕ → Option (List ℕ)
key_text [] [] = None
key_text [] (b ∷ l) = cond (eqb b colon) (Some l) None
key_text (i ∷ is) [] = None
key_text (i ∷ is) (b ∷ l) = cond (eqb b i) (key_text is l) None

abbrev pub or_else : Option (List ℕ) → Option (List ℕ) → Option (List ℕ)
or_else (Some s) o = Some s
or_else None o = o

-- of the first line that matches
abbrev pub first_text : List ℕ → List (List ℕ) → Option (List ℕ)
first_text identity [] = None
first_text identity (l ∷ ls) = or_else (key_text identity l) (first_text identity ls)

abbrev pub key_in : List ℕ → Option (List ℕ)
key_in s = cond (valid_key s) (Some (decoded s)) None

abbrev pub key_of_text : Option (List ℕ) → Option (List ℕ)
key_of_text None = None
key_of_text (Some s) = key_in s

-- The key that the table, any bytes, has for an identity, any bytes: that of the first line that matches. None where no line
-- matches, or where what follows the colon is no key.
unfoldable pub key_of : List ℕ → List ℕ → Option (List ℕ)
key_of table identity = key_of_text (first_text identity (lines table))

-- what a lookup answers: an identity that isn't listed is alert 115
abbrev pub found : Option (List ℕ) → Outcome
found None = refuses UnknownPskIdentity
found (Some key) = gives key
