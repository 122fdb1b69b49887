-- What a well-formed table is (document 01, "The key table"), with no word of how that is tested. proofs/Agreement.antt shows that it is what
-- `well_formed` of specs/Table.antt tests.
use Rattle.std.specs.Prelude.{◌≡◌, ◌⊎◌, ℕ, ◌*◌, ◌≤◌, true, List, [], ◌∷◌, ◌++◌, map, length}
use Rattle.lists.specs.Lists.{Each, Distinct}
use Rattle.utf8.specs.Utf8.{valid_utf8}
use Rattle.keytable.specs.Table.{line_end, colon, decoded, ended}

-- A byte of an identity: 20 hex or above, not 7F, and no colon.
pub record Plain (b : ℕ) : Type 0 where
  pub high : 0x20 ≤ b
  pub no-delete : ¬ (b ≡ 0x7F)
  pub no-colon : ¬ (b ≡ colon)

-- An identity has 1 to 128 bytes, of valid UTF-8.
pub record Identity (s : List ℕ) : Type 0 where
  pub some : 1 ≤ length s
  pub few : length s ≤ 128
  pub plain : Each Plain s
  pub utf8 : valid_utf8 s ≡ true

-- 0 to 9, A to F, a to f
abbrev pub HexDigit : ℕ → Type 0
HexDigit b = ((0x30 ≤ b) × (b ≤ 0x39)) ⊎ (((0x41 ≤ b) × (b ≤ 0x46)) ⊎ ((0x61 ≤ b) × (b ≤ 0x66)))

-- A key has 1 to 64 bytes, two hex digits of either case for each.
pub record Key (s : List ℕ) : Type 0 where
  pub bytes : ℕ
  pub pairs : length s ≡ 2 * bytes
  pub some : 1 ≤ bytes
  pub few : bytes ≤ 64
  pub digits : Each HexDigit s

pub record Line : Type 0 where
  pub identity : List ℕ
  pub hex : List ℕ

pub record ValidLine (l : Line) : Type 0 where
  pub identity : Identity l.identity
  pub key : Key l.hex

-- the bytes of a list of lines, each with its 0A
abbrev pub text : List Line → List ℕ
text [] = []
text (l ∷ ls) = l.identity ++ (colon ∷ (l.hex ++ (line_end ∷ text ls)))

abbrev pub identity_in : Line → List ℕ
identity_in l = l.identity

-- At most 256 lines and 65,536 bytes, and no identity in two of them; keys may be alike, and there may be no line at all.
pub record WellFormed (t : List ℕ) : Type 0 where
  pub lines : List Line
  pub is : t ≡ text lines
  pub valid : Each ValidLine lines
  pub distinct : Distinct (map identity_in lines)
  pub few-lines : length lines ≤ 256
  pub few_bytes : length t ≤ 65536

-- One of the lines has that identity and that key.
abbrev pub Listed : List ℕ → List ℕ → List Line → Type 0
Listed identity key [] = ⊥
Listed identity key (l ∷ ls) = ((identity ≡ l.identity) × (key ≡ decoded l.hex)) ⊎ Listed identity key ls

-- Demand 3: the second table is the first with one identity's line taken out. The line is a whole one: it starts the table or
-- follows a 0A, and has none but its last; and the identity is what stands before its colon.
pub record LineRemoved (identity t t' : List ℕ) : Type 0 where
  pub front : List ℕ
  pub hex : List ℕ
  pub back : List ℕ
  pub starts : ended front ≡ true
  pub one_line : Each (λ b. ¬ (b ≡ line_end)) (identity ++ (colon ∷ hex))
  pub one-colon : Each (λ b. ¬ (b ≡ colon)) identity
  pub first : t ≡ front ++ (identity ++ (colon ∷ (hex ++ (line_end ∷ back))))
  pub second : t' ≡ front ++ back
