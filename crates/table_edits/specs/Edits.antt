-- Edits of a key table and of the list of its line starts (document 02, P1 and P6): a line is added, one identity's key replaced, one identity's line
-- retired. Which lines there are then, and the tests that come first, in document 02's order: R2, R10, R5, R6 or R7, R8; R1, the room in the table's
-- memory or in the list's, is last.
use Rattle.std.specs.Prelude.{◌≡◌, ◌⊎◌, ℕ, ◌+◌, ◌-◌, ◌/◌, ◌%◌, ◌≤◌, ◌<◌, Bool, true, cond, ◌&&◌, List, [], ◌∷◌, ◌++◌, map, length, take, drop, leb, ltb, Result, Option, None, Some}
use Rattle.lists.specs.Lists.{any, same, Each}
use Rattle.refusal.specs.declared.Refusal.{Refusal}
use Rattle.refusal.specs.declared.Refusal.TheVariants.{ShortOutput, BadTable, BadValue, AlreadyListed, NotListed, TableFull}
use Rattle.refusal.specs.Lent.{Outcome, gives, refuses, within, Answers}
use Rattle.keytable.specs.Table.{colon, lines, joined, identity_of, valid_identity, valid_secret, table_refusal}
use Rattle.keytable.specs.Starts.{starts_of, list_refusal}

-- ---- the line of an identity and a key

-- the digit of a number below 16: 0 to 9, a to f
abbrev pub lower_digit : ℕ → ℕ
lower_digit n = cond (ltb n 10) (0x30 + n) (0x61 + (n - 10))

-- Two digits in lower case for each byte, the high one first.
abbrev pub lower_hex : List ℕ → List ℕ
lower_hex [] = []
lower_hex (b ∷ s) = lower_digit (b / 16) ∷ lower_digit (b % 16) ∷ lower_hex s

-- without its 0A
abbrev pub line_with : List ℕ → List ℕ → List ℕ
line_with identity key = identity ++ (colon ∷ lower_hex key)

-- ---- the lines after an edit

pub data Edit : Type 0 where
  add replace : (identity key : List ℕ) → Edit
  retire : (identity : List ℕ) → Edit

-- the identity that it is about
abbrev pub subject : Edit → List ℕ
subject (add identity key) = identity
subject (replace identity key) = identity
subject (retire identity) = identity

abbrev pub is_line_of : List ℕ → List ℕ → Bool
is_line_of identity l = same identity (identity_of l)

abbrev pub listed : List ℕ → List (List ℕ) → Bool
listed identity ls = any (is_line_of identity) ls

-- the lines of all other identities
abbrev pub others : List ℕ → List (List ℕ) → List (List ℕ)
others identity [] = []
others identity (l ∷ ls) = cond (is_line_of identity l) (others identity ls) (l ∷ others identity ls)

-- An added line comes last, a key is replaced in its place, a retired line is gone; every other line is as it was.
abbrev pub lines_after : Edit → List (List ℕ) → List (List ℕ)
lines_after (add identity key) ls = ls ++ (line_with identity key ∷ [])
lines_after (replace identity key) ls = map (λ l. cond (is_line_of identity l) (line_with identity key) l) ls
lines_after (retire identity) ls = others identity ls

-- ---- refusals

-- the key, where the edit names one
abbrev pub secret_allowed : Edit → Bool
secret_allowed (add identity key) = valid_secret key
secret_allowed (replace identity key) = valid_secret key
secret_allowed (retire identity) = true

-- R5: an identity or a key that no table may have.
abbrev pub allowed : Edit → Bool
allowed e = valid_identity (subject e) && secret_allowed e

-- R6 where the identity is to be added and is listed, R7 where it is to be replaced or retired and is not.
abbrev pub misplaced : Edit → Bool → Option Refusal
misplaced (add identity key) present = cond present (Some AlreadyListed) None
misplaced (replace identity key) present = cond present None (Some NotListed)
misplaced (retire identity) present = cond present None (Some NotListed)

-- R8: more than 256 lines, or a text of more than 65,536 bytes.
abbrev pub sized : List (List ℕ) → Outcome
sized ls = cond (leb (length ls) 256 && leb (length (joined ls)) 65536) (gives (joined ls)) (refuses TableFull)

abbrev pub unless : Option Refusal → Outcome → Outcome
unless None o = o
unless (Some r) o = refuses r

-- ---- an edit of a table

unfoldable pub edited : Edit → List ℕ → Outcome
edited e t =
    unless (table_refusal t)
    (unless (cond (allowed e) None (Some BadValue))
    (unless (misplaced e (listed (subject e) (lines t)))
    (sized (lines_after e (lines t)))))

-- ---- an edit of a table and its list, in lent memory

-- R1 where the list's room is below the resulting line count; that of the table's memory is added by `Answers` (crates/refusal/specs/Lent.antt)
abbrev pub roomed : ℕ → Outcome → Outcome
roomed room (gives t) = cond (leb (length (lines t)) room) (gives t) (refuses ShortOutput)
roomed room (refuses r) = refuses r

-- The table is the first n bytes of the memory; where the memory is shorter it is R2. The list is the first `count` of the starts.
unfoldable pub edited_in : List ℕ → ℕ → List ℕ → ℕ → Edit → Outcome
edited_in memory n starts count e =
    cond (leb n (length memory))
    (unless (list_refusal (take n memory) starts count) (roomed (length starts) (edited e (take n memory))))
    (refuses BadTable)

-- the list's memory afterwards: the edited table's own list stands at its front
abbrev pub starts_after : Outcome → List ℕ → List ℕ
starts_after (gives t) starts = starts_of t ++ drop (length (starts_of t)) starts
starts_after (refuses r) starts = starts

abbrev pub count_after : Outcome → ℕ → ℕ
count_after (gives t) count = length (lines t)
count_after (refuses r) count = count

-- A call that was lent a table's memory and a list said `said` and left memory', starts' and count'.
pub record EditsBoth (wanted : Outcome) (memory starts : List ℕ) (count : ℕ) (said : Result ℕ Refusal) (memory' starts' : List ℕ) (count' : ℕ) : Type 0 where
  pub table : Answers wanted memory said memory'
  pub list : starts' ≡ starts_after (within (length memory) wanted) starts
  pub counted : count' ≡ count_after (within (length memory) wanted) count

-- ---- for what is claimed of an edit

-- the key that the identity has afterwards
abbrev pub key_after : Edit → Option (List ℕ)
key_after (add identity key) = Some key
key_after (replace identity key) = Some key
key_after (retire identity) = None

-- The key, if there is one, is of bytes; a list of numbers need not be.
abbrev pub OfBytes : Edit → Type 0
OfBytes (add identity key) = Each (λ b. b < 256) key
OfBytes (replace identity key) = Each (λ b. b < 256) key
OfBytes (retire identity) = Unit

-- 0 to 9, a to f
abbrev pub LowerDigit : ℕ → Type 0
LowerDigit b = ((0x30 ≤ b) × (b ≤ 0x39)) ⊎ ((0x61 ≤ b) × (b ≤ 0x66))
