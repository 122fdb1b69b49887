-- The list of line starts that is kept beside a key table (document 02, P6): where each line starts, in order, and how many lines there are. The list is
-- lent memory of 32-bit numbers and a count; its numbers are the first `count` of that memory.
use Rattle.std.specs.Prelude.{ℕ, ◌+◌, Bool, cond, ◌&&◌, List, [], ◌∷◌, map, length, take, drop, leb, Option, None, Some}
use Rattle.lists.specs.Lists.{same}
use Rattle.refusal.specs.Lent.{Outcome, gives, refuses}
use Rattle.refusal.specs.declared.Refusal.{Refusal}
use Rattle.refusal.specs.declared.Refusal.TheVariants.{BadTable, BadList}
use Rattle.keytable.specs.declared.entries.Hit.{Hit}
use Rattle.keytable.specs.Table.{line_end, lines, upto, well_formed, key_text, first_text, key_of_text, found}

-- where lines start that stand from `at` on, each with its 0A
abbrev pub starts_from : ℕ → List (List ℕ) → List ℕ
starts_from at [] = []
starts_from at (l ∷ ls) = at ∷ starts_from (at + length l + 1) ls

-- a table's own list
abbrev pub starts_of : List ℕ → List ℕ
starts_of t = starts_from 0 (lines t)

-- Making the list tests the table: R2. That the room is below the line count is R1, which `Answers` adds (crates/refusal/specs/Lent.antt).
abbrev pub list_made : List ℕ → Outcome
list_made t = cond (well_formed t) (gives (starts_of t)) (refuses BadTable)

-- ---- a list that is handed in

-- exactly the table's starts and count: a count past the memory is none
unfoldable pub is_list : List ℕ → List ℕ → ℕ → Bool
is_list t starts count = leb count (length starts) && same (take count starts) (starts_of t)

-- What table and list come to before anything is looked up: R2, and R10 directly after it.
abbrev pub list_refusal : List ℕ → List ℕ → ℕ → Option Refusal
list_refusal t starts count = cond (well_formed t) (cond (is_list t starts count) None (Some BadList)) (Some BadTable)

-- ---- lookup by the list

-- what stands from a place on, up to the next 0A or the table's end; nothing where the place is past the table
abbrev pub line_at : List ℕ → ℕ → List ℕ
line_at t at = upto line_end (drop at t)

-- the k-th start's line, and the part from `from` to `to`
abbrev pub hit : (k from to : ℕ) → Option Hit
hit k a b = Some (record { line = k; from = a; to = b })

abbrev pub or_later : Option (List ℕ) → Option Hit → Option Hit → Option Hit
or_later (Some s) here later = here
or_later None here later = later

-- Which of the starts is that of the first line that begins with the identity and a colon, counted from k on, and where what follows them stands,
-- from its start to the line's end.
abbrev pub placed : ℕ → List ℕ → List ℕ → List ℕ → Option Hit
placed k identity t [] = None
placed k identity t (s ∷ ss) =
    or_later (key_text identity (line_at t s)) (hit k (s + length identity + 1) (s + length (line_at t s))) (placed (k + 1) identity t ss)

-- The key that a table has for an identity at those starts; any table, any starts, any identity. proofs/Listed.antt: with the table's own list this is `key_of`.
unfoldable pub key_at : List ℕ → List ℕ → List ℕ → Option (List ℕ)
key_at t starts identity = key_of_text (first_text identity (map (line_at t) starts))

-- What a lookup answers: R10 where the count is past the memory, as no such list is any table's; 115 for an identity that isn't listed.
unfoldable pub looked_up : List ℕ → List ℕ → ℕ → List ℕ → Outcome
looked_up t starts count identity = cond (leb count (length starts)) (found (key_at t (take count starts) identity)) (refuses BadList)
