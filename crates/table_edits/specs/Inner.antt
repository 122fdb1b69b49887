-- What the contracts of this crate's private functions cite, and no public contract does.
use Rattle.std.specs.Prelude.{◌≡◌, ℕ, ◌+◌, ◌-◌, ◌≤◌, ◌<◌, Bool, cond, ◌&&◌, List, ◌++◌, map, length, take, drop, get_or, leb, Result, Ok, Err, Option, None, Some}
use Rattle.refusal.specs.declared.Refusal.{Refusal}
use Rattle.refusal.specs.declared.Refusal.TheVariants.{ShortOutput, BadTable, BadValue, TableFull}
use Rattle.refusal.specs.Lent.{Outcome, gives, refuses}
use Rattle.keytable.specs.declared.entries.Hit.{Hit}
use Rattle.keytable.specs.Table.{lines, joined, valid_identity}
use Rattle.keytable.specs.Starts.{starts_of, list_refusal, placed}

-- the bytes in the place of those from `from` to `to`
abbrev pub spliced : ℕ → ℕ → List ℕ → List ℕ → List ℕ
spliced from to bytes s = take from s ++ bytes ++ drop to s

-- a table of at most 65,536 bytes
abbrev pub bounded : List ℕ → Outcome
bounded t = cond (leb (length t) 65536) (gives t) (refuses TableFull)

-- ---- the tests and the search that all edits begin with

-- R5, or where the identity's key stands by those starts
abbrev pub sought_in : List ℕ → List ℕ → List ℕ → Bool → Result (Option Hit) Refusal
sought_in t starts identity secret = cond (valid_identity identity && secret) (Ok (placed 0 identity t starts)) (Err BadValue)

abbrev pub place_unless : Option Refusal → Result (Option Hit) Refusal → Result (Option Hit) Refusal
place_unless None p = p
place_unless (Some r) p = Err r

-- R2, R10, R5, or where the identity's key stands
abbrev pub place_in : List ℕ → ℕ → List ℕ → ℕ → List ℕ → Bool → Result (Option Hit) Refusal
place_in memory n starts count identity secret =
    cond (leb n (length memory))
    (place_unless (list_refusal (take n memory) starts count) (sought_in (take n memory) (take count starts) identity secret))
    (Err BadTable)

-- ---- lists of starts

-- the first `count` of the starts are the table's
abbrev pub OwnList : List ℕ → List ℕ → ℕ → Type 0
OwnList t starts count = (count ≤ length starts) × (take count starts ≡ starts_of t)

-- lines that stay what they are where each is written with its 0A
abbrev pub Unbroken : List (List ℕ) → Type 0
Unbroken ls = lines (joined ls) ≡ ls

-- a start behind `old` comes as far behind `new`
abbrev pub shifted : ℕ → ℕ → ℕ → ℕ
shifted old new s = s - old + new

-- the list's memory with its starts from the `from`-th on, up to `count`, shifted and at the place `to`
abbrev pub restarted : ℕ → ℕ → ℕ → ℕ → ℕ → List ℕ → List ℕ
restarted from count to old new s =
    take to s ++ take (count - from) (map (shifted old new) (drop from s)) ++ drop (to + (count - from)) s

-- the starts from the `from`-th on, up to `count`, lie from `low` to `high`
abbrev pub Starting : ℕ → ℕ → ℕ → ℕ → List ℕ → Type 0
Starting low high from count s = (i : ℕ) → from ≤ i → i < count → (low ≤ get_or s i 0) × (get_or s i 0 ≤ high)

-- ---- sizes

-- R8, then R1, for a table of so many bytes
abbrev pub size_judged : ℕ → ℕ → Result Unit Refusal
size_judged size room = cond (leb size 65536) (cond (leb size room) (Ok tt) (Err ShortOutput)) (Err TableFull)
