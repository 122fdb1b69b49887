-- The list of line starts as the lines change (document 02, P6): a line more, a line of another length, a line taken out; and the list's memory after
-- its starts were moved. Assumes nothing.
use mathlib.Core.Path.{◌≡◌, refl, sym, ap, ap₂, ◌∙◌}
use Prim.Native.Nat.{ℕ, zero, suc, ◌+◌, ◌-◌, ◌≤◌, ◌<◌}
use native.Mathlib.Nat.{add-zero}
use native.Mathlib.Omega.{arith}
use mathlib.Core.List.{List, [], ◌∷◌, ◌++◌, map}
use lib.ListN.{length, take, drop, get_or, set, length-append, length-drop, length-map}
use lib.Seq.{take_at, drop_at, take-take, length-take-le, append_snoc, set_split, get_or-drop}
use Rattle.keytable.specs.Table.{line_end, joined}
use Rattle.keytable.specs.Starts.{starts_from}
use Rattle.keytable.proofs.Listed.{count-lines}
use Rattle.keytable.proofs.Spots.{joined-append}
use Rattle.table_edits.specs.Inner.{shifted, restarted}
use Rattle.table_edits.proofs.Writing.{front-behind}

-- ---- the starts of lines

pub starts-append : (at : ℕ) (xs ys : List (List ℕ)) → starts_from at (xs ++ ys) ≡ starts_from at xs ++ starts_from (at + length (joined xs)) ys
starts-append at [] ys = rw (add-zero at)
starts-append at (x ∷ xs) ys =
    let size = length-append x (line_end ∷ joined xs) in
    let here : at + length x + 1 + length (joined xs) ≡ at + length (joined (x ∷ xs)) = omega arith in
    ap (λ (r : List ℕ). at ∷ r)
    (starts-append (at + length x + 1) xs ys ∙ ap (λ (n : ℕ). starts_from (at + length x + 1) xs ++ starts_from n ys) here)

pub starts-snoc : (ls : List (List ℕ)) (l : List ℕ) → starts_from 0 (ls ++ (l ∷ [])) ≡ starts_from 0 ls ++ (length (joined ls) ∷ [])
starts-snoc ls l = let none : 0 + length (joined ls) ≡ length (joined ls) = omega arith in rw none at (starts-append 0 ls (l ∷ []))

-- the same lines from another place on: each start moves as the first does
pub starts-shifted : (a b old new : ℕ) (ls : List (List ℕ)) → old ≤ a → shifted old new a ≡ b
    → starts_from b ls ≡ map (shifted old new) (starts_from a ls)
starts-shifted a b old new [] h e = refl
starts-shifted a b old new (l ∷ ls) h e =
    ap₂ (λ (x : ℕ) (r : List ℕ). x ∷ r) (sym e)
    (starts-shifted (a + length l + 1) (b + length l + 1) old new ls (omega arith) (omega arith))

starts-bounds : (at : ℕ) (ls : List (List ℕ)) (i : ℕ) → i < length ls
    → (at ≤ get_or (starts_from at ls) i 0) × (get_or (starts_from at ls) i 0 ≤ at + length (joined ls))
starts-bounds at [] i h = absurd (omega arith)
starts-bounds at (l ∷ ls) zero h = (omega arith, omega arith)
starts-bounds at (l ∷ ls) (suc i) h =
    let size = length-append l (line_end ∷ joined ls) in
    let (low, high) = starts-bounds (at + length l + 1) ls i (omega arith) in
    (omega arith, omega arith)

-- ---- the starts around one line

module _ (front : List (List ℕ)) (l : List ℕ) (back : List (List ℕ)) where
  abbrev all : List ℕ
  all = starts_from 0 (front ++ (l ∷ back))

  -- where the line starts, and where those behind it do
  abbrev at : ℕ
  at = length (joined front)

  abbrev next : ℕ
  next = at + length l + 1

  before-line : (ls : List (List ℕ)) → starts_from 0 (front ++ ls) ≡ starts_from 0 front ++ starts_from at ls
  before-line ls = let none : 0 + at ≡ at = omega arith in rw none at (starts-append 0 front ls)

  to-line : take (length front) all ≡ starts_from 0 front
  to-line =
      ap (take (length front)) (before-line (l ∷ back))
      ∙ take_at (starts_from 0 front) (starts_from at (l ∷ back)) (length front) (count-lines 0 front)

  -- with the line's own start
  around : all ≡ (starts_from 0 front ++ (at ∷ [])) ++ starts_from next back
  around = before-line (l ∷ back) ∙ sym (append_snoc (starts_from 0 front) at (starts_from next back))

  size : length (starts_from 0 front ++ (at ∷ [])) ≡ length front + 1
  size = length-append (starts_from 0 front) (at ∷ []) ∙ rw (count-lines 0 front)

  past-line : take (length front + 1) all ≡ starts_from 0 front ++ (at ∷ [])
  past-line = ap (take (length front + 1)) around ∙ take_at (starts_from 0 front ++ (at ∷ [])) (starts_from next back) (length front + 1) size

  behind-line : drop (length front + 1) all ≡ starts_from next back
  behind-line = ap (drop (length front + 1)) around ∙ drop_at (starts_from 0 front ++ (at ∷ [])) (starts_from next back) (length front + 1) size

  module _ (old new : ℕ) (h : old ≤ next) where
    moved-behind : (b : ℕ) → shifted old new next ≡ b → starts_from b back ≡ map (shifted old new) (drop (length front + 1) all)
    moved-behind b e = starts-shifted next b old new back h e ∙ ap (map (shifted old new)) (sym behind-line)

    -- another line in its place
    pub changed-starts : (l' : List ℕ) → shifted old new next ≡ at + length l' + 1
        → starts_from 0 (front ++ (l' ∷ back)) ≡ take (length front + 1) all ++ map (shifted old new) (drop (length front + 1) all)
    changed-starts l' e =
        before-line (l' ∷ back) ∙ sym (append_snoc (starts_from 0 front) at (starts_from (at + length l' + 1) back))
        ∙ ap₂ (λ (a : List ℕ) (b : List ℕ). a ++ b) (sym past-line) (moved-behind (at + length l' + 1) e)

    -- none
    pub removed-starts : shifted old new next ≡ at
        → starts_from 0 (front ++ back) ≡ take (length front) all ++ map (shifted old new) (drop (length front + 1) all)
    removed-starts e = before-line back ∙ ap₂ (λ (a : List ℕ) (b : List ℕ). a ++ b) (sym to-line) (moved-behind at e)

  -- every start behind the line is from `next` on, and within the table
  pub behind-bounds : (i : ℕ) → length front < i → i < length (front ++ (l ∷ back))
      → (next ≤ get_or all i 0) × (get_or all i 0 ≤ length (joined (front ++ (l ∷ back))))
  behind-bounds i h inside =
      let past : length front + 1 + (i - (length front + 1)) ≡ i = omega arith in
      let sizes = length-append front (l ∷ back) in
      let text = ap length (joined-append front (l ∷ back)) ∙ length-append (joined front) (joined (l ∷ back)) in
      let line = length-append l (line_end ∷ joined back) in
      let there : get_or all i 0 ≡ get_or (starts_from next back) (i - (length front + 1)) 0 =
      ap (λ (j : ℕ). get_or all j 0) (sym past) ∙ sym (get_or-drop (length front + 1) all (i - (length front + 1)) 0)
      ∙ ap (λ (r : List ℕ). get_or r (i - (length front + 1)) 0) behind-line in
      let (low, high) = starts-bounds next back (i - (length front + 1)) (omega arith) in
      (rw there low, rw there (omega arith))

-- ---- the list's memory

map-take : (f : ℕ → ℕ) (n : ℕ) (s : List ℕ) → take n (map f s) ≡ map f (take n s)
map-take f zero s = refl
map-take f (suc n) [] = refl
map-take f (suc n) (x ∷ s) = ap (λ (r : List ℕ). f x ∷ r) (map-take f n s)

-- the list at the memory's front
module _ (s all : List ℕ) (count : ℕ) (own : take count s ≡ all) where
  -- its starts from the `from`-th on were shifted and put at the place `to`
  pub restarted-front : (from to old new : ℕ) (list : List ℕ) → to ≤ from → from ≤ count → count ≤ length s
      → list ≡ take to all ++ map (shifted old new) (drop from all) → restarted from count to old new s ≡ list ++ drop (length list) s
  restarted-front from to old new list h inside room e =
      let f : ℕ → ℕ = shifted old new in
      let front : take to s ≡ take to all = sym (take-take to count s (omega arith)) ∙ ap (take to) own in
      let behind : take (count - from) (map f (drop from s)) ≡ map f (drop from all) =
      map-take f (count - from) (drop from s) ∙ ap (map f) (sym (front-behind s from count inside room) ∙ ap (drop from) own) in
      let whole : length all ≡ count = ap length (sym own) ∙ length-take-le count s room in
      let size : length list ≡ to + (count - from) =
      ap length e ∙ length-append (take to all) (map f (drop from all))
      ∙ omega (arith, length-take-le to all (omega arith), length-map (drop from all) f, length-drop from all) in
      ap₂ (λ (a : List ℕ) (b : List ℕ). a ++ b ++ drop (to + (count - from)) s) front behind
      ∙ ap₂ (λ (a : List ℕ) (n : ℕ). a ++ drop n s) (sym e) (sym size)

  -- a start was put behind it
  pub start-appended : (v : ℕ) (list : List ℕ) → count < length s → list ≡ all ++ (v ∷ []) → set s count v ≡ list ++ drop (length list) s
  start-appended v list room e =
      let whole : length all ≡ count = ap length (sym own) ∙ length-take-le count s (omega arith) in
      let size : length list ≡ suc count = ap length e ∙ length-append all (v ∷ []) ∙ omega arith in
      set_split s count v room ∙ ap (λ (a : List ℕ). a ++ (v ∷ drop (suc count) s)) own
      ∙ sym (append_snoc all v (drop (suc count) s)) ∙ ap₂ (λ (a : List ℕ) (n : ℕ). a ++ drop n s) (sym e) (sym size)
