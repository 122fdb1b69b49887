-- Lines: the first line of a text, and the text after it.
-- Assumes nothing.
use mathlib.Core.Path.{◌≡◌, refl, sym, ap, ap₂, ◌∙◌}
use Prim.Native.Nat.{ℕ, suc, ◌+◌, ◌-◌, ◌≤◌, ◌<◌}
use native.Mathlib.Omega.{arith}
use native.Mathlib.Numerals.{add-one}
use mathlib.Core.Bool.{Bool, true, false}
use mathlib.Core.List.{List, [], ◌∷◌}
use lib.ListN.{length, take, drop, get_or, length-drop, drop_of_length-le}
use lib.Seq.{drop-drop, drop-cons}
use lib.Dec.{eqb}
use Rattle.lists.specs.Lists.{part}
use Rattle.keytable.specs.Table.{line_end, before, lines, upto, ended}

-- what stands before the first x is a part of the list
upto-parts : (x : ℕ) (s : List ℕ) → (length (upto x s) ≤ length s) × (take (length (upto x s)) s ≡ upto x s)
upto-parts x [] = (omega arith, refl)
upto-parts x (b ∷ s) = go (eqb b x) refl (upto-parts x s)
  where
    go : (t : Bool) → eqb b x ≡ t → (length (upto x s) ≤ length s) × (take (length (upto x s)) s ≡ upto x s)
        → (length (upto x (b ∷ s)) ≤ suc (length s)) × (take (length (upto x (b ∷ s))) (b ∷ s) ≡ upto x (b ∷ s))
    go true e ih = rw e (omega arith, refl)
    go false e (few, front) = rw e (omega arith, ap (λ (l : List ℕ). b ∷ l) front)

pub length-upto : (x : ℕ) (s : List ℕ) → length (upto x s) ≤ length s
length-upto x s = (upto-parts x s).0

pub take-upto : (x : ℕ) (s : List ℕ) → take (length (upto x s)) s ≡ upto x s
take-upto x s = (upto-parts x s).1

-- ---- where the search for a byte stands

pub upto-step : (x : ℕ) (s : List ℕ) (i : ℕ) → i < length s → eqb (get_or s i 0) x ≡ false
    → length (upto x (drop i s)) ≡ length (upto x (drop (i + 1) s)) + 1
upto-step x s i h other = rw (add-one i, drop-cons s i 0 h, other) (omega arith)

pub upto-found : (x : ℕ) (s : List ℕ) (i : ℕ) → i < length s → eqb (get_or s i 0) x ≡ true → length (upto x (drop i s)) ≡ 0
upto-found x s i h same = rw (drop-cons s i 0 h, same)

pub upto-none : (x : ℕ) (s : List ℕ) (i : ℕ) → length s ≤ i → length (upto x (drop i s)) ≡ 0
upto-none x s i h = rw (drop_of_length-le s h)

-- ---- lines

pub lines_cons : (s : List ℕ) → 0 < length s → lines s ≡ upto line_end s ∷ lines (drop (suc (length (upto line_end s))) s)
lines_cons [] h = absurd (omega arith)
lines_cons (b ∷ []) h = go (eqb b line_end) refl
  where
    go : (t : Bool) → eqb b line_end ≡ t → lines (b ∷ []) ≡ upto line_end (b ∷ []) ∷ lines (drop (suc (length (upto line_end (b ∷ [])))) (b ∷ []))
    go true e = rw e
    go false e = rw e
lines_cons (b ∷ c ∷ s) h = go (eqb b line_end) refl (lines_cons (c ∷ s) (omega arith))
  where
    go : (t : Bool) → eqb b line_end ≡ t → lines (c ∷ s) ≡ upto line_end (c ∷ s) ∷ lines (drop (suc (length (upto line_end (c ∷ s)))) (c ∷ s))
        → lines (b ∷ c ∷ s) ≡ upto line_end (b ∷ c ∷ s) ∷ lines (drop (suc (length (upto line_end (b ∷ c ∷ s)))) (b ∷ c ∷ s))
    go true e ih = rw e
    go false e ih = rw e (ap (before b) ih)

-- the line from `at` to `end`
module _ (s : List ℕ) (at end : ℕ) (h : at ≤ length s) (e : end ≡ at + length (upto line_end (drop at s))) where
  pub line-is : part at (end - at) s ≡ upto line_end (drop at s)
  line-is =
      let size : end - at ≡ length (upto line_end (drop at s)) = omega arith in
      rw size (take-upto line_end (drop at s))

  pub line-here : at < length s → lines (drop at s) ≡ part at (end - at) s ∷ lines (drop (end + 1) s)
  line-here inside =
      lines_cons (drop at s) (rw length-drop (omega arith))
      ∙ ap₂ (λ (l : List ℕ) (r : List ℕ). l ∷ lines r) (sym line-is) after
    where
      after : drop (suc (length (upto line_end (drop at s)))) (drop at s) ≡ drop (end + 1) s
      after =
          let past : at + suc (length (upto line_end (drop at s))) ≡ end + 1 = omega arith in
          drop-drop (suc (length (upto line_end (drop at s)))) at s ∙ ap (λ (i : ℕ). drop i s) past

-- no lines are left at the end
pub no_lines : (s : List ℕ) (at : ℕ) → length s ≤ at → lines (drop at s) ≡ []
no_lines s at h = ap lines (drop_of_length-le s h)

-- ---- the last byte

pub ended-last : (s : List ℕ) → 0 < length s → ended s ≡ eqb (get_or s (length s - 1) 0) line_end
ended-last [] h = absurd (omega arith)
ended-last (b ∷ []) h = refl
ended-last (b ∷ c ∷ s) h =
    let back : suc (suc (length s)) - 1 ≡ suc (suc (length s) - 1) = omega arith in
    rw back (ended-last (c ∷ s) (omega arith))
