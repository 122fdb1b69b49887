-- No identity twice: the comparison of one with those before it, and the numbers that spare most comparisons.
-- Assumes nothing.
use mathlib.Core.Path.{◌≡◌, refl, sym, ap, ◌∙◌}
use Prim.Native.Nat.{ℕ, zero, suc, ◌+◌, ◌-◌, ◌≤◌, ◌<◌}
use native.Mathlib.Omega.{arith}
use native.Mathlib.Numerals.{add-one}
use mathlib.Core.Bool.{Bool, true, false, or-true}
use mathlib.Core.List.{List, [], ◌∷◌, ◌++◌, map, map-append, append_assoc, append-nil}
use lib.ListN.{length, take, drop, get_or, set, length-drop}
use lib.Seq.{take-suc, take-take, take-suc-set}
use Rattle.lists.specs.Lists.{any, distinct, same, part}
use Rattle.keytable.specs.Table.{line_end, colon, upto, lines, identity_of}
use Rattle.keytable.specs.Inner.{identity_at, earlier}
use Rattle.lists.proofs.Equal.{same-either}
use Rattle.lists.proofs.Distinct.{any_append, distinct_snoc, distinct-repeat}
use Rattle.keytable.proofs.Lines.{length-upto, take-upto, line-is, line-here, no_lines}

-- ---- the identity of a line, as a part of the table

module _ (t : List ℕ) (at end : ℕ) (h : at ≤ length t) (e : end ≡ at + length (identity_at t at)) where
  pub identity-part : part at (end - at) t ≡ identity_at t at
  identity-part =
      let size : end - at ≡ length (identity_at t at) = omega arith in
      let line = upto line_end (drop at t) in
      rw size (sym (take-take (length (identity_at t at)) (length line) (drop at t) (length-upto colon line))
      ∙ ap (take (length (identity_at t at))) (take-upto line_end (drop at t))
      ∙ take-upto colon line)

pub identity-within : (t : List ℕ) (at : ℕ) → at ≤ length t → at + length (identity_at t at) ≤ length t
identity-within t at h =
    omega (arith, length-upto colon (upto line_end (drop at t)), length-upto line_end (drop at t), length-drop at t)

-- ---- the identities before

any_at : (p : List ℕ → Bool) (f : ℕ → List ℕ) (n : ℕ) (s : List ℕ) (k : ℕ) → k < n → k < length s → p (f (get_or s k 0)) ≡ true
    → any p (map f (take n s)) ≡ true
any_at p f zero s k below inside e = absurd (omega arith)
any_at p f (suc n) [] k below inside e = absurd (omega arith)
any_at p f (suc n) (a ∷ s) zero below inside e = rw e
any_at p f (suc n) (a ∷ s) (suc k) below inside e = rw (any_at p f n s k (omega arith) (omega arith) e) (or-true (p (f a)))

module _ (t starts identity : List ℕ) (k : ℕ) (inside : k < length starts) where
  earlier_more : earlier t starts (k + 1) ≡ earlier t starts k ++ (identity_at t (get_or starts k 0) ∷ [])
  earlier_more =
      ap (λ (n : ℕ). earlier t starts n) (add-one k) ∙ ap (map (identity_at t)) (take-suc starts k 0 inside)
      ∙ map-append (identity_at t) (take k starts) (get_or starts k 0 ∷ [])

  pub none-on : same identity (identity_at t (get_or starts k 0)) ≡ false → any (same identity) (earlier t starts k) ≡ false
      → any (same identity) (earlier t starts (k + 1)) ≡ false
  none-on other now = ap (any (same identity)) earlier_more ∙ any_append (same identity) (earlier t starts k) _ ∙ rw (now, other)

  pub one_hit : (n : ℕ) → k < n → same identity (identity_at t (get_or starts k 0)) ≡ true → true ≡ any (same identity) (earlier t starts n)
  one_hit n below e = sym (any_at (same identity) (identity_at t) n starts k below inside e)

-- ---- a turn of the loop over the lines: the line from `at` to `end` is the n-th, and p the number of its identity

pub some-line : (t : List ℕ) (at : ℕ) → at < length t → 0 < length (lines (drop at t))
some-line t at inside = rw (line-here t at _ (omega arith) refl inside) (omega arith)

module _ (t starts : List ℕ) (at end n : ℕ) (inside : at < length t) (e : end ≡ at + length (upto line_end (drop at t)))
    (all : map identity_of (lines t) ≡ earlier t starts n ++ map identity_of (lines (drop at t))) where
  abbrev later : List (List ℕ)
  later = map identity_of (lines (drop (end + 1) t))

  -- the lines passed, this one, and those behind it
  split : map identity_of (lines t) ≡ earlier t starts n ++ (identity_at t at ∷ later)
  split =
      all ∙ ap (λ (ls : List (List ℕ)). earlier t starts n ++ map identity_of ls) (line-here t at end (omega arith) e inside)
      ∙ ap (λ (l : List ℕ). earlier t starts n ++ (upto colon l ∷ later)) (line-is t at end (omega arith) e)

  pub distinct-stop : any (same (identity_at t at)) (earlier t starts n) ≡ true → false ≡ distinct same (map identity_of (lines t))
  distinct-stop again = sym (ap (distinct same) split ∙ distinct-repeat same same-either (earlier t starts n) (identity_at t at) later again)

  module _ (room : n < length starts) where
    more : earlier t (set starts n at) (n + 1) ≡ earlier t starts n ++ (identity_at t at ∷ [])
    more =
        ap (λ (m : ℕ). earlier t (set starts n at) m) (add-one n) ∙ ap (map (identity_at t)) (take-suc-set starts n at room)
        ∙ map-append (identity_at t) (take n starts) (at ∷ [])

    pub all-on : map identity_of (lines t) ≡ earlier t (set starts n at) (n + 1) ++ later
    all-on =
        split ∙ sym (append_assoc (earlier t starts n) (identity_at t at ∷ []) later)
        ∙ ap (λ (ids : List (List ℕ)). ids ++ later) (sym more)

    pub distinct-on : distinct same (earlier t starts n) ≡ true → any (same (identity_at t at)) (earlier t starts n) ≡ false
        → distinct same (earlier t (set starts n at) (n + 1)) ≡ true
    distinct-on now fresh =
        ap (distinct same) more ∙ distinct_snoc same same-either (earlier t starts n) (identity_at t at) ∙ rw (now, fresh)

-- no line is left
pub distinct-end : (t starts : List ℕ) (at n : ℕ) → length t ≤ at
    → map identity_of (lines t) ≡ earlier t starts n ++ map identity_of (lines (drop at t))
    → distinct same (earlier t starts n) ≡ true → true ≡ distinct same (map identity_of (lines t))
distinct-end t starts at n end all now =
    let none : map identity_of (lines (drop at t)) ≡ [] = ap (map identity_of) (no_lines t at end) in
    sym (ap (distinct same) (all ∙ ap (λ (ids : List (List ℕ)). earlier t starts n ++ ids) none ∙ append-nil (earlier t starts n)) ∙ now)
