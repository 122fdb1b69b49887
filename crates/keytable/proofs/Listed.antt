-- The table's own list leads to its lines, so that a lookup by it answers as one without a list. Assumes nothing.
use mathlib.Core.Path.{◌≡◌, refl, sym, ap, ap₂, ◌∙◌}
use Prim.Native.Nat.{ℕ, suc, ◌+◌, ◌<◌}
use native.Mathlib.Omega.{arith}
use mathlib.Core.Bool.{Bool, true, false}
use mathlib.Core.List.{List, [], ◌∷◌, map}
use lib.ListN.{length, take, drop}
use lib.Seq.{drop-drop}
use lib.Dec.{leb}
use Rattle.std.proofs.lemmas.Option.{none-some}
use Rattle.std.specs.Prelude.{None, Some}
use Rattle.lists.specs.Lists.{same}
use Rattle.lists.proofs.Tests.{and_left, and_right}
use Rattle.lists.proofs.Equal.{same-eq}
use Rattle.refusal.specs.declared.Refusal.TheVariants.{BadTable, BadList}
use Rattle.keytable.specs.Table.{line_end, upto, lines, well_formed, first_text, key_of_text, key_of, found}
use Rattle.keytable.specs.Starts.{starts_from, starts_of, line_at, is_list, list_refusal, key_at, looked_up}
use Rattle.keytable.proofs.Lines.{lines_cons}

lines_from : (t : List ℕ) (at : ℕ) (ls : List (List ℕ)) → lines (drop at t) ≡ ls → map (line_at t) (starts_from at ls) ≡ ls
lines_from t at [] e = refl
lines_from t at (l ∷ ls) e = go (drop at t) refl (λ behind. lines_from t (at + length l + 1) ls behind)
  where
    go : (s : List ℕ) → drop at t ≡ s
        → (lines (drop (at + length l + 1) t) ≡ ls → map (line_at t) (starts_from (at + length l + 1) ls) ≡ ls)
        → map (line_at t) (starts_from at (l ∷ ls)) ≡ l ∷ ls
    go [] h ih =
        let none : [] ≡ l ∷ ls = ap lines (sym h) ∙ e in
        let z : ◌≡◌ {A = ℕ} 0 (suc (length ls)) = ap length none in
        absurd (omega arith)
    go (b ∷ s) h ih =
        let inside : 0 < length (drop at t) = rw h (omega arith) in
        let both : upto line_end (drop at t) ∷ lines (drop (suc (length (upto line_end (drop at t)))) (drop at t)) ≡ l ∷ ls =
        sym (lines_cons (drop at t) inside) ∙ e in
        let first : upto line_end (drop at t) ≡ l = cc in
        let others : lines (drop (suc (length (upto line_end (drop at t)))) (drop at t)) ≡ ls = cc in
        let next : at + suc (length (upto line_end (drop at t))) ≡ at + length l + 1 = omega (arith, ap length first) in
        let behind = drop-drop (suc (length (upto line_end (drop at t)))) at t ∙ ap (λ (i : ℕ). drop i t) next in
        ap₂ (λ (x : List ℕ) (r : List (List ℕ)). x ∷ r) first (ih (sym (ap lines behind) ∙ others))

-- at the starts of a table stand its lines
pub lines-there : (t : List ℕ) → map (line_at t) (starts_of t) ≡ lines t
lines-there t = lines_from t 0 (lines t) refl

pub count-lines : (at : ℕ) (ls : List (List ℕ)) → length (starts_from at ls) ≡ length ls
count-lines at [] = refl
count-lines at (l ∷ ls) = ap suc (count-lines (at + length l + 1) ls)

pub key-by-list : (t i : List ℕ) → key_at t (starts_of t) i ≡ key_of t i
unfolding key_at key_of
key-by-list t i = ap (λ (ls : List (List ℕ)). key_of_text (first_text i ls)) (lines-there t)

-- what is known of a list that is the table's own
module _ (t starts : List ℕ) (count : ℕ) (own : is_list t starts count ≡ true) where
  pub own-within : leb count (length starts) ≡ true
  unfolding is_list
  own-within = and_left _ (same (take count starts) (starts_of t)) own

  pub own-starts : take count starts ≡ starts_of t
  unfolding is_list
  own-starts = same-eq _ _ (and_right (leb count (length starts)) _ own)

  pub looked-up-own : (i : List ℕ) → looked_up t starts count i ≡ found (key_of t i)
  unfolding looked_up
  looked-up-own i = rw (own-within, own-starts) (ap found (key-by-list t i))

-- a table and a list that are not refused
module _ (t starts : List ℕ) (count : ℕ) (good : list_refusal t starts count ≡ None) where
  pub passed-both : (well_formed t ≡ true) × (is_list t starts count ≡ true)
  passed-both = go (well_formed t) (is_list t starts count) refl refl
    where
      go : (a b : Bool) → well_formed t ≡ a → is_list t starts count ≡ b → (well_formed t ≡ true) × (is_list t starts count ≡ true)
      go true true e f = (e, f)
      go true false e f = let g : Some BadList ≡ None = rw (e, f) at good in absurd (none-some _ (sym g))
      go false b e f = let g : Some BadTable ≡ None = rw e at good in absurd (none-some _ (sym g))
