-- Equal byte strings.
-- Assumes nothing.
use mathlib.Core.Path.{◌≡◌, refl, sym, ap, ap₂, ◌∙◌}
use Prim.Native.Nat.{ℕ}
use mathlib.Core.Bool.{Bool, true, false, true≢false}
use mathlib.Core.List.{List, [], ◌∷◌}
use lib.Dec.{eqb}
use borrow.Author.Tests.{eq-eqb, eqb-true}
use Rattle.lists.specs.Lists.{same}
use Rattle.lists.proofs.Tests.{and_left, and_right}

pub same-eq : (a b : List ℕ) → same a b ≡ true → a ≡ b
same-eq [] [] h = refl
same-eq [] (y ∷ b) h = absurd (true≢false (sym h))
same-eq (x ∷ a) [] h = absurd (true≢false (sym h))
same-eq (x ∷ a) (y ∷ b) h =
    ap₂ (λ (z : ℕ) (l : List ℕ). z ∷ l) (eqb-true x y (and_left (eqb x y) (same a b) h)) (same-eq a b (and_right (eqb x y) (same a b) h))

pub same_refl : (a : List ℕ) → same a a ≡ true
same_refl [] = refl
same_refl (x ∷ a) = rw (eq-eqb x x refl) (same_refl a)

pub same_not : (a b : List ℕ) → (a ≡ b → ⊥) → same a b ≡ false
same_not a b other = go (same a b) refl
  where
    go : (t : Bool) → same a b ≡ t → same a b ≡ false
    go true e = absurd (other (same-eq a b e))
    go false e = e

pub same-either : (a b : List ℕ) → same a b ≡ same b a
same-either a b = go (same b a) refl
  where
    go : (t : Bool) → same b a ≡ t → same a b ≡ t
    go true e = ap (λ (l : List ℕ). same l b) (sym (same-eq b a e)) ∙ same_refl b
    go false e = same_not a b (λ f. true≢false (sym (same_refl a) ∙ ap (λ (l : List ℕ). same l a) f ∙ e))
