-- Tests and properties of every element of a list.
-- Assumes nothing.
use mathlib.Core.Path.{◌≡◌, refl}
use mathlib.Core.Bool.{Bool, true}
use mathlib.Core.List.{List, [], ◌∷◌, ◌++◌}
use Rattle.lists.specs.Lists.{each, Each}
use Rattle.lists.proofs.Tests.{and_left, and_right, both}

module _ {A : Type 0} where
  pub each_append : (p : A → Bool) (xs ys : List A) → each p (xs ++ ys) ≡ true → (each p xs ≡ true) × (each p ys ≡ true)
  each_append p [] ys h = (refl, h)
  each_append p (x ∷ xs) ys h =
      let rest = each_append p xs ys (and_right (p x) (each p (xs ++ ys)) h) in
      (both (and_left (p x) (each p (xs ++ ys)) h) rest.0, rest.1)

  pub every-middle : (P : A → Type 0) (xs : List A) (y : A) (ys : List A) → Each P (xs ++ (y ∷ ys)) → P y
  every-middle P [] y ys h = h.0
  every-middle P (x ∷ xs) y ys h = every-middle P xs y ys h.1

-- what a test finds of every element
module _ {A : Type 0} (p : A → Bool) (P : A → Type 0) where
  pub each-sound : ((x : A) → p x ≡ true → P x) → (s : List A) → each p s ≡ true → Each P s
  each-sound f [] h = tt
  each-sound f (x ∷ s) h = (f x (and_left (p x) (each p s) h), each-sound f s (and_right (p x) (each p s) h))

  pub each-complete : ((x : A) → P x → p x ≡ true) → (s : List A) → Each P s → each p s ≡ true
  each-complete f [] h = refl
  each-complete f (x ∷ s) h = both (f x h.0) (each-complete f s h.1)

module _ {A : Type 0} (P : A → Type 0) where
  pub every_append : (s t : List A) → Each P s → Each P t → Each P (s ++ t)
  every_append [] t hs ht = ht
  every_append (x ∷ s) t hs ht = (hs.0, every_append s t hs.1 ht)

  pub every_map : (Q : A → Type 0) → ((x : A) → P x → Q x) → (s : List A) → Each P s → Each Q s
  every_map Q f [] h = tt
  every_map Q f (x ∷ s) h = (f x h.0, every_map Q f s h.1)
