-- No element twice: the test and the property agree, and a list that grows at its end.
-- Assumes nothing.
use mathlib.Core.Path.{◌≡◌, refl, sym, ap, ◌∙◌}
use mathlib.Core.Bool.{Bool, true, false, not, ◌&&◌, ◌||◌, and-false, true≢false}
use mathlib.Core.List.{List, [], ◌∷◌, ◌++◌, append_assoc}
use borrow.Author.Tests.{not-true}
use Rattle.lists.specs.Lists.{any, distinct, Each, Distinct}
use Rattle.lists.proofs.Tests.{and_left, and_right}
use Rattle.lists.proofs.Every.{every_map, every-middle}

module _ {A : Type 0} where
  pub any_append : (p : A → Bool) (xs ys : List A) → any p (xs ++ ys) ≡ (any p xs || any p ys)
  any_append p [] ys = refl
  any_append p (x ∷ xs) ys = go (p x) (any_append p xs ys)
    where
      go : (t : Bool) → any p (xs ++ ys) ≡ (any p xs || any p ys) → (t || any p (xs ++ ys)) ≡ ((t || any p xs) || any p ys)
      go true ih = refl
      go false ih = ih

  none-sound : (p : A → Bool) (xs : List A) → any p xs ≡ false → Each (λ x. p x ≡ false) xs
  none-sound p [] h = tt
  none-sound p (x ∷ xs) h = go (p x) refl h (none-sound p xs)
    where
      go : (t : Bool) → p x ≡ t → (t || any p xs) ≡ false → (any p xs ≡ false → Each (λ y. p y ≡ false) xs)
          → (p x ≡ false) × Each (λ y. p y ≡ false) xs
      go true e none ih = absurd (true≢false none)
      go false e none ih = (e, ih none)

  none-complete : (p : A → Bool) (xs : List A) → Each (λ x. p x ≡ false) xs → any p xs ≡ false
  none-complete p [] h = refl
  none-complete p (x ∷ xs) h = rw h.0 (none-complete p xs h.1)

  -- one that stands in the middle is no other
  pub distinct-middle : (xs : List A) (y : A) (ys : List A) → Distinct (xs ++ (y ∷ ys)) → Each (λ x. ¬ (y ≡ x)) xs × Each (λ x. ¬ (y ≡ x)) ys
  distinct-middle [] y ys d = (tt, d.0)
  distinct-middle (x ∷ xs) y ys d =
      let rest = distinct-middle xs y ys d.1 in
      let other = every-middle (λ z. ¬ (x ≡ z)) xs y ys d.0 in
      (((λ e. other (sym e)), rest.0), rest.1)

-- for a test that holds of equal elements and no others
module _ {A : Type 0} (equal : A → A → Bool) (alike : (x : A) → equal x x ≡ true) (unlike : (x y : A) → ¬ (x ≡ y) → equal x y ≡ false) where
  differs : (x y : A) → equal x y ≡ false → ¬ (x ≡ y)
  differs x y h e = true≢false (sym (alike x) ∙ ap (equal x) e ∙ h)

  pub distinct-sound : (xs : List A) → distinct equal xs ≡ true → Distinct xs
  distinct-sound [] h = tt
  distinct-sound (x ∷ xs) h = (
    every_map _ _ (differs x) xs (none-sound (equal x) xs (not-true (any (equal x) xs) (and_left (not (any (equal x) xs)) (distinct equal xs) h))),
    distinct-sound xs (and_right (not (any (equal x) xs)) (distinct equal xs) h),
  )

  pub distinct-complete : (xs : List A) → Distinct xs → distinct equal xs ≡ true
  distinct-complete [] h = refl
  distinct-complete (x ∷ xs) h = rw (none-complete (equal x) xs (every_map _ _ (unlike x) xs h.0)) (distinct-complete xs h.1)

-- for a test that does not ask which comes first
module _ {A : Type 0} (equal : A → A → Bool) (either : (x y : A) → equal x y ≡ equal y x) where
  pub distinct_snoc : (xs : List A) (y : A) → distinct equal (xs ++ (y ∷ [])) ≡ (distinct equal xs && not (any (equal y) xs))
  distinct_snoc [] y = refl
  distinct_snoc (x ∷ xs) y =
      rw (any_append (equal x) xs (y ∷ []), distinct_snoc xs y, either x y)
      (go (any (equal x) xs) (equal y x) (any (equal y) xs) (distinct equal xs))
    where
      go : (a e b d : Bool) → (not (a || (e || false)) && (d && not b)) ≡ ((not a && d) && not (e || b))
      go true e b d = refl
      go false true b d = sym (and-false d)
      go false false b d = refl

  distinct-front : (xs ys : List A) → distinct equal xs ≡ false → distinct equal (xs ++ ys) ≡ false
  distinct-front [] ys h = absurd (true≢false h)
  distinct-front (x ∷ xs) ys h = go (any (equal x) xs) (any (equal x) ys) h (distinct-front xs ys) (any_append (equal x) xs ys)
    where
      go : (t u : Bool) → (not t && distinct equal xs) ≡ false → (distinct equal xs ≡ false → distinct equal (xs ++ ys) ≡ false)
          → any (equal x) (xs ++ ys) ≡ (t || u) → (not (any (equal x) (xs ++ ys)) && distinct equal (xs ++ ys)) ≡ false
      go true u f ih e = rw e
      go false u f ih e = rw (ih f) (and-false (not (any (equal x) (xs ++ ys))))

  -- an element that stands in front already
  pub distinct-repeat : (xs : List A) (y : A) (ys : List A) → any (equal y) xs ≡ true → distinct equal (xs ++ (y ∷ ys)) ≡ false
  distinct-repeat xs y ys h =
      rw (← append_assoc xs (y ∷ []) ys)
      (distinct-front (xs ++ (y ∷ [])) ys (distinct_snoc xs y ∙ rw h (and-false (distinct equal xs))))
