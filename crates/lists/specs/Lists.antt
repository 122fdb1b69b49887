-- Definitions on lists that no topic owns: tests of the elements, equal bytes, parts. Nothing here speaks of TLS.
use Rattle.std.specs.Prelude.{◌≡◌, ℕ, ◌-◌, Bool, true, false, not, ◌&&◌, ◌||◌, List, [], ◌∷◌, ◌++◌, length, take, drop, replicate, cond, eqb, Option, None, Some}

module _ {A : Type 0} where
  -- every element passes the test
  abbrev pub each : (A → Bool) → List A → Bool
  each p [] = true
  each p (x ∷ xs) = p x && each p xs

  -- some element passes the test
  abbrev pub any : (A → Bool) → List A → Bool
  any p [] = false
  any p (x ∷ xs) = p x || any p xs

  -- no element stands twice, by a test for equal ones
  abbrev pub distinct : (A → A → Bool) → List A → Bool
  distinct equal [] = true
  distinct equal (x ∷ xs) = not (any (equal x) xs) && distinct equal xs

  -- every element has the property
  abbrev pub Each : (A → Type 0) → List A → Type 0
  Each P [] = Unit
  Each P (x ∷ xs) = P x × Each P xs

  -- no element stands twice
  abbrev pub Distinct : List A → Type 0
  Distinct [] = Unit
  Distinct (x ∷ xs) = Each (λ y. ¬ (x ≡ y)) xs × Distinct xs

-- the two are equal, number by number
abbrev pub same : List ℕ → List ℕ → Bool
same [] [] = true
same [] (b ∷ t) = false
same (a ∷ s) [] = false
same (a ∷ s) (b ∷ t) = eqb a b && same s t

-- the n numbers from `at` on, as far as there are any
abbrev pub part : ℕ → ℕ → List ℕ → List ℕ
part at n s = take n (drop at s)

-- numbers at the front of a field of n, with zeros behind them
abbrev pub field : ℕ → List ℕ → List ℕ
field n s = s ++ replicate (n - length s) 0

-- the truth value of a byte, 0 or 1, if it is that of one
abbrev pub flag_of : ℕ → Option Bool
flag_of n = cond (eqb n 0) (Some false) (cond (eqb n 1) (Some true) None)
