-- What a series of calls comes to, by its parts: calls one behind the other, and calls that leave the connection as it was.
-- Assumes nothing.
use mathlib.Core.Path.{◌≡◌, refl, ◌∙◌}
use mathlib.Core.List.{List, [], ◌∷◌, ◌++◌}
use Rattle.lists.specs.Lists.{Each}
use Rattle.handshake.specs.Step.{Settled}
use Rattle.handshake.specs.Series.{run}

module _ {C X : Type 0} (call : C → X → Settled C) where
  pub run-append : (c : C) (xs ys : List X) → run call c (xs ++ ys) ≡ run call (run call c xs) ys
  run-append c [] ys = refl
  run-append c (x ∷ xs) ys = run-append (call c x).next xs ys

  module _ (c : C) (Stays : X → Type 0) (stays : (x : X) → Stays x → (call c x).next ≡ c) where
    pub run-stays : (xs : List X) → Each Stays xs → run call c xs ≡ c
    run-stays [] each = refl
    run-stays (x ∷ xs) each = rw (stays x each.0) (run-stays xs each.1)

    -- calls that leave c as it was, and then one that does not
    pub run-comes : (xs : List X) → Each Stays xs → (x : X) → run call c (xs ++ (x ∷ [])) ≡ (call c x).next
    run-comes xs each x = run-append c xs (x ∷ []) ∙ rw (run-stays xs each)
