-- The laws that hold of every layout: when fields are valid, how a writer shows its answer, and where a caller finds it.
-- Assumes nothing.
use mathlib.Core.Path.{◌≡◌}
use Prim.Native.Nat.{ℕ, ◌≤◌}
use native.Mathlib.Omega.{arith}
use mathlib.Core.Bool.{true, and-eq-true_iff}
use mathlib.Core.List.{List, ◌++◌}
use lib.ListN.{length, drop}
use lib.Dec.{leb}
use borrow.Author.Tests.{le-leb, leb-true}
use Rattle.std.specs.Prelude.{Result}
use Rattle.refusal.specs.declared.Refusal.{Refusal}
use Rattle.refusal.specs.Lent.{gives, Answers}
use Rattle.refusal.proofs.Laws.{answer-in-front}
use Rattle.layout.specs.Layout.{Layout, bytes, valid, written}

module _ {F : Type 0} (l : Layout F) (f : F) where
  pub valid-within : l.rules f ≡ true → length (l.body f) ≤ 16380 → valid l f ≡ true
  valid-within h n = rw (h, le-leb (length (bytes l f)) 16384 (omega arith))

  pub valid-parts : valid l f ≡ true → (l.rules f ≡ true) × (length (l.body f) ≤ 16380)
  valid-parts h =
      let both = (and-eq-true_iff (l.rules f) (leb (length (bytes l f)) 16384)).0 h in
      (both.0, omega (arith, leb-true (length (bytes l f)) 16384 both.1))

  -- ---- for a writer

  pub writes : (out left : List ℕ) (said : Result ℕ Refusal) → valid l f ≡ true → Answers (gives (bytes l f)) out said left
      → Answers (written l f) out said left
  writes out left said h a = rw h a

  -- ---- for a caller

  -- a valid message that has room stands at the front of the output
  pub at_front : {out left : List ℕ} {said : Result ℕ Refusal} → valid l f ≡ true → length (bytes l f) ≤ length out → Answers (written l f) out said left
      → left ≡ bytes l f ++ drop (length (bytes l f)) out
  at_front h room a = answer-in-front (rw h at a) room
