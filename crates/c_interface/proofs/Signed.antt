-- A number below zero in 32 bits.
-- Assumes nothing.
use mathlib.Core.Path.{◌≡◌, refl, ap, ◌∙◌}
use Prim.Native.Nat.{ℕ, zero, suc, ◌<◌, ◌^◌}
use native.Mathlib.Omega.{arith}
use lib.IntN.{ℤ, pos, negsuc, neg_ℤ, ◌-ℤ◌}
use borrow.Author.Tests.{lt-ltb}
use lib.Signed.{mag}
use mir.Syntax.{w32}
use mir.Val.{SFits, to_z, of_z}
use mir.Facts.{to_z_pos, to_z-of_z}

zero_minus : (n : ℕ) → pos 0 -ℤ pos n ≡ neg_ℤ (pos n)
zero_minus zero = refl
zero_minus (suc n) = rw (lt-ltb 0 (suc n) (omega arith)) (ap negsuc (omega arith))

negated_fits : (n : ℕ) → n < 2 ^ 31 → SFits w32 (neg_ℤ (pos n))
negated_fits zero h = record { sfits = omega arith }
negated_fits (suc n) h = record { sfits = omega arith }

pub minus-fits : (n : ℕ) → n < 2 ^ 31 → SFits w32 (to_z w32 0 -ℤ to_z w32 n)
minus-fits n h = rw (to_z_pos w32 {n = n} h, zero_minus n) (negated_fits n h)

pub subtracted-from-zero : (n : ℕ) → n < 2 ^ 31 → to_z w32 (of_z w32 (to_z w32 0 -ℤ to_z w32 n)) ≡ neg_ℤ (pos n)
subtracted-from-zero n h = to_z-of_z {w = w32} (minus-fits n h) ∙ ap (λ (z : ℤ). pos 0 -ℤ z) (to_z_pos w32 {n = n} h) ∙ zero_minus n

-- a number that a call handed back is handed on as it is
pub handed-on : (z : ℤ) → mag z < 2 ^ 31 → to_z w32 (of_z w32 z) ≡ z
handed-on z h = to_z-of_z {w = w32} (record { sfits = h })
