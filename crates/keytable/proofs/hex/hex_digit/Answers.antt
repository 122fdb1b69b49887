-- `keytable::hex::hex_digit`: the bits are right one by one.
use Rattle.std.proofs.Common.{◌≡◌, ◌∙◌, refl, sym, ap, ℕ, suc, ◌+◌, ◌-◌, ◌≤◌, ◌<◌, ◌/◌, ◌%◌, ◌^◌, arith, Bool, true, false, not, cond, ◌&&◌, nat_eq}
use Prim.Native.Nat.{zero}
use native.Mathlib.Decide.{ℕ_discrete}
use borrow.Author.Tests.{not-true}
use Rattle.lists.proofs.Tests.{and_left, and_right}
use Rattle.keytable.specs.Table.{hex_digit}
use Rattle.keytable.proofs.hex.hex_digit.Goals as goal

-- the bit for the byte 30 hex + d
abbrev bit : ℕ → Bool
bit d = nat_eq (0x7E0000007E03FF / 2 ^ d % 2) 1

-- n bits from `at` on say which bytes are digits
abbrev right : ℕ → ℕ → Bool
right zero at = true
right (suc n) at = cond (bit at) (hex_digit (48 + at)) (not (hex_digit (48 + at))) && right n (at + 1)

alike : (a b : Bool) → cond a b (not b) ≡ true → a ≡ b
alike true b e = sym e
alike false b e = sym (not-true b e)

bit-right : (n at d : ℕ) → right n at ≡ true → at ≤ d → d < at + n → bit d ≡ hex_digit (48 + d)
bit-right zero at d e low high = absurd (omega arith)
bit-right (suc n) at d e low high =
    go (ℕ_discrete d at) (λ l h. bit-right n (at + 1) d (and_right (cond (bit at) (hex_digit (48 + at)) (not (hex_digit (48 + at)))) (right n (at + 1)) e) l h)
  where
    go : Dec (d ≡ at) → (at + 1 ≤ d → d < at + 1 + n → bit d ≡ hex_digit (48 + d)) → bit d ≡ hex_digit (48 + d)
    go (yes same) ih =
        rw same (alike (bit at) (hex_digit (48 + at)) (and_left (cond (bit at) (hex_digit (48 + at)) (not (hex_digit (48 + at)))) (right n (at + 1)) e))
    go (no other) ih = ih (omega arith) (omega arith)

pub returns : goal.returns
returns c =
    let b = c.args.b in
    let there : 48 + (b - 48) ≡ b = omega (arith, c.if-b-lt48.false) in
    bit-right 55 0 (b - 48) refl (omega arith) (omega (arith, c.if-b-gt102.false)) ∙ ap hex_digit there
