-- What setting a clear bit of a number does to the number and to each of its bits.
-- Assumes nothing.
use mathlib.Core.Path.{◌≡◌, sym, ap, ◌∙◌}
use mathlib.Core.Logic.{◌≢◌}
use Prim.Native.Nat.{ℕ, ◌+◌, ◌-◌, ◌*◌, ◌/◌, ◌%◌, ◌^◌, ◌<◌}
use native.Mathlib.Omega.{arith}
use native.Mathlib.Decide.{dec_lt}
use native.Mathlib.Nat.{add-div_right, add-mul-div_left}
use lib.Pow.{pow_pos, pow-add, shl_exact, shr-shr}
use lib.Bits.{bit_and, bit_or, and_high, or_disjoint}

-- the bit alone, as a shift gives it
pub shifted_one : (k w : ℕ) → k < w → (1 * 2 ^ k) % 2 ^ w ≡ 2 ^ k
shifted_one k w inside = shl_exact {a = 1} 1 k w (omega arith) (omega arith) ∙ (omega arith)

-- joining a clear bit is adding it
pub joined-clear : (x k : ℕ) → x / 2 ^ k % 2 ≡ 0 → bit_or x (2 ^ k) ≡ x + 2 ^ k
joined-clear x k clear =
    let double : 2 ^ (1 + k) - 2 ^ k ≡ 2 ^ k = rw (pow-add 2 1 k) (omega arith) in
    let apart : bit_and x (2 ^ k) ≡ 0 = ap (bit_and x) (sym double) ∙ and_high x 1 k ∙ ap (λ (y : ℕ). y * 2 ^ k) clear ∙ (omega arith) in
    or_disjoint x (2 ^ k) apart

pub set_same : (x k : ℕ) → x / 2 ^ k % 2 ≡ 0 → (x + 2 ^ k) / 2 ^ k % 2 ≡ 1
set_same x k clear = rw (add-div_right x (pow_pos k)) (omega arith)

-- a bit below it
set-above : (x j k d : ℕ) → k ≡ j + (1 + d) → (x + 2 ^ k) / 2 ^ j % 2 ≡ x / 2 ^ j % 2
set-above x j k d e = rw (e, pow-add 2 j (1 + d), pow-add 2 1 d, add-mul-div_left x (2 * 2 ^ d) (pow_pos j)) (omega arith)

-- a bit above it
set_below : (x j k d : ℕ) → j ≡ k + (1 + d) → x / 2 ^ k % 2 ≡ 0 → (x + 2 ^ k) / 2 ^ j % 2 ≡ x / 2 ^ j % 2
set_below x j k d e clear =
    let half : (x + 2 ^ k) / 2 ^ k / 2 ≡ x / 2 ^ k / 2 = rw (add-div_right x (pow_pos k)) (omega arith) in
    let shifted : (y : ℕ) → y / 2 ^ j ≡ y / 2 ^ k / 2 / 2 ^ d =
    λ y. ap (λ (i : ℕ). y / 2 ^ i) e ∙ sym (shr-shr y k (1 + d)) ∙ sym (shr-shr (y / 2 ^ k) 1 d) in
    ap (λ (y : ℕ). y % 2) (shifted (x + 2 ^ k) ∙ ap (λ (y : ℕ). y / 2 ^ d) half ∙ sym (shifted x))

pub set_other : (x k j : ℕ) → j ≢ k → x / 2 ^ k % 2 ≡ 0 → (x + 2 ^ k) / 2 ^ j % 2 ≡ x / 2 ^ j % 2
set_other x k j apart clear = elim (dec_lt j k) [
  | yes h ↦ set-above x j k (k - j - 1) (omega arith)
  | no h ↦ set_below x j k (j - k - 1) (omega arith) clear
]
