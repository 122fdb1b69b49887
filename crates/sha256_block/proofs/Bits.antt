-- Laws on the bits of words: a choice between two words bit by bit, and rotations of an exclusive-or. The code of Ch, σ₀ and σ₁ rests on them.
-- Assumes nothing.
use Rattle.std.proofs.Common.{◌≡◌, ℕ, zero, suc, ◌+◌, ◌-◌, ◌*◌, ◌/◌, ◌%◌, ◌^◌, ◌<◌, Bool, true, false, leb, sym, refl, ap, ◌∙◌, ap₂, add_assoc, mod-lt, mul_assoc, mul_comm, add-mul, add_comm, pow-suc, arith, pow_pos, pow-add, shr-shr, shr_lt}
use native.Mathlib.Nat.{mul-mod_left}
use lib.Pow.{mod-pow-add, mod-mod-pow, shl-shr, shr_le, split, high, low}
use lib.Bits.{bit_and, bit_or, bit_xor, and_zero_l, and_shr, and_mod, xor_shr, xor_mod, xor_block, xor_lt, or_lt, or_shifted_r}
use Rattle.sha256_block.specs.Functions.{ch}

-- a number below 2 as a bit
abbrev bit : Bool → ℕ
bit false = 0
bit true = 1

bit-of : (n : ℕ) → n < 2 → n ≡ bit (leb 1 n)
bit-of zero h = refl
bit-of (suc zero) h = refl
bit-of (suc (suc n)) h = absurd (omega arith)

-- Ch's choice: of single bits
choice-bit : (x y z : Bool)
    → bit_xor (bit z) (bit_and (bit x) (bit_xor (bit y) (bit z))) ≡ bit_xor (bit_and (bit x) (bit y)) (bit_and (1 - bit x) (bit z))
choice-bit false false false = refl
choice-bit false false true = refl
choice-bit false true false = refl
choice-bit false true true = refl
choice-bit true false false = refl
choice-bit true false true = refl
choice-bit true true false = refl
choice-bit true true true = refl

choice-below : (x y z : ℕ) → x < 2 → y < 2 → z < 2 → bit_xor z (bit_and x (bit_xor y z)) ≡ bit_xor (bit_and x y) (bit_and (1 - x) z)
choice-below x y z hx hy hz = rw (bit-of x hx, bit-of y hy, bit-of z hz) (choice-bit (leb 1 x) (leb 1 y) (leb 1 z))

-- and of words of k bits, by their last bits and the rest
choice : (k x y z : ℕ) → x < 2 ^ k → z < 2 ^ k → bit_xor z (bit_and x (bit_xor y z)) ≡ bit_xor (bit_and x y) (bit_and (2 ^ k - 1 - x) z)
choice zero x y z hx hz =
    let ex : x ≡ 0 = omega arith in
    let ez : z ≡ 0 = omega arith in
    rw (ex, ez, and_zero_l (bit_xor y 0), and_zero_l y)
choice (suc k) x y z hx hz =
    let c = 2 ^ suc k - 1 - x in
    let double : 2 ^ suc k ≡ 2 ^ k * 2 = pow-suc 2 k in
    let rest : c / 2 ≡ 2 ^ k - 1 - x / 2 = omega (arith, double) in
    let last : c % 2 ≡ 1 - x % 2 = omega (arith, double) in
    let halves : bit_xor z (bit_and x (bit_xor y z)) / 2 ≡ bit_xor (bit_and x y) (bit_and c z) / 2 =
    xor_shr z (bit_and x (bit_xor y z)) 1 ∙ ap (bit_xor (z / 2)) (and_shr x (bit_xor y z) 1 ∙ ap (bit_and (x / 2)) (xor_shr y z 1))
    ∙ choice k (x / 2) (y / 2) (z / 2) (omega (arith, double)) (omega (arith, double))
    ∙ ap (λ (d : ℕ). bit_xor (bit_and (x / 2) (y / 2)) (bit_and d (z / 2))) (sym rest)
    ∙ sym (xor_shr (bit_and x y) (bit_and c z) 1 ∙ ap₂ bit_xor (and_shr x y 1) (and_shr c z 1)) in
    let bits : bit_xor z (bit_and x (bit_xor y z)) % 2 ≡ bit_xor (bit_and x y) (bit_and c z) % 2 =
    xor_mod z (bit_and x (bit_xor y z)) 1 ∙ ap (bit_xor (z % 2)) (and_mod x (bit_xor y z) 1 ∙ ap (bit_and (x % 2)) (xor_mod y z 1))
    ∙ choice-below (x % 2) (y % 2) (z % 2) (omega arith) (omega arith) (omega arith)
    ∙ ap (λ (d : ℕ). bit_xor (bit_and (x % 2) (y % 2)) (bit_and d (z % 2))) (sym last)
    ∙ sym (xor_mod (bit_and x y) (bit_and c z) 1 ∙ ap₂ bit_xor (and_mod x y 1) (and_mod c z 1)) in
    omega (arith, halves, bits)

-- so it is Ch
pub ch-by-choice : (x y z : ℕ) → x < 2 ^ 32 → z < 2 ^ 32 → bit_xor z (bit_and x (bit_xor y z)) ≡ ch x y z
ch-by-choice = choice 32

-- a rotation by k of a word of j + k bits, and the same as a sum
abbrev rotation : ℕ → ℕ → ℕ → ℕ
rotation j k x = bit_or (x / 2 ^ k) (x * 2 ^ j % 2 ^ (k + j))

abbrev rotated : ℕ → ℕ → ℕ → ℕ
rotated j k x = x % 2 ^ k * 2 ^ j + x / 2 ^ k

rotation-sum : (j k x : ℕ) → x < 2 ^ (j + k) → rotation j k x ≡ rotated j k x
rotation-sum j k x h =
    let top : x * 2 ^ j % 2 ^ (k + j) ≡ x % 2 ^ k * 2 ^ j =
    mod-pow-add (x * 2 ^ j) k j ∙ rw (shl-shr x j, mul-mod_left x (2 ^ j)) (omega arith) in
    ap (bit_or (x / 2 ^ k)) top ∙ or_shifted_r (x % 2 ^ k) j (x / 2 ^ k) (shr_lt j k h)

-- it goes through an exclusive-or
rotated-xor : (j k x y : ℕ) → x < 2 ^ (j + k) → y < 2 ^ (j + k) → rotated j k (bit_xor x y) ≡ bit_xor (rotated j k x) (rotated j k y)
rotated-xor j k x y hx hy =
    rw (xor_mod x y k, xor_shr x y k) (sym (xor_block j (x % 2 ^ k) (y % 2 ^ k) (x / 2 ^ k) (y / 2 ^ k) (shr_lt j k hx) (shr_lt j k hy)))

-- and two rotations are one
rotated-twice : (j k l x y : ℕ) → x < 2 ^ (j + k + l) → y ≡ rotated (j + k) l x → rotated (j + l) k y ≡ rotated j (k + l) x
rotated-twice j k l x y h e =
    let a = x / 2 ^ l in
    let b = x % 2 ^ l in
    let below : a < 2 ^ (j + k) = shr_lt (j + k) l h in
    let low_bits : y % 2 ^ k ≡ a % 2 ^ k = rw e (sym (mod-mod-pow (b * 2 ^ (j + k) + a) j k) ∙ ap (λ (n : ℕ). n % 2 ^ k) (low b (j + k) below)) in
    let parts : y ≡ (b * 2 ^ j + a / 2 ^ k) * 2 ^ k + a % 2 ^ k =
    rw (e, pow-add 2 j k, add-mul (b * 2 ^ j) (a / 2 ^ k) (2 ^ k), mul_assoc b (2 ^ j) (2 ^ k)) (omega (arith, split a k)) in
    let high_bits : y / 2 ^ k ≡ b * 2 ^ j + a / 2 ^ k = rw parts (high (b * 2 ^ j + a / 2 ^ k) k (mod-lt a (pow_pos k))) in
    let top : a % 2 ^ k * 2 ^ (j + l) ≡ a % 2 ^ k * 2 ^ l * 2 ^ j =
    rw (pow-add 2 j l, mul_comm (2 ^ j) (2 ^ l), mul_assoc (a % 2 ^ k) (2 ^ l) (2 ^ j)) in
    let shifted : x / 2 ^ (k + l) ≡ a / 2 ^ k = rw (add_comm k l) (sym (shr-shr x l k)) in
    rw (low_bits, high_bits, mod-pow-add x k l, shifted, add-mul (a % 2 ^ k * 2 ^ l) b (2 ^ j), top) (omega arith)

-- so of two rotations, the larger is made from the smaller
pub rotation-nested : (j k l x : ℕ) → x < 2 ^ (j + k + l)
    → rotation (j + l) k (bit_xor x (rotation (j + k) l x)) ≡ bit_xor (rotation (j + l) k x) (rotation j (k + l) x)
rotation-nested j k l x h =
    let y = rotation (j + k) l x in
    let width : j + l + k ≡ j + k + l = omega arith in
    let turned : l + (j + k) ≡ j + k + l = omega arith in
    let hx : x < 2 ^ (j + l + k) = rw width h in
    let y-high : x * 2 ^ (j + k) % 2 ^ (l + (j + k)) < 2 ^ (j + k + l) = rw turned (mod-lt (x * 2 ^ (j + k)) (pow_pos (j + k + l))) in
    let hy : y < 2 ^ (j + l + k) = rw width (or_lt (j + k + l) (x / 2 ^ l) _ (omega (arith, h, shr_le x l)) y-high) in
    rotation-sum (j + l) k (bit_xor x y) (xor_lt (j + l + k) x y hx hy)
    ∙ rotated-xor (j + l) k x y hx hy
    ∙ ap₂ bit_xor (sym (rotation-sum (j + l) k x hx))
    (rotated-twice j k l x y h (rotation-sum (j + k) l x h) ∙ sym (rotation-sum j (k + l) x (rw (← add_assoc j k l) h)))
