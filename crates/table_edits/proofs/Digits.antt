-- A key in lower-case hex: its digits one by one, and that they stand for the key. Assumes nothing.
use mathlib.Core.Path.{◌≡◌, refl, ap, ap₂, ◌∙◌}
use Prim.Native.Nat.{ℕ, zero, suc, ◌+◌, ◌-◌, ◌*◌, ◌/◌, ◌%◌, ◌<◌}
use native.Mathlib.Omega.{arith}
use mathlib.Core.Bool.{Bool, true, false, cond}
use mathlib.Core.Logic.{inl, inr}
use mathlib.Core.List.{List, [], ◌∷◌}
use lib.ListN.{length, get_or, set}
use lib.Dec.{ltb}
use borrow.Author.Tests.{ltb-true, ltb-false, lt-ltb, le-leb, lt-leb, eq-eqb}
use Rattle.lists.specs.Lists.{each, Each}
use Rattle.lists.proofs.Tests.{both}
use Rattle.lists.proofs.Copies.{filled, fill-turn}
use Rattle.keytable.specs.Table.{digit, hex_digit, valid_key, decoded, valid_secret}
use Rattle.keytable.proofs.Tests.{between-sound}
use Rattle.table_edits.specs.Edits.{lower_digit, lower_hex, LowerDigit}

pub length-hex : (key : List ℕ) → length (lower_hex key) ≡ 2 * length key
length-hex [] = refl
length-hex (b ∷ key) = omega (arith, length-hex key)

pub high_digit : (key : List ℕ) (i : ℕ) → i < length key → get_or (lower_hex key) (2 * i) 0 ≡ lower_digit (get_or key i 0 / 16)
high_digit [] i h = absurd (omega arith)
high_digit (b ∷ key) zero h = refl
high_digit (b ∷ key) (suc i) h =
    let next : 2 * suc i ≡ suc (suc (2 * i)) = omega arith in
    rw next (high_digit key i (omega arith))

pub low_digit : (key : List ℕ) (i : ℕ) → i < length key → get_or (lower_hex key) (2 * i + 1) 0 ≡ lower_digit (get_or key i 0 % 16)
low_digit [] i h = absurd (omega arith)
low_digit (b ∷ key) zero h = refl
low_digit (b ∷ key) (suc i) h =
    let next : 2 * suc i + 1 ≡ suc (suc (2 * i + 1)) = omega arith in
    rw next (low_digit key i (omega arith))

-- the digits of one more byte
pub digits-turn : (key d : List ℕ) (i : ℕ) → i < length key → length d ≡ 2 * length key
    → set (set (filled (lower_hex key) d (2 * i)) (2 * i) (lower_digit (get_or key i 0 / 16))) (2 * i + 1) (lower_digit (get_or key i 0 % 16))
    ≡ filled (lower_hex key) d (2 * (i + 1))
digits-turn key d i h size =
    let digits = length-hex key in
    let hex : List ℕ = lower_hex key in
    let next : 2 * i + 1 + 1 ≡ 2 * (i + 1) = omega arith in
    rw (← high_digit key i h, ← low_digit key i h)
    (ap (λ (l : List ℕ). set l (2 * i + 1) (get_or hex (2 * i + 1) 0)) (fill-turn hex d (2 * i) (omega arith) (omega arith))
    ∙ fill-turn hex d (2 * i + 1) (omega arith) (omega arith) ∙ ap (filled hex d) next)

-- ---- what the digits stand for

-- the digit's number is the number
digit-lower : (n : ℕ) → n < 16 → digit (lower_digit n) ≡ n
digit-lower n h = go (ltb n 10) refl
  where
    go : (b : Bool) → ltb n 10 ≡ b → digit (lower_digit n) ≡ n
    go true small =
        let few = ltb-true n 10 small in
        let value : 0x30 + n - 0x30 ≡ n = omega arith in
        rw (small, le-leb 0x30 (0x30 + n) (omega arith), le-leb (0x30 + n) 0x39 (omega arith)) value
    go false large =
        let many = ltb-false n 10 large in
        let value : 0x61 + (n - 10) - 0x61 + 10 ≡ n = omega arith in
        rw large
        (rw (
          le-leb 0x30 (0x61 + (n - 10)) (omega arith),
          lt-leb (0x61 + (n - 10)) 0x39 (omega arith),
          le-leb 0x41 (0x61 + (n - 10)) (omega arith),
          lt-leb (0x61 + (n - 10)) 0x46 (omega arith),
          le-leb 0x61 (0x61 + (n - 10)) (omega arith),
          le-leb (0x61 + (n - 10)) 0x66 (omega arith),
        )
        value)

lower-hex-digit : (n : ℕ) → n < 16 → hex_digit (lower_digit n) ≡ true
lower-hex-digit n h = rw (digit-lower n h) (lt-ltb n 16 h)

hex-digits : (key : List ℕ) → Each (λ b. b < 256) key → each hex_digit (lower_hex key) ≡ true
hex-digits [] h = refl
hex-digits (b ∷ key) h =
    let byte = h.0 in
    both (lower-hex-digit (b / 16) (omega arith)) (both (lower-hex-digit (b % 16) (omega arith)) (hex-digits key h.1))

pub decoded-hex : (key : List ℕ) → Each (λ b. b < 256) key → decoded (lower_hex key) ≡ key
decoded-hex [] h = refl
decoded-hex (b ∷ key) h =
    let byte = h.0 in
    let value : b / 16 * 16 + b % 16 ≡ b = omega arith in
    ap₂ (λ (x : ℕ) (r : List ℕ). x ∷ r)
    (ap₂ (λ (x : ℕ) (y : ℕ). x * 16 + y) (digit-lower (b / 16) (omega arith)) (digit-lower (b % 16) (omega arith)) ∙ value)
    (decoded-hex key h.1)

pub valid-hex : (key : List ℕ) → valid_secret key ≡ true → Each (λ b. b < 256) key → valid_key (lower_hex key) ≡ true
valid-hex key valid bytes =
    let size = between-sound 1 64 (length key) valid in
    let digits = length-hex key in
    both
    (both (both (le-leb 2 (length (lower_hex key)) (omega arith)) (le-leb (length (lower_hex key)) 128 (omega arith)))
    (eq-eqb (length (lower_hex key) % 2) 0 (omega arith)))
    (hex-digits key bytes)

-- ---- lower case

lower-digit-range : (n : ℕ) → n < 16 → LowerDigit (lower_digit n)
lower-digit-range n h = go (ltb n 10) refl
  where
    go : (b : Bool) → ltb n 10 ≡ b → LowerDigit (cond b (0x30 + n) (0x61 + (n - 10)))
    go true small = inl (omega arith, omega (arith, ltb-true n 10 small))
    go false large = inr (omega arith, omega arith)

pub lower_only : (key : List ℕ) → Each (λ b. b < 256) key → Each LowerDigit (lower_hex key)
lower_only [] h = tt
lower_only (b ∷ key) h =
    let byte = h.0 in
    (lower-digit-range (b / 16) (omega arith), (lower-digit-range (b % 16) (omega arith), lower_only key h.1))
