-- FIPS 180-4, sections 2.2.2, 3.2 and 4.1.2: the operations on 32-bit words and SHA-256's six functions. A word is a number below 2 ^ 32.
use Rattle.std.specs.Prelude.{ℕ, ◌+◌, ◌-◌, ◌*◌, ◌/◌, ◌%◌, ◌^◌, bit_and, bit_or, bit_xor}

infixl 69 ◌⊞◌
infixl 68 ◌⊕◌
-- 3.2: addition modulo 2 ^ 32
abbrev pub ◌⊞◌ : ℕ → ℕ → ℕ
x ⊞ y = (x + y) % 2 ^ 32

-- 2.2.2: bitwise exclusive-or and complement
abbrev pub ◌⊕◌ : ℕ → ℕ → ℕ
x ⊕ y = bit_xor x y

abbrev pub complement : ℕ → ℕ
complement x = 2 ^ 32 - 1 - x

-- 3.2: SHR n (x) = x >> n
abbrev pub shr : ℕ → ℕ → ℕ
shr n x = x / 2 ^ n

-- 3.2: ROTR n (x) = (x >> n) ∨ (x << 32 - n)
abbrev pub rotr : ℕ → ℕ → ℕ
rotr n x = bit_or (x / 2 ^ n) (x * 2 ^ (32 - n) % 2 ^ 32)

-- (4.2)
abbrev pub ch : ℕ → ℕ → ℕ → ℕ
ch x y z = bit_and x y ⊕ bit_and (complement x) z

-- (4.3)
abbrev pub maj : ℕ → ℕ → ℕ → ℕ
maj x y z = bit_and x y ⊕ bit_and x z ⊕ bit_and y z

-- (4.4)
abbrev pub Σ₀ : ℕ → ℕ
Σ₀ x = rotr 2 x ⊕ rotr 13 x ⊕ rotr 22 x

-- (4.5)
abbrev pub Σ₁ : ℕ → ℕ
Σ₁ x = rotr 6 x ⊕ rotr 11 x ⊕ rotr 25 x

-- (4.6)
abbrev pub σ₀ : ℕ → ℕ
σ₀ x = rotr 7 x ⊕ rotr 18 x ⊕ shr 3 x

-- (4.7)
abbrev pub σ₁ : ℕ → ℕ
σ₁ x = rotr 17 x ⊕ rotr 19 x ⊕ shr 10 x
