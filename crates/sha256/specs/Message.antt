-- FIPS 180-4, section 5.1.1: padding a message, for messages of whole bytes.
use Rattle.std.specs.Prelude.{ℕ, ◌-◌, ◌*◌, ◌%◌, List, ◌∷◌, ◌++◌, length, replicate}
use Rattle.endian.specs.Number.{be}

-- Behind a message of n bytes, l = 8 n bits, come the bit 1 and the smallest number k of zero bits with l + 1 + k ≡ 448 mod 512. The bit and the
-- first seven zero bits are the byte 80; `zeros n` more bytes follow, the smallest number with (n + 1 + zeros n) % 64 ≡ 56 (proofs/Padding.antt
-- shows that it is).
abbrev pub zeros : ℕ → ℕ
zeros n = (119 - n % 64) % 64

-- and then the number l in 64 bits
abbrev pub padding : ℕ → List ℕ
padding n = 0x80 ∷ replicate (zeros n) 0 ++ be 8 (8 * n)

unfoldable pub pad : List ℕ → List ℕ
pad m = m ++ padding (length m)
