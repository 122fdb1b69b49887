-- FIPS 180-4, sections 5.3.3 and 6.2: the initial hash value and the digest of a message.
use Rattle.std.specs.Prelude.{ℕ, ◌-◌, ◌^◌, cond, List, ◌++◌, length, leb}
use Rattle.endian.specs.Number.{be}
use Rattle.refusal.specs.Lent.{Outcome, gives, refuses}
use Rattle.refusal.specs.declared.Refusal.TheVariants.{BadValue}
use Rattle.sha256_block.specs.declared.Words.{Words}
use Rattle.sha256_block.specs.Blocks.{parse, hash_blocks}
use Rattle.sha256.specs.Message.{pad}

-- 5.3.3: of the square roots of the first eight primes, the first 32 bits behind the point
abbrev pub h0 : Words
h0 =
    record {
      a = 0x6a09e667;
      b = 0xbb67ae85;
      c = 0x3c6ef372;
      d = 0xa54ff53a;
      e = 0x510e527f;
      f = 0x9b05688c;
      g = 0x1f83d9ab;
      h = 0x5be0cd19;
    }

-- 6.2.2: the digest is the eight words one after the other
unfoldable pub concatenated : Words → List ℕ
concatenated H = be 4 H.a ++ be 4 H.b ++ be 4 H.c ++ be 4 H.d ++ be 4 H.e ++ be 4 H.f ++ be 4 H.g ++ be 4 H.h

-- document 01, "Secrets": the hash takes at most 2 ^ 61 - 1 bytes in all; more is R5
abbrev pub limit : ℕ
limit = 2 ^ 61 - 1

unfoldable pub digest : List ℕ → List ℕ
digest m = concatenated (hash_blocks h0 (parse (pad m)))

unfoldable pub sha256 : List ℕ → Outcome
sha256 m = cond (leb (length m) limit) (gives (digest m)) (refuses BadValue)
