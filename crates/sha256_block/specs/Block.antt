-- FIPS 180-4, sections 5.2.1 and 6.2.2: a block's words, and the computation for one block.
use Rattle.std.specs.Prelude.{ℕ, zero, suc, ◌+◌, List, [], ◌∷◌, ◌++◌, take, drop, slice_index, slice_index_or}
use Rattle.endian.specs.Number.{number}
use Rattle.sha256_block.specs.declared.Words.{Words}
use Rattle.sha256_block.specs.Functions.{◌⊞◌, ch, maj, Σ₀, Σ₁, σ₀, σ₁}
use Rattle.sha256_block.specs.Constants.{k256}

-- 5.2.1: the first n of a block's sixteen words M₀ to M₁₅, four bytes each
unfoldable pub words : ℕ → List ℕ → List ℕ
words zero block = []
words (suc n) block = number (take 4 block) ∷ words n (drop 4 block)

-- 6.2.2, step 1: the message schedule as far as W of 15 + n. W of t is M of t for t up to 15, and from there, with t = 16 + n,
-- σ₁ (W (t - 2)) + W (t - 7) + σ₀ (W (t - 15)) + W (t - 16).
unfoldable pub schedule : ℕ → List ℕ → List ℕ
schedule zero M = M
schedule (suc n) M =
    let W = schedule n M in
    W ++ (σ₁ (slice_index W (n + 14)) ⊞ slice_index_or W (n + 9) 0 ⊞ σ₀ (slice_index W (n + 1)) ⊞ slice_index_or W n 0 ∷ [])

-- step 3, for one t
unfoldable pub round : ℕ → ℕ → Words → Words
round Kₜ Wₜ v =
    let T₁ = v.h ⊞ Σ₁ v.e ⊞ ch v.e v.f v.g ⊞ Kₜ ⊞ Wₜ in
    let T₂ = Σ₀ v.a ⊞ maj v.a v.b v.c in
    record { a = T₁ ⊞ T₂; b = v.a; c = v.b; d = v.c; e = v.d ⊞ T₁; f = v.e; g = v.f; h = v.g }

-- step 3, for t = 0 to n - 1
unfoldable pub rounds : ℕ → List ℕ → Words → Words
rounds zero W v = v
rounds (suc t) W v = round (slice_index k256 t) (slice_index W t) (rounds t W v)

-- step 4: the next hash value, from the working variables and the hash value before
unfoldable pub added : Words → Words → Words
added v H =
    record {
      a = v.a ⊞ H.a;
      b = v.b ⊞ H.b;
      c = v.c ⊞ H.c;
      d = v.d ⊞ H.d;
      e = v.e ⊞ H.e;
      f = v.f ⊞ H.f;
      g = v.g ⊞ H.g;
      h = v.h ⊞ H.h;
    }

-- steps 1 to 4 for one block
unfoldable pub compress : Words → List ℕ → Words
compress H block = added (rounds 64 (schedule 48 (words 16 block)) H) H
