-- FIPS 180-4, sections 5.2.1 and 6.2.2: the whole blocks of a message, and the hash value after them.
use Rattle.std.specs.Prelude.{ℕ, zero, suc, ◌/◌, List, [], ◌∷◌, length, take, drop}
use Rattle.sha256_block.specs.declared.Words.{Words}
use Rattle.sha256_block.specs.Block.{compress}

-- 5.2.1: the first n blocks of 512 bits
unfoldable pub blocks : ℕ → List ℕ → List (List ℕ)
blocks zero m = []
blocks (suc n) m = take 64 m ∷ blocks n (drop 64 m)

-- all whole blocks; what stands behind them is left out
unfoldable pub parse : List ℕ → List (List ℕ)
parse m = blocks (length m / 64) m

-- 6.2.2: the computation for each block in turn
unfoldable pub hash_blocks : Words → List (List ℕ) → Words
hash_blocks H [] = H
hash_blocks H (block ∷ rest) = hash_blocks (compress H block) rest
