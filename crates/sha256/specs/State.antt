-- A hash under way: what absorbing a byte and finishing mean, for every value of the state. `count` bytes were absorbed; the last count % 64 of
-- them stand at the front of `block`, and `words` is the hash value of the blocks before. A block that was compressed is cleared.
-- proofs/Finish.antt ties this to `sha256`: finishing what was absorbed of a message gives the message's digest.
use Rattle.std.specs.Prelude.{ℕ, ◌+◌, ◌%◌, cond, List, [], ◌∷◌, ◌++◌, take, set, replicate, leb, eqb}
use Rattle.refusal.specs.Lent.{Outcome, gives, refuses}
use Rattle.refusal.specs.declared.Refusal.TheVariants.{BadValue}
use Rattle.sha256.specs.declared.Sha256.{Sha256}
use Rattle.sha256_block.specs.Block.{compress}
use Rattle.sha256_block.specs.Blocks.{parse, hash_blocks}
use Rattle.sha256.specs.Message.{padding}
use Rattle.sha256.specs.Hash.{h0, concatenated, limit}

abbrev pub clear : List ℕ
clear = replicate 64 0

-- nothing absorbed yet
unfoldable pub fresh : Sha256
fresh = record { words = h0; block = clear; count = 0 }

-- more than the limit was offered
unfoldable pub over : Sha256
over = record { words = record { a = 0; b = 0; c = 0; d = 0; e = 0; f = 0; g = 0; h = 0 }; block = clear; count = limit + 1 }

unfoldable pub absorb_byte : Sha256 → ℕ → Sha256
unfolding over
absorb_byte s byte =
    cond (leb limit s.count) over
    (cond (eqb (s.count % 64) 63)
    (record { words = compress s.words (set s.block 63 byte); block = clear; count = s.count + 1 })
    (record { words = s.words; block = set s.block (s.count % 64) byte; count = s.count + 1 }))

unfoldable pub absorb : Sha256 → List ℕ → Sha256
absorb s [] = s
absorb s (byte ∷ rest) = absorb (absorb_byte s byte) rest

-- the digest of what was absorbed, or R5 where that was more than the limit
unfoldable pub finished : Sha256 → Outcome
finished s =
    cond (leb s.count limit)
    (gives (concatenated (hash_blocks s.words (parse (take (s.count % 64) s.block ++ padding s.count)))))
    (refuses BadValue)
