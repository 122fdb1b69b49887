-- Parsing into blocks, one block after the other, and hashing them so.
-- Assumes nothing.
use Rattle.std.proofs.Common.{◌≡◌, ℕ, suc, ◌/◌, ◌<◌, List, [], ◌∷◌, ◌++◌, length, sym, ap, ◌∙◌, append-nil, arith, length-append, take_at, drop_at}
use Rattle.sha256_block.specs.declared.Words.{Words}
use Rattle.sha256_block.specs.Blocks.{blocks, parse, hash_blocks}
use Rattle.sha256_block.specs.Block.{compress}

-- a block in front of whatever follows is the first that parsing gives
pub parse-block : (x rest : List ℕ) → length x ≡ 64 → parse (x ++ rest) ≡ x ∷ parse rest
unfolding parse blocks
parse-block x rest e =
    let one_more : length (x ++ rest) / 64 ≡ suc (length rest / 64) = rw (length-append x rest, e) (omega arith) in
    rw (one_more, take_at x rest 64 e, drop_at x rest 64 e)

pub parse-none : (m : List ℕ) → length m < 64 → parse m ≡ []
unfolding parse blocks
parse-none m h = let none : length m / 64 ≡ 0 = omega arith in rw none

-- a block hashed in front, and then those that follow
pub hash-block : (h : Words) (x rest : List ℕ) → length x ≡ 64 → hash_blocks (compress h x) (parse rest) ≡ hash_blocks h (parse (x ++ rest))
unfolding hash_blocks
hash-block h x rest e = rw (parse-block x rest e)

-- one block by itself
pub hash-one : (h : Words) (block : List ℕ) → length block ≡ 64 → hash_blocks h (parse block) ≡ compress h block
unfolding hash_blocks
hash-one h block e = ap (λ (m : List ℕ). hash_blocks h (parse m)) (sym (append-nil block)) ∙ rw (parse-block block [] e, parse-none [] (omega arith))

-- a block hashed, and then what follows it
pub hash-first : (h : Words) (block rest : List ℕ) → length block ≡ 64
    → hash_blocks h (parse (block ++ rest)) ≡ hash_blocks (hash_blocks h (parse block)) (parse rest)
unfolding hash_blocks
hash-first h block rest e = rw (parse-block block rest e, hash-one h block e)
