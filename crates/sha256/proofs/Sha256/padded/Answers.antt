-- `sha256::Sha256::padded`: one block or two, by whether the length has room, and so many are counted.
use Rattle.std.proofs.Common.{◌≡◌, ℕ, ◌-◌, ◌*◌, ◌%◌, List, ◌∷◌, ◌++◌, length, take, arith, rules}
use lib.ListN.{replicate}
use lib.Seq.{length-take-le}
use Rattle.endian.specs.Number.{be}
use Rattle.sha256_block.proofs.Parse.{hash-first}
use Rattle.sha256.proofs.Padding.{length_marked, padding-one, padding-two}
use Rattle.sha256.proofs.Counting.{compressed-count}
use Rattle.sha256.proofs.Sha256.padded.Goals as goal

block_held : (block : List ℕ) (count : ℕ) → length block ≡ 64 → length (take (count % 64) block) ≡ count % 64
block_held block count size = length-take-le (count % 64) block (omega arith)

pub returns-then-held-lt56 : goal.returns-then-held-lt56
returns-then-held-lt56 c =
    let s = c.args.self in
    let whole : length s.block ≡ 64 = search rules in
    let front = take (s.count % 64) s.block in record {
      words_value = rw (
        c.all_blocks-value.ensures,
        c.with_length-last.ensures,
        c.marked-block.ensures,
        padding-one front s.count (block_held s.block s.count whole) (omega arith),
      );
      blocks_value = (rw (compressed-count s (search rules)) (omega arith), omega arith);
    }

pub returns : goal.returns
returns c =
    let s = c.args.self in
    let whole : length s.block ≡ 64 = search rules in
    let front = take (s.count % 64) s.block in
    let first = front ++ (0x80 ∷ replicate (63 - s.count % 64) 0) in
    let size : length first ≡ 64 = rw (length_marked front (63 - s.count % 64), block_held s.block s.count whole) (omega arith) in
    let second = take 56 (replicate 64 0) ++ be 8 (8 * s.count) in record {
      words_value = rw (
        c.all_blocks-value-2.ensures,
        c.with_length-last-2.ensures,
        c.all_blocks-next.ensures,
        c.marked-block.ensures,
        padding-two front s.count (block_held s.block s.count whole) (omega arith),
        hash-first s.words first second size,
      );
      blocks_value = (rw (compressed-count s (search rules)) (omega arith), omega arith);
    }
