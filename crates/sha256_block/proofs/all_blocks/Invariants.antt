-- `sha256_block::all_blocks`: hashing what is left from the value so far is hashing all from the start.
use Rattle.std.proofs.Common.{◌≡◌}
use Rattle.std.specs.Slice.Iter.{chunks_exact_rest, chunks_exact_size}
use Rattle.sha256_block.specs.Blocks.{parse, hash_blocks}
use Rattle.sha256_block.proofs.all_blocks.Given as goal

abbrev pub invariant-loop-block : goal.invariant-loop-block
invariant-loop-block l =
    (chunks_exact_size l.block-iterator ≡ 64)
    × (hash_blocks l.h (parse (chunks_exact_rest l.block-iterator)) ≡ hash_blocks l.initial.h (parse l.«data»))
