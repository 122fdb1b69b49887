-- `sha256_block::all_blocks`: one block more, and less than a block left.
use Rattle.std.proofs.Common.{◌∙◌, arith}
use Rattle.std.specs.Slice.Iter.{chunks_exact_rest}
use Rattle.sha256_block.specs.Blocks.{hash_blocks}
use Rattle.sha256_block.proofs.Parse.{hash-block, parse-none}
use Rattle.sha256_block.proofs.all_blocks.Goals as goal

pub loop-block-preserved : goal.loop-block-preserved
loop-block-preserved c =
    let step = c.in-Some.ensures.steps in
    let size = step.1.1 ∙ c.loop-block.invariant.0 in
    let more = hash-block c.loop-block.h c.in-Some.block.now (chunks_exact_rest c.next.new.self) size in
    (step.0 ∙ c.loop-block.invariant.0, rw (c.next_value-h.ensures, more, ← step.1.0) c.loop-block.invariant.1)

pub returns : goal.returns
unfolding hash_blocks
returns c =
    let few = c.in-None.ensures.steps.1.0 in
    rw (parse-none (chunks_exact_rest c.loop-block.block-iterator) (omega (arith, few))) at c.loop-block.invariant.1
