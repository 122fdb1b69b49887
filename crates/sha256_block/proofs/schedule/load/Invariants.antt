-- `sha256_block::schedule::load`: the first t words are the block's.
use Rattle.std.proofs.Common.{◌≡◌, length, take}
use Rattle.sha256_block.specs.Block.{words}
use Rattle.sha256_block.proofs.schedule.load.Given as goal

abbrev pub invariant-loop-t : goal.invariant-loop-t
invariant-loop-t l = (length l.w ≡ 16) × (take l.t l.w ≡ words l.t l.block)
