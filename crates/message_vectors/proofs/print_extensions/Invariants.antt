-- The next extension begins behind this one, within the block.
use Rattle.std.proofs.Common.{◌-◌, ◌≤◌, length}
use Rattle.message_vectors.proofs.print_extensions.Given as goal

abbrev pub invariant-loop-kind : goal.invariant-loop-kind
invariant-loop-kind g l = l.at ≤ length l.block

abbrev pub decreases-loop-kind : goal.decreases-loop-kind
decreases-loop-kind g l = length l.block - l.at
