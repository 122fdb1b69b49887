-- `extensions::test_part`: the loop keeps what a pass says of the extensions that are left (Flags, `pass_in`); the measure is what is left of
-- the block.
use Rattle.std.proofs.Common.{◌≡◌, ◌-◌, ◌≤◌, length, drop}
use Rattle.extensions.specs.Extensions.{extensions_in}
use Rattle.extensions.specs.Parts.{pass_over}
use Rattle.extensions.proofs.Flags.{pass_in}
use Rattle.extensions.proofs.test_part.Given as goal

abbrev pub invariant-loop-kind : goal.invariant-loop-kind
invariant-loop-kind l =
    (l.at ≤ length l.block) × (length l.words ≡ 128)
    × (pass_in l.words l.nearest l.part (extensions_in (drop l.at l.block)) ≡ pass_over l.part (extensions_in l.block))

abbrev pub decreases-loop-kind : goal.decreases-loop-kind
decreases-loop-kind l = length l.block - l.at
