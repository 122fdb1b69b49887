-- `extensions::test`: the passes have shown the types of each part below `part` to be distinct.
use Rattle.std.proofs.Common.{ℕ, ◌≡◌, ◌-◌, ◌≤◌, ◌<◌, true}
use Rattle.extensions.specs.Extensions.{extensions_in}
use Rattle.extensions.proofs.Flags.{part_ruled}
use Rattle.extensions.proofs.test.Given as goal

abbrev pub invariant-loop-part : goal.invariant-loop-part
invariant-loop-part l = (l.part ≤ 8) × ((p : ℕ) → p < l.part → part_ruled p (extensions_in l.block) ≡ true)

abbrev pub decreases-loop-part : goal.decreases-loop-part
decreases-loop-part l = 8 - l.part
