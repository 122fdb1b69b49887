-- `sha256_block::rounds::all_rounds`: the ring has the words of the rounds made last, and before all rounds those of the first.
use Rattle.std.proofs.Common.{◌≡◌, ◌*◌, ◌-◌, drop}
use Rattle.sha256_block.specs.Block.{schedule, rounds}
use Rattle.sha256_block.proofs.rounds.all_rounds.Given as goal

abbrev pub invariant-loop-turn : goal.invariant-loop-turn
invariant-loop-turn l =
    (l.w ≡ drop (16 * (l.turn - 1)) (schedule (16 * (l.turn - 1)) l.fn.w)) × (l.v ≡ rounds (16 * l.turn) (schedule 48 l.fn.w) l.fn.start)
