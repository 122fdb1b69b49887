-- `sha256_block::rounds::all_rounds`: sixteen words after those of the turn before, and their rounds.
use Rattle.std.proofs.Common.{◌≡◌, ◌+◌, ◌-◌, ◌*◌, drop, refl, arith}
use Rattle.sha256_block.specs.Block.{schedule, rounds}
use Rattle.sha256_block.proofs.Ring.{ring-words}
use Rattle.sha256_block.proofs.rounds.all_rounds.Goals.{then-turn-gt0, else-turn-gt0}
use Rattle.sha256_block.proofs.rounds.all_rounds.Goals as goal

pub loop-turn-init : goal.loop-turn-init
unfolding schedule rounds
loop-turn-init c = (refl, refl)

pub loop-turn-preserved : goal.loop-turn-preserved
loop-turn-preserved c =
    let M = c.args.w.now in
    let turn = c.loop-turn.turn in
    let ring : c.if-turn-gt0.w ≡ drop (16 * turn) (schedule (16 * turn) M) =
    elim c.if-turn-gt0.branch [
      | then-turn-gt0 w ↦
          let next : 16 * (turn - 1) + 16 ≡ 16 * turn = omega (arith, w.if-turn-gt0.true) in
          rw (w.w-is, ← next) (w.renew.ensures (16 * (turn - 1)) M c.requires c.loop-turn.invariant.0)
      | else-turn-gt0 w ↦
          let first : 16 * (turn - 1) ≡ 16 * turn = omega (arith, w.if-turn-gt0.false) in
          rw (w.w-is, ← first) c.loop-turn.invariant.0
    ] in
    let same : turn + 1 - 1 ≡ turn = omega arith in
    let here : 4 * (4 * turn) ≡ 16 * turn = omega arith in
    let next : 16 * (turn + 1) ≡ 16 * turn + 16 = omega arith in
    let made = rw here at (c.sixteen_rounds-v.ensures (schedule 48 M) c.args.start) in
    (rw same ring, rw next (made c.loop-turn.invariant.1 (ring-words (16 * turn) c.if-turn-gt0.w M (omega arith) c.requires ring)))
