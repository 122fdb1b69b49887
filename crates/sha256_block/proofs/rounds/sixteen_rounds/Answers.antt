-- `sha256_block::rounds::sixteen_rounds`: four rounds four times, with the words that the ring has.
use Rattle.std.proofs.Common.{◌≡◌, ◌+◌, ◌*◌, add-zero, arith}
use Rattle.sha256_block.specs.Block.{rounds}
use Rattle.sha256_block.proofs.Steps.{four-more}
use Rattle.sha256_block.proofs.rounds.sixteen_rounds.Goals as goal

pub returns : goal.returns
returns c W s after words =
    let n = c.args.n in
    let w = c.args.w.now in
    let h0 : c.args.start ≡ rounds (4 * n + 0) W s = rw (add-zero (4 * n)) after in
    let h1 = four-more (4 * n) 0 (4 * n) W w s (omega arith) (omega arith) words c.constants.ensures c.four_rounds-v.ensures h0 in
    let h2 = four-more (4 * n) 4 (4 * (n + 1)) W w s (omega arith) (omega arith) words c.constants-2.ensures c.four_rounds-v-2.ensures h1 in
    let h3 = four-more (4 * n) 8 (4 * (n + 2)) W w s (omega arith) (omega arith) words c.constants-3.ensures c.four_rounds-v-3.ensures h2 in
    four-more (4 * n) 12 (4 * (n + 3)) W w s (omega arith) (omega arith) words c.constants-4.ensures c.four_rounds-v-4.ensures h3
