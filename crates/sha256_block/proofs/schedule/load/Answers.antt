-- `sha256_block::schedule::load`: one word more.
use Rattle.std.proofs.Common.{◌∙◌, arith, refl, rules}
use Rattle.sha256_block.specs.Block.{words}
use Rattle.sha256_block.proofs.Steps.{front-grows, next_word}
use Rattle.sha256_block.proofs.schedule.load.Goals as goal

pub loop-t-init : goal.loop-t-init
unfolding words
loop-t-init c = (c.requires.w_len, refl)

pub loop-t-preserved : goal.loop-t-preserved
loop-t-preserved c =
    let grown = front-grows c.loop-t.w _ c.loop-t.t c.number32.result (omega arith) c.loop-t.invariant.1 in
    (search rules, grown ∙ next_word c.loop-t.t c.args.block.now c.number32.result (omega arith) c.number32.ensures)
