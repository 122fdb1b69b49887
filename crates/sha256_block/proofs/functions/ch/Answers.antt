-- `sha256_block::functions::ch`: a choice bit by bit, which the law on words turns into the standard's form.
use Rattle.std.proofs.Common.{arith}
use Rattle.sha256_block.proofs.Bits.{ch-by-choice}
use Rattle.sha256_block.proofs.functions.ch.Goals as goal

pub returns : goal.returns
returns c = ch-by-choice c.args.x c.args.y c.args.z (omega arith) (omega arith)
