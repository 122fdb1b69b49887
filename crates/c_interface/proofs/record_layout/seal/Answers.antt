-- `c_interface::record_layout::seal`: a sealed record's length is a code.
use Rattle.c_interface.proofs.Answers.{answer-count-small}
use Rattle.c_interface.proofs.RecordSizes.{sealing-small}
use Rattle.c_interface.proofs.record_layout.seal.Goals as goal

pub of_answer-requires : goal.of_answer-requires
of_answer-requires c = answer-count-small c.seal.ensures (sealing-small c.args.s c.in-Ok.kind c.args.content.now)
