-- `c_interface::secrets::tn_premaster`: what it answers is a code.
use Rattle.c_interface.proofs.Answers.{answer-count-small}
use Rattle.c_interface.proofs.Sizes.{premaster-small}
use Rattle.c_interface.proofs.secrets.tn_premaster.Goals as goal

pub of_answer-requires : goal.of_answer-requires
of_answer-requires c = answer-count-small c.premaster.ensures (premaster-small _)
