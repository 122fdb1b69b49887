-- `c_interface::secrets::tn_finished`: what it answers is a code.
use Rattle.c_interface.proofs.Answers.{answer-count-small}
use Rattle.c_interface.proofs.Sizes.{verify-small}
use Rattle.c_interface.proofs.secrets.tn_finished.Goals as goal

pub of_answer-requires : goal.of_answer-requires
of_answer-requires c = answer-count-small c.finished.ensures (verify-small _ _ _)
