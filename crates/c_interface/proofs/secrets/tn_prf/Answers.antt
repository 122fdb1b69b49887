-- `c_interface::secrets::tn_prf`: what it answers is a code.
use Rattle.c_interface.proofs.Answers.{answer-count-small}
use Rattle.c_interface.proofs.Sizes.{prf-small}
use Rattle.c_interface.proofs.secrets.tn_prf.Goals as goal

pub of_answer-requires : goal.of_answer-requires
of_answer-requires c = answer-count-small c.prf.ensures (prf-small _ _ _ _)
