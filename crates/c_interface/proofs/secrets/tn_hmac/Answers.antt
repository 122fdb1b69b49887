-- `c_interface::secrets::tn_hmac`: what it answers is a code.
use Rattle.c_interface.proofs.Answers.{answer-count-small}
use Rattle.c_interface.proofs.Sizes.{hmac-small}
use Rattle.c_interface.proofs.secrets.tn_hmac.Goals as goal

pub of_answer-requires : goal.of_answer-requires
of_answer-requires c = answer-count-small c.hmac.ensures (hmac-small _ _)
