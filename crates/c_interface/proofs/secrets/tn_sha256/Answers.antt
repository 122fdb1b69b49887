-- `c_interface::secrets::tn_sha256`: what it answers is a code.
use Rattle.c_interface.proofs.Answers.{answer-count-small}
use Rattle.c_interface.proofs.Sizes.{sha256-small}
use Rattle.c_interface.proofs.secrets.tn_sha256.Goals as goal

pub of_answer-requires : goal.of_answer-requires
of_answer-requires c = answer-count-small c.hash.ensures (sha256-small _)
