-- `c_interface::secrets::tn_key_block`: what it answers is a code.
use Rattle.c_interface.proofs.Answers.{answer-count-small}
use Rattle.c_interface.proofs.Sizes.{keys-small}
use Rattle.c_interface.proofs.secrets.tn_key_block.Goals as goal

pub of_answer-requires : goal.of_answer-requires
of_answer-requires c = answer-count-small c.key_block.ensures (keys-small _ _ _ _)
