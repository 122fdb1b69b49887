-- `c_interface::table::tn_table_replace`: what it answers is a code.
use Rattle.c_interface.proofs.Answers.{answer-count-small}
use Rattle.c_interface.proofs.Sizes.{edit-small}
use Rattle.c_interface.proofs.table.tn_table_replace.Goals as goal

pub of_answer-requires : goal.of_answer-requires
of_answer-requires c = answer-count-small c.replace.ensures.table (edit-small _ _ _ _ _)
