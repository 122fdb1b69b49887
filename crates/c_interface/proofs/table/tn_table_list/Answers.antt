-- `c_interface::table::tn_table_list`: what it answers is a code.
use Rattle.c_interface.proofs.Answers.{answer-count-small}
use Rattle.c_interface.proofs.Sizes.{list-small}
use Rattle.c_interface.proofs.table.tn_table_list.Goals as goal

pub of_answer-requires : goal.of_answer-requires
of_answer-requires c = answer-count-small c.make_list.ensures (list-small _)
