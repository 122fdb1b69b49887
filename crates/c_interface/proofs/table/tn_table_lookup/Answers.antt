-- `c_interface::table::tn_table_lookup`: what it answers is a code.
use Rattle.c_interface.proofs.Answers.{answer-count-small}
use Rattle.c_interface.proofs.Sizes.{lookup-small}
use Rattle.c_interface.proofs.table.tn_table_lookup.Goals as goal

pub of_answer-requires : goal.of_answer-requires
of_answer-requires c = answer-count-small c.lookup.ensures (lookup-small _ _ _ _)
