-- `c_interface::reading::tn_next_extension`: the kind of an extension fits 32 bits.
use Rattle.std.proofs.Common.{arith, sym, ◌∙◌}
use Rattle.c_interface.proofs.Places.{step_fits}
use Rattle.c_interface.proofs.reading.tn_next_extension.Goals as goal

pub overflow_cast-fields : goal.overflow_cast-fields
overflow_cast-fields c =
    record { fits = (rw (sym c.next.ensures ∙ c.in-Extension.is) at (step_fits c.args.block.now c.args.at (λ i. omega (arith, c.shared_slice_known-1.given i)) c.if-block-gt65535.false)).kind_fits }
