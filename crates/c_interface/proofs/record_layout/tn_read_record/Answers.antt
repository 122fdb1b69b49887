-- `c_interface::record_layout::tn_read_record`: a record whose layout passed has a header, and each of its numbers fits 32 bits.
use Rattle.std.proofs.Common.{arith, sym, ◌∙◌}
use Rattle.c_interface.proofs.RecordSizes.{read_length}
use Rattle.c_interface.proofs.record_layout.tn_read_record.Goals as goal

pub overflow_cast-fields-in-Ok : goal.overflow_cast-fields-in-Ok
overflow_cast-fields-in-Ok c =
    let inside = read_length c.args.added c.args.received.now (λ i. omega (arith, c.shared_slice_known-1.given i)) (sym c.read.ensures ∙ c.in-Ok.is) in
    omega (arith, inside)
