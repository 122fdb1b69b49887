-- `c_interface::reading::tn_read_client_hello`: each number and each place that the reader found fits 32 bits.
use Rattle.std.proofs.Common.{arith, sym, ◌∙◌}
use Rattle.c_interface.proofs.Places.{client-fits}
use Rattle.c_interface.proofs.reading.tn_read_client_hello.Goals as goal

pub block_fields-requires : goal.block_fields-requires
block_fields-requires c = (rw (sym c.read.ensures ∙ c.in-Some.is) at (client-fits c.args.message.now (λ i. omega (arith, c.shared_slice_known-1.given i)))).block

pub overflow_cast-fields : goal.overflow_cast-fields
overflow_cast-fields c =
    record { fits = (rw (sym c.read.ensures ∙ c.in-Some.is) at (client-fits c.args.message.now (λ i. omega (arith, c.shared_slice_known-1.given i)))).version-fits }
