-- `c_interface::reading::tn_read_server_hello`: each number that the reader found fits 32 bits.
use Rattle.std.proofs.Common.{arith, sym, ◌∙◌}
use Rattle.c_interface.proofs.Places.{server-fits}
use Rattle.c_interface.proofs.reading.tn_read_server_hello.Goals as goal

pub overflow_cast-fields : goal.overflow_cast-fields
overflow_cast-fields c =
    record { fits = (rw (sym c.read.ensures ∙ c.in-Some.is) at (server-fits c.args.message.now (λ i. omega (arith, c.shared_slice_known-1.given i)))).version-fits }

pub overflow_cast-fields-3 : goal.overflow_cast-fields-3
overflow_cast-fields-3 c =
    record { fits = (rw (sym c.read.ensures ∙ c.in-Some.is) at (server-fits c.args.message.now (λ i. omega (arith, c.shared_slice_known-1.given i)))).suite-fits }
