-- `record_server::flight::put_messages`: the messages before the index are put.
use Rattle.record_server.proofs.Putting.{Begun}
use Rattle.record_server.proofs.flight.put_messages.Given as goal

abbrev pub invariant-loop-n : goal.invariant-loop-n
invariant-loop-n l = Begun l.initial.writing l.lengths l.bytes l.initial.out l.out l.writing l.len l.used l.n-index
