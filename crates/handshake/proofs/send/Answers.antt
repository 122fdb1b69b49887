-- `handshake::send`: the front of the array is the flight.
-- Assumes nothing.
use Rattle.std.proofs.Common.{rules}
use Rattle.handshake.proofs.Flights.{flight-bytes, size-taken}
use Rattle.handshake.proofs.send.Goals as goal

pub returns : goal.returns
returns c =
    let o = c.args.outgoing in
    rw (flight-bytes o, ← size-taken o (search rules), ← c.size-n.ensures) c.put.ensures
