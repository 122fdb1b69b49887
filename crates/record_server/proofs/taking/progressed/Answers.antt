-- `record_server::taking::progressed`: the flight's records, and the states behind them.
use Rattle.std.proofs.Common.{◌≡◌, refl, take}
use lib.Seq.{take-append_seam}
use Rattle.handshake.specs.Outgoing.{flight_of}
use Rattle.record_server.specs.Answering.{flight_records}
use Rattle.record_server.proofs.taking.progressed.Goals as goal

pub returns : goal.returns
returns c =
    let sends = c.put_flight-sent.ensures in
    let a = c.args in
    let sent : take c.put_flight-sent.result.len c.put_flight-sent.new.out ≡ flight_records a.c.writing c.pending_with-pending.result.server (flight_of a.p.outgoing) =
    rw (sends.size, sends.bytes) (take-append_seam _ _) in
    record {
      is = λ q conn flight master size memory held bytes kept.
          rw (conn, flight, master, size, kept, c.counted-counted.ensures, c.pending_after.ensures)
          (rw (sends.change c.pending_with-pending.result, sends.state, sent, c.pending_with-pending.ensures));
      keeps = refl;
      fits = sends.fits;
    }
