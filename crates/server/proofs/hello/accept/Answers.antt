-- `server::hello::accept`: what is sent is what goes to the transcript.
-- Assumes nothing.
use Rattle.std.proofs.Common.{rules, ◌≡◌, ◌∙◌, refl, sym, ap, length, take}
use Rattle.handshake.specs.Flight.{flight_bytes, longest}
use Rattle.server.specs.Hello.{flight_for}
use Rattle.handshake.proofs.Flights.{flight-bytes, size-taken}
use Rattle.server.proofs.hello.accept.Goals as goal

pub returns : goal.returns
returns c =
    let a = c.args in
    let o = c.answer-outgoing.result in
    let sent = c.answer-outgoing.ensures in
    let array : length o.bytes ≡ longest = search rules in
    let all : take c.size-n.result o.bytes ≡ flight_bytes (flight_for a.c a.suite) =
    rw c.size-n.ensures (size-taken o array ∙ sym (flight-bytes o)) ∙ ap flight_bytes sent.means in
    record { means = rw (sent.means, c.after_hello-next.ensures, all); fits = sent.fits; counts = refl }
