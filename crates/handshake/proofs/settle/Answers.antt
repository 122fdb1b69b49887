-- `handshake::settle`: what was said of the flight decides.
-- Assumes nothing.
use Rattle.std.proofs.Common.{rules, arith, ◌≤◌, sym, ap, length}
use Rattle.refusal.proofs.Laws.{wrote-all}
use Rattle.handshake.specs.Flight.{flight_bytes, longest}
use Rattle.handshake.specs.Outgoing.{flight_of}
use Rattle.handshake.specs.Step.{answered}
use Rattle.handshake.proofs.Flights.{flight-most}
use Rattle.handshake.proofs.Settling.{sent-settles, short-settles}
use Rattle.handshake.proofs.settle.Goals as goal

pub returns-in-Ok-said : goal.returns-in-Ok-said
returns-in-Ok-said g c =
    let a = c.args in
    let d = c.in-Ok.d in
    let few : length (flight_bytes (flight_of d.outgoing)) ≤ longest = flight-most d.outgoing (search rules) in
    let whole = sent-settles a.closed a.c (flight_of d.outgoing) d.next c.send-said.ensures c.in-Ok-said.is in
    let all = wrote-all c.send-said.ensures c.in-Ok-said.is in
    rw c.in-Ok.is
    (record { answers = ap answered (sym whole); leaves = ap (λ s. s.out) (sym whole); brief = rw c.in-Ok-said.is (omega (arith, few, all.1)) })

pub returns-in-Err-said : goal.returns-in-Err-said
returns-in-Err-said g c =
    let a = c.args in
    let d = c.in-Ok.d in
    let whole = short-settles a.closed a.c (flight_of d.outgoing) d.next c.send-said.ensures c.in-Err-said.is in
    rw c.in-Ok.is
    (record { answers = ap answered (sym whole); leaves = ap (λ s. s.out) (sym whole); brief = rw c.in-Err-said.is (omega arith) })
