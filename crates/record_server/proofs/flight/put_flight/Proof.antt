-- `record_server::flight::put_flight` meets its contract: the plain messages, and then the change of cipher and the rest, or nothing more.
-- Assumes nothing.
use Rattle.std.specs.Prelude.{not}
use Rattle.std.proofs.Common.{ap}
use borrow.Author.Rules.{rules}
use mathlib.Core.Path.{◌≡◌, sym}
use Prim.Native.Nat.{◌+◌, ◌≤◌}
use native.Mathlib.Omega.{arith}
use mathlib.Core.Bool.{true}
use lib.ListN.{length}
use lib.Seq.{length-take-le}
use Rattle.lists.proofs.Tests.{failed, passed}
use Rattle.handshake.specs.Outgoing.{flight_of}
use Rattle.record_server.specs.InnerFlight.{Sends}
use Rattle.record_server.proofs.Putting.{total-parts, put_back}
use Rattle.record_server.proofs.Flights.{PlainPut, first_fits, sends_plain, change-fits, second-asks, sends-change, sent-long}
use Rattle.record_server.proofs.flight.put_flight.Statement.{statement}
use Rattle.record_server.proofs.flight.put_flight.Tie as tie

-- the flight's arrays
sizes : (c : tie.Start) → (length c.args.o.lengths ≡ 3) × (length c.args.o.bytes ≡ 180)
sizes c = (search (rules, c.well_formed.0), search (rules, c.well_formed.0))

-- the entry, seen from where the messages are parted
abbrev entry : tie.After-plain_of-plain → tie.Start
entry c = c.before.before.before.before

array-share-prefix-lengths : tie.Need-slice_bounds-lengths-end
array-share-prefix-lengths c = omega (arith, sizes (entry c.before), c.plain_of-plain.ensures.0)

slice-aggregate-put-messages-2 : tie.Need-slice_bounds-put_messages-end-2
slice-aggregate-put-messages-2 c =
    sym
    (length-take-le c.plain_of-plain.result (entry c.before.before).args.o.lengths
    (omega (arith, sizes (entry c.before.before), c.plain_of-plain.ensures.0)))

put-messages-requires : tie.Need-put_messages-first-requires
put-messages-requires c κs =
    let start = entry c.before.before.before in
    let p = c.plain_of-plain.result in
    let lengths = start.args.o.lengths in
    let long : length start.args.o.bytes ≡ 180 = (sizes start).1 in
    let parts = total-parts p lengths in
    let size = length-take-le p lengths (omega (arith, sizes start, c.plain_of-plain.ensures.0)) in
    (omega (arith, start.requires), omega (arith, start.requires), omega (arith, start.requires, c.plain_of-plain.ensures.0))

-- what is known once the plain messages are put
abbrev parted : tie.After-put_messages-first → tie.After-plain_of-plain
parted c = c.before.before.before.before

plain-put : (c : tie.After-put_messages-first) →
    let start = entry (parted c) in
    PlainPut start.args.o start.args.s (parted c).plain_of-plain.result start.args.out.now c.put_messages-first.result
    c.put_messages-first.new.out
plain-put c =
    let start = entry (parted c) in
    let same = (parted c).plain_of-plain.ensures.1 start.args.o.lengths (sizes start).0 in
    record {
      taken = same.0;
      left = same.1;
      low = (parted c).plain_of-plain.ensures.0;
      three = (sizes start).0;
      whole = (sizes start).1;
      few = start.requires.0;
      room = start.requires.1;
      one = c.put_messages-first.ensures;
    }

-- the plain messages, seen from the test
abbrev first : tie.After-some_message → tie.After-put_messages-first
first c = c.before.before.before.before.before

returns : tie.Need-returns-then-not-some_message
returns c =
    sends_plain (plain-put (first c.before)) (entry (parted (first c.before))).args.key
    (failed c.some_message.result _ c.some_message.ensures (ap not c.if-not-some_message.true))

sub-seal : tie.Need-slice_bounds-seal-start
sub-seal c = let at_first = first c.before.before.before in omega (arith, first_fits (plain-put at_first), (entry (parted at_first)).requires)

-- the test, seen from the change of cipher
abbrev test : tie.After-count → tie.Else-not-some_message
test c = c.before.before.before.before.before.before.before

change : (c : tie.After-count) →
    let at_first = first (test c).before in
    let mid = at_first.put_messages-first.new.out in
    let at = at_first.put_messages-first.result.len in
    let back = c.seal-said.new.out in
    (at + c.count.result ≤ 329) × (length (put_back mid at back) ≡ length (entry (parted at_first)).args.out.now)
change c = change-fits (plain-put (first (test c).before)) c.seal-said.ensures c.count.ensures

sub-put-messages : tie.Need-slice_bounds-put_messages-start
sub-put-messages c = omega (arith, first_fits (plain-put (first (test c.before).before)))

sub-put-messages-3 : tie.Need-slice_bounds-put_messages-start-3
sub-put-messages-3 c =
    omega (arith, change c.before.before.before, (entry (parted (first (test c.before.before.before).before))).requires)

put-messages-requires-2 : tie.Need-put_messages-rest-requires
put-messages-requires-2 c κs =
    second-asks (plain-put (first (test c.before.before.before.before).before)) c.seal-said.ensures c.count.ensures

-- the change of cipher, seen from the rest
abbrev counted : tie.After-put_messages-rest → tie.After-count
counted c = c.before.before.before.before.before

sends : (c : tie.After-put_messages-rest) →
    let at_count = counted c in
    let at_first = first (test at_count).before in
    let a = (entry (parted at_first)).args in
    let mid = at_first.put_messages-first.new.out in
    let at = at_first.put_messages-first.result.len in
    let back = at_count.seal-said.new.out in
    Sends a.s a.key (flight_of a.o) a.out.now
    (record { len = at + at_count.count.result + c.put_messages-rest.result.len; changed = true; writing = c.put_messages-rest.result.writing })
    (put_back (put_back mid at back) (at + at_count.count.result) c.put_messages-rest.new.out)
sends c =
    let at_count = counted c in
    sends-change (plain-put (first (test at_count).before)) at_count.seal-said.ensures at_count.count.ensures
    c.protected_by-state.ensures
    (passed (test at_count).some_message.result _ (test at_count).some_message.ensures (ap not (test at_count).if-not-some_message.false)) c.put_messages-rest.ensures

add-t25 : tie.Need-overflow_add-result
add-t25 c = omega (arith, (sends c.before.before.before.before).fits)

same-length-2 : tie.Need-shape_of-out
same-length-2 c =
    sent-long (sends c.before.before.before.before) (entry (parted (first (test (counted c.before.before.before.before)).before))).requires.1

pub put_flight_spec : {M : Type 1} → statement M
put_flight_spec =
    tie.close
    (tie.spec
    (λ c κs. search rules)
    (λ c. search rules)
    array-share-prefix-lengths
    slice-aggregate-put-messages-2
    put-messages-requires
    (λ c. search rules)
    (λ c. search rules)
    (λ c. search rules)
    (λ c. omega (arith, sizes (entry (parted c.before.before.before))))
    (λ c κs. search rules)
    (λ c. search rules)
    returns
    sub-seal
    sub-seal
    (λ c. search rules)
    (λ c κs. search rules)
    (λ c κs. search rules)
    (λ c. omega (arith, change c))
    (λ c κs. search rules)
    sub-put-messages
    (λ c. sub-put-messages c)
    (λ c. omega (arith, sizes (entry (parted (first (test c.before).before)))))
    (λ c. search rules)
    (λ c. search rules)
    (λ c. search rules)
    (λ c. omega (arith, sizes (entry (parted (first (test c.before.before).before)))))
    sub-put-messages-3
    sub-put-messages-3
    (λ c. search rules)
    put-messages-requires-2
    add-t25
    same-length-2
    (λ c. sends c.before.before.before.before))
