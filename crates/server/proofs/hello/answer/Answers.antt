-- `server::hello::answer`: the flight stands at the front of the array, message by message.
-- Assumes nothing.
use Rattle.std.proofs.Common.{rules, arith, ◌≡◌, ◌≤◌, length}
use lib.ListN.{length-take}
use Rattle.server.specs.Connection.{hint_of}
use Rattle.server.proofs.Hellos.{flight-sent}
use Rattle.server.proofs.hello.answer.Goals as goal

pub returns : goal.returns
returns c =
    let setup = c.args.setup in
    let random : length setup.random ≡ 32 = search rules in
    let field : length setup.hint ≡ 128 = search rules in
    let few : length (hint_of setup) ≤ 128 = rw (length-take setup.hint_length setup.hint) (omega arith) in
    let hint = rw c.from.ensures at c.front-hint.ensures in
    rw (c.hint_message_length.ensures, hint) (flight-sent setup.random (hint_of setup) c.args.suite c.put_flight.new.out _ random few (rw hint at c.put_flight.ensures))
