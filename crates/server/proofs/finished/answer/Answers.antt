-- `server::finished::answer`: the Finished stands at the front of the array, and nothing before the change of cipher.
-- Assumes nothing.
use Rattle.std.proofs.Common.{rules, arith, ◌≡◌, length}
use Rattle.messages.specs.Fixed as Fixed
use Rattle.layout.proofs.Layouts.{at_front}
use Rattle.messages.proofs.FixedMessages.{fixed-valid}
use Rattle.server.proofs.Flights.{finished-sent}
use Rattle.server.proofs.finished.answer.Goals as goal

pub returns : goal.returns
returns c =
    let value = c.args.value.now in
    let size : length value ≡ 12 = search rules in
    finished-sent value _ _ size (at_front Fixed.finished value (fixed-valid 20 12 value size (omega arith)) (omega arith) c.write_finished.ensures)
