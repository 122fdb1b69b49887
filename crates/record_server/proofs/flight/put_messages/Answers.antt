-- `record_server::flight::put_messages`: a message more is put, or none where its length is 0.
-- Assumes nothing.
use Rattle.std.proofs.Common.{arith, ◌<◌, ◌∙◌, length}
use Rattle.lists.proofs.Walks.{left-cons}
use Rattle.record_server.proofs.Putting.{skip, next}
use Rattle.record_server.proofs.flight.put_messages.Goals as goal
use Rattle.record_server.proofs.flight.put_messages.Goals.{then-n-ne0, else-n-ne0}

pub loop-n-preserved : goal.loop-n-preserved
loop-n-preserved c =
    let was = c.loop-n.invariant in
    let more : c.loop-n.n-index < length c.args.lengths.now = omega arith in
    let left = left-cons c.args.lengths.now c.loop-n.n-index more in
    elim c.if-n-ne0.branch [
      | then-n-ne0 w ↦
          next was more left w.if-n-ne0.true c.requires.0 c.requires.1 w.seal-said.ensures w.out-is (w.writing-is ∙ w.counted-writing.ensures)
          (w.len-is ∙ rw w.count-len.ensures) w.used-is
      | else-n-ne0 w ↦ rw (w.out-is, w.writing-is, w.len-is, w.used-is) (skip was more left w.if-n-ne0.false)
    ]
