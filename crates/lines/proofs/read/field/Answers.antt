-- Behind the front that was read stands the piece.
use Rattle.lines.proofs.Fronts.{front-lent}
use Rattle.lines.proofs.read.field.Goals as goal

pub loop-preserved : goal.loop-preserved
loop-preserved g c = front-lent c.args.out.now c.loop.out c.piece.new.out c.loop.at c.in_ok-n.n c.loop.invariant c.in_ok-n.ensures.ok
