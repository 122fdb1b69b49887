-- `handshake::is_value`: the value that is expected, if there is one, and the comparison with it.
-- Assumes nothing.
use Rattle.std.proofs.Common.{refl}
use Rattle.refusal.proofs.Laws.{sized-gives, sized-refuses}
use Rattle.keys.proofs.Lengths.{finished-of-sized}
use Rattle.handshake.proofs.is_value.Goals as goal

pub returns-in-Ok : goal.returns-in-Ok
returns-in-Ok c =
    let a = c.args in
    rw (sized-gives _ (finished-of-sized a.side a.master.now a.transcript) refl c.finished_of.ensures c.in-Ok.is) c.same.ensures

pub returns-in-Err : goal.returns-in-Err
returns-in-Err c =
    let a = c.args in
    rw (sized-refuses _ (finished-of-sized a.side a.master.now a.transcript) refl c.finished_of.ensures c.in-Err.is)
