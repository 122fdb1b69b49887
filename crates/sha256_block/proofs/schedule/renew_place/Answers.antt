-- `sha256_block::schedule::renew_place`: the ring's law.
use Rattle.std.proofs.Common.{◌≡◌, suc, ◌+◌, add-one, arith}
use Rattle.sha256_block.proofs.Ring.{ring-next}
use Rattle.sha256_block.proofs.schedule.renew_place.Goals as goal

pub returns : goal.returns
returns c n M sixteen holds =
    let i = c.args.i in
    let next : n + (i + 1) ≡ suc (n + i) = omega arith in
    rw (next, add-one i) (ring-next i (n + i) c.later.result c.args.w.now M sixteen (omega arith) holds c.later.ensures)
