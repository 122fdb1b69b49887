-- `record_server::taking::decide`: what the memory holds is a message that is not finished.
use Rattle.std.proofs.Common.{◌≡◌, ◌≤◌, arith, length}
use lib.Seq.{length-take-le}
use Rattle.records.specs.Joining.{held_in}
use Rattle.record_server.proofs.Holding.{held-few, held-unfinished}
use Rattle.record_server.proofs.taking.decide.Goals as goal

pub decide_opened-requires : goal.decide_opened-requires
decide_opened-requires c =
    let memory = c.args.memory.now in
    let n = c.args.c.held in
    let size : length (held_in memory n) ≡ c.held-kept.result = rw (← c.held-kept.ensures.1) (length-take-le c.held-kept.result memory c.held-kept.ensures.0) in
    let few : c.held-kept.result ≤ 65535 = omega (arith, held-few memory n) in
    (c.held-kept.ensures.0, few, rw c.held-kept.ensures.1 (held-unfinished memory n))
