-- `sha256::marked`: a copy of the block's front over zeros, and one store.
use Rattle.std.proofs.Common.{◌≡◌, length, take, arith}
use lib.Seq.{length-take-le}
use Rattle.sha256.proofs.Padding.{marked-is}
use Rattle.sha256.proofs.marked.Goals as goal

pub returns : goal.returns
returns c =
    let args = c.args in
    let front = take args.held args.block in
    let size : length front ≡ args.held = length-take-le args.held args.block (omega arith) in
    rw size at (marked-is front c.copy.new.dst (omega arith) c.copy.ensures.1)
