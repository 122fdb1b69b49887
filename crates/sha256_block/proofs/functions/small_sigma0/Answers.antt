-- `sha256_block::functions::small_sigma0`: the second rotation is made from the first.
use Rattle.std.proofs.Common.{ℕ, ◌/◌, ◌^◌, ap, arith}
use lib.Bits.{bit_xor}
use Rattle.sha256_block.proofs.Bits.{rotation-nested}
use Rattle.sha256_block.proofs.functions.small_sigma0.Goals as goal

pub returns : goal.returns
returns c = ap (λ (y : ℕ). bit_xor y (c.args.x / 2 ^ 3)) (rotation-nested 14 7 11 c.args.x (omega arith))
