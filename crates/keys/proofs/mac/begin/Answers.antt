-- `keys::mac::begin`: one byte more is XORed.
use Rattle.std.proofs.Common.{rules}
use Rattle.std.specs.Int.Bits.{bit_xor}
use Rattle.std.proofs.lemmas.List.Edits.{map_over_more}
use Rattle.keys.proofs.mac.begin.Goals as goal

pub loop-byte-preserved : goal.loop-byte-preserved
loop-byte-preserved c = search (rules, map_over_more (λ byte. bit_xor byte c.args.pad) c.args.block)
