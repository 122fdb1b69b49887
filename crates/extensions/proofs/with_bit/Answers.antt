-- `extensions::with_bit`: joining the bit is adding it, since it was clear (Bits).
use Rattle.std.proofs.Common.{◌∙◌, ap, bit_or}
use Rattle.extensions.proofs.Bits.{shifted_one, joined-clear}
use Rattle.extensions.proofs.with_bit.Goals as goal

pub returns : goal.returns
returns c = ap (bit_or c.args.word) (shifted_one c.args.bit 64 c.requires.0) ∙ joined-clear c.args.word c.args.bit c.requires.1
