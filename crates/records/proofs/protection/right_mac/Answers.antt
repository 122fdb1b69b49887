-- `records::protection::right_mac`: the last 32 bytes are compared with the right MAC.
use Rattle.std.proofs.Common.{◌∙◌, arith}
use Rattle.records.proofs.Macs.{right-mac}
use Rattle.records.proofs.protection.right_mac.Goals as goal

pub returns : goal.returns
returns c = c.same.ensures ∙ right-mac c.args.s c.args.received.now c.requires.protected_value (omega arith) c.mac_of-value.ensures
