-- `keys::mac::begin`: the bytes so far are XORed, the others as they were.
use Rattle.std.proofs.Common.{◌≡◌, ◌++◌, take, drop}
use Rattle.keys.specs.Hmac.{xored}
use Rattle.keys.proofs.mac.begin.Given as goal

abbrev pub invariant-loop-byte : goal.invariant-loop-byte
invariant-loop-byte l = l.byte-items ≡ xored (take l.byte-index l.fn.block) l.pad ++ drop l.byte-index l.fn.block
