-- `keytable::hex::decode`: the bytes before i stand for the pairs before i, and the others are as they were.
use Rattle.std.proofs.Common.{◌≡◌}
use Rattle.lists.proofs.Copies.{filled}
use Rattle.keytable.specs.Table.{decoded}
use Rattle.keytable.proofs.hex.decode.Given as goal

abbrev pub invariant-loop-i : goal.invariant-loop-i
invariant-loop-i l = l.out ≡ filled (decoded l.text) l.initial.out l.i
