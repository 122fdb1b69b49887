-- `table_edits::hex::put_key`: the digits of the bytes before the index stand there, and the rest is as it was.
use Rattle.std.proofs.Common.{◌≡◌, ◌*◌}
use Rattle.lists.proofs.Copies.{filled}
use Rattle.table_edits.specs.Edits.{lower_hex}
use Rattle.table_edits.proofs.hex.put_key.Given as goal

abbrev pub invariant-loop-i : goal.invariant-loop-i
invariant-loop-i l = l.out ≡ filled (lower_hex l.key) l.initial.out (2 * l.i)
