-- `keytable::list::make_list`: where the table is well formed, the first n numbers that the pass leaves are its starts, and `put` answers with them.
use Rattle.std.proofs.Common.{arith, sym}
use lib.Seq.{length-take-le}
use Rattle.keytable.proofs.Scanned.{lines-inside}
use Rattle.keytable.proofs.list.make_list.Goals as goal

pub slice_bounds-own-end : goal.slice_bounds-own-end
slice_bounds-own-end c = lines-inside c.scan.ensures (grind arith)

pub slice_bounds-put-end : goal.slice_bounds-put-end
slice_bounds-put-end c = sym (length-take-le _ _ (lines-inside c.scan.ensures (grind arith)))
