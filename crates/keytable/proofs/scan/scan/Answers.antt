-- `keytable::scan::scan`: the size and the last byte are tested first, and then the lines.
use Rattle.std.proofs.Common.{◌∙◌, sym}
use Rattle.keytable.proofs.Scanning.{too_long, unended, unusable}
use Rattle.keytable.proofs.scan.scan.Goals as goal
use Rattle.keytable.proofs.scan.scan.Goals.{then-table-gt65536-via-then-table-gt65536, then-table-gt65536-via-else-table-gt65536+then-not-ended}

pub returns-then-table-gt65536 : goal.returns-then-table-gt65536
returns-then-table-gt65536 c =
    elim c.then-table-gt65536.branch [
      | then-table-gt65536-via-then-table-gt65536 w ↦ unusable _ _ (too_long _ w.if-table-gt65536.true)
      | then-table-gt65536-via-else-table-gt65536+then-not-ended w ↦ unusable _ _ (unended _ (sym w.ended.ensures ∙ w.if-not-ended.true))
    ]
