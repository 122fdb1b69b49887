-- `keytable::checks::ended`: the last byte decides, if there is one.
use Rattle.std.proofs.Common.{◌<◌, ◌∙◌, sym, ap, arith, length, nat_eq}
use Rattle.keytable.specs.Table.{line_end}
use Rattle.keytable.proofs.Lines.{ended-last}
use Rattle.keytable.proofs.checks.ended.Goals as goal

pub returns-in-Some : goal.returns-in-Some
returns-in-Some c =
    let some : 0 < length c.args.table.now = c.in-Some.ensures.item.3.0 in
    ap (λ b. nat_eq b line_end) (c.in-Some.ensures.item.4 (omega arith) 0) ∙ sym (ended-last c.args.table.now some)
