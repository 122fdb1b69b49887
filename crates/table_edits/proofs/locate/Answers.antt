-- `table_edits::locate`: a list that was judged to be the table's own has at least `count` starts.
use Rattle.std.proofs.Common.{◌∙◌, sym, length-take-le}
use borrow.Author.Tests.{leb-true}
use Rattle.keytable.specs.Starts.{list_refusal}
use Rattle.keytable.proofs.Listed.{own-within, passed-both}
use Rattle.table_edits.proofs.Outcomes.{judged-good}
use Rattle.table_edits.proofs.locate.Goals as goal

pub slice_bounds-seek-end : goal.slice_bounds-seek-end
slice_bounds-seek-end c =
    let a = c.args in
    let t = c.in-Some.bytes.now in
    let own = (passed-both t a.starts.now a.count (judged-good (list_refusal t a.starts.now a.count) (sym c.judge.ensures ∙ c.in_ok-judge.was))).1 in
    sym (length-take-le _ _ (leb-true _ _ (own-within t a.starts.now a.count own)))
