-- `keytable::Table::judge`: where the table is well formed, the first n numbers that the pass leaves are its starts, and `same_list` compares with them.
use Rattle.std.proofs.Common.{arith, sym, ap, ◌≡◌, ◌∙◌, ℕ, Bool, cond, ◌&&◌, leb, List, length, take, Option, None, Some}
use lib.Seq.{length-take-le}
use Rattle.lists.specs.Lists.{same}
use Rattle.refusal.specs.declared.Refusal.TheVariants.{BadList}
use Rattle.keytable.specs.Table.{judged}
use Rattle.keytable.specs.Starts.{list_refusal}
use Rattle.keytable.specs.Inner.{Scans}
use Rattle.keytable.proofs.Scanned.{lines-formed, lines-inside, lines-list}
use Rattle.keytable.proofs.Table.judge.Goals as goal

compared : {t own : List ℕ} {said : Option ℕ} {n : ℕ} {alike b : Bool} (starts : List ℕ) (count : ℕ) → Scans t said own → said ≡ Some n
    → alike ≡ (leb count (length starts) && same (take count starts) (take n own)) → alike ≡ b → cond b None (Some BadList) ≡ list_refusal t starts count
compared starts count s e told is = rw (lines-formed s e, lines-list s e starts count ∙ sym told ∙ is)

pub slice_bounds-own-end : goal.slice_bounds-own-end
slice_bounds-own-end c = lines-inside c.scan.ensures (grind arith)

pub slice_bounds-same_list-end : goal.slice_bounds-same_list-end
slice_bounds-same_list-end c = sym (length-take-le _ _ (lines-inside c.scan.ensures (grind arith)))

pub returns-then-same_list : goal.returns-then-same_list
returns-then-same_list c = ap judged (compared _ _ c.scan.ensures (grind arith) c.same_list.ensures c.if-same_list.true)

pub returns-else-same_list : goal.returns-else-same_list
returns-else-same_list c = ap judged (compared _ _ c.scan.ensures (grind arith) c.same_list.ensures c.if-same_list.false)
