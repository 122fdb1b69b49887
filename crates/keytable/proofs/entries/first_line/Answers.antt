-- `keytable::entries::first_line`: a line that does not match leaves the search to the starts after it; the first that does ends it.
use Rattle.std.proofs.Common.{rules, arith, ℕ, ◌≡◌, ◌≤◌, ◌<◌, None, get_or}
use Rattle.keytable.specs.Table.{key_text}
use Rattle.keytable.specs.Starts.{line_at}
use Rattle.keytable.proofs.Search.{match-other, match-ended, match-colon, match-longer, match-end, search-on, search-hit}
use Rattle.keytable.proofs.entries.first_line.Goals.{else-loop-i-test, then-loop-i-test+then-i-identity+else-b-eq58, then-loop-i-test+else-i-identity+then-b-identity, then-loop-i-test+else-i-identity+else-b-identity+then-b-eq10}
use Rattle.keytable.proofs.entries.first_line.Goals as goal

below : {i n : ℕ} → i ≤ n → (i ≡ n → ⊥) → i < n
below h other = omega arith

pub lines-preserved : goal.lines-preserved
lines-preserved c =
    let m = c.loop-i.invariant.1 in
    let few = c.loop-i.invariant.0 in
    let missed : key_text c.args.identity.now (line_at c.args.table.now (get_or c.args.starts.now c.lines.k 0)) ≡ None =
    elim c.loop-i-test.branch [
      | else-loop-i-test w ↦ match-end _ _ _ _ w.loop-i-test.false m
      | then-loop-i-test+then-i-identity+else-b-eq58 w ↦ match-longer _ _ _ _ w.loop-i-test.true m w.if-i-identity.true w.if-b-eq58.false
      | then-loop-i-test+else-i-identity+then-b-identity w ↦ match-other _ _ _ _ w.loop-i-test.true m (below few w.if-i-identity.false) w.if-b-identity.true
      | then-loop-i-test+else-i-identity+else-b-identity+then-b-eq10 w ↦ match-ended _ _ _ _ w.loop-i-test.true m (below few w.if-i-identity.false) w.if-b-eq10.true
    ] in
    (search rules, search-on _ _ _ _ c.if-k-starts.false c.lines.invariant.1 missed)

pub returns-then-b-eq58 : goal.returns-then-b-eq58
returns-then-b-eq58 c =
    let whole = c.if-i-identity.true in
    let text = match-colon _ _ _ _ c.loop-i-test.true c.loop-i.invariant.1 whole c.if-b-eq58.true in
    search-hit _ _ _ _ c.if-k-starts.false c.lines.invariant.1 _ _ (rw whole) c.line_end-to.ensures text
