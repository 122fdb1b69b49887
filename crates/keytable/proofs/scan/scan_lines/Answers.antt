-- `keytable::scan::scan_lines`: line by line the starts, the tests and the identities passed go on, and the first test that fails decides.
use Rattle.std.proofs.Common.{rules, ◌∙◌, ◌≤◌, ◌/◌, ◌%◌, refl, sym, ap, ℕ, List, arith, length}
use Rattle.lists.specs.Lists.{any, same}
use Rattle.lists.proofs.Tests.{and_left}
use Rattle.keytable.specs.Table.{valid_identity}
use Rattle.keytable.specs.Inner.{identity_at, earlier, fingerprint}
use Rattle.keytable.proofs.Apart.{identity-part, identity-within, some-line, distinct-stop}
use Rattle.keytable.proofs.Scanning.{line-good, line-bad, none_passed, zero-at, each-here, counted, one-passed, too_many, one-bad, one-twice, scanned, unusable}
use Rattle.keytable.proofs.scan.scan_lines.Goals as goal

pub loop-at-init : goal.loop-at-init
loop-at-init c = none_passed _ _ _ _ _ c.requires.starts_len (search rules) (search rules) (search rules) (zero-at 256)

pub returns-then-n-eq256 : goal.returns-then-n-eq256
returns-then-n-eq256 c =
    let t = c.args.table.now in
    let one_left = some-line t c.loop-at.at c.loop-at-test.true in
    let all = counted t _ _ _ _ _ c.loop-at.at c.loop-at.invariant c.loop-at-test.true in
    unusable _ _ (too_many t c.requires.table_len_bound c.requires.table_value (omega (arith, c.if-n-eq256.true)))

pub returns-in_err-line : goal.returns-in_err-line
returns-in_err-line c =
    let t = c.args.table.now in
    let bad = line-bad t c.loop-at.at c.loop-at-test.true c.requires.table_value (sym c.read_line.ensures ∙ c.in_err-line.was) in
    let one = each-here t _ _ _ _ _ c.loop-at.at c.loop-at.invariant c.loop-at-test.true _ refl in
    rw c.from_residual.ensures (unusable _ _ (one-bad t c.requires.table_len_bound c.requires.table_value (one ∙ rw bad)))

pub slice_bounds-name-end : goal.slice_bounds-name-end
slice_bounds-name-end c =
    let t = c.args.table.now in
    let good = line-good t c.loop-at.at c.in_ok-line.line.colon c.in_ok-line.line.end (sym c.read_line.ensures ∙ c.in_ok-line.was) in
    let inside : c.loop-at.at ≤ length t = omega (arith, c.loop-at-test.true) in
    omega (arith, good.identity-ends, identity-within t c.loop-at.at inside)

pub repeated-requires-clause-identity_value : goal.repeated-requires-clause-identity_value
repeated-requires-clause-identity_value c =
    let t = c.args.table.now in
    let at = c.loop-at.at in
    let good = line-good t at c.in_ok-line.line.colon c.in_ok-line.line.end (sym c.read_line.ensures ∙ c.in_ok-line.was) in
    rw (identity-part t at c.in_ok-line.line.colon (omega (arith, c.loop-at-test.true)) good.identity-ends) (and_left (valid_identity (identity_at t at)) _ good.valid)

pub returns-then-repeated : goal.returns-then-repeated
returns-then-repeated c =
    let t = c.args.table.now in
    let at = c.loop-at.at in
    let good = line-good t at c.in_ok-line.line.colon c.in_ok-line.line.end (sym c.read_line.ensures ∙ c.in_ok-line.was) in
    let own = identity-part t at c.in_ok-line.line.colon (omega (arith, c.loop-at-test.true)) good.identity-ends in
    let again = ap (λ (i : List ℕ). any (same i) (earlier t c.loop-at.starts c.loop-at.n)) (sym own) ∙ sym c.repeated.ensures ∙ c.if-repeated.true in
    unusable _ _
    (one-twice t c.requires.table_len_bound c.requires.table_value
    (sym (distinct-stop t c.loop-at.starts at c.in_ok-line.line.end c.loop-at.n c.loop-at-test.true good.line-ends c.loop-at.invariant.identities again)))

pub loop-at-preserved : goal.loop-at-preserved
loop-at-preserved c =
    let t = c.args.table.now in
    let at = c.loop-at.at in
    let l = c.loop-at in
    let good = line-good t at c.in_ok-line.line.colon c.in_ok-line.line.end (sym c.read_line.ensures ∙ c.in_ok-line.was) in
    let own = identity-part t at c.in_ok-line.line.colon (omega (arith, c.loop-at-test.true)) good.identity-ends in
    let p = c.fingerprint-p.ensures ∙ ap (fingerprint 0) own in
    let fresh = ap (λ (i : List ℕ). any (same i) (earlier t c.loop-at.starts l.n)) (sym own) ∙ sym c.repeated.ensures ∙ c.if-repeated.false in
    one-passed t c.loop-at.starts l.heads l.links l.tags l.n at c.loop-at.invariant c.loop-at-test.true c.in_ok-line.line.colon c.in_ok-line.line.end good
    (omega (arith, c.if-n-eq256.false, c.loop-at.invariant.few)) _ _ _ _ (ap (λ (q : ℕ). q % 256) p) refl refl (ap (λ (q : ℕ). q / 256 % 65536) p) fresh

pub returns : goal.returns
returns c = scanned _ c.requires.table_len_bound c.requires.table_value _ _ _ _ _ _ c.loop-at.invariant c.loop-at-test.false
