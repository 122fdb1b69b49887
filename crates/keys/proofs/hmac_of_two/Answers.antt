-- `keys::hmac_of_two`: the tests in their order, and then the value.
use Rattle.std.proofs.Common.{◌≡◌, ◌∙◌, ◌+◌, ◌≤◌, ◌<◌, ◌++◌, arith, sym, length}
use mathlib.Core.Bool.{and-false}
use lib.ListN.{length-append}
use borrow.Author.Tests.{le-leb, lt-leb}
use Rattle.refusal.proofs.Laws.{refuses-answers}
use Rattle.sha256.specs.State.{absorb}
use Rattle.sha256.proofs.Absorb.{absorb-append}
use Rattle.keys.specs.Hmac.{hmac}
use Rattle.keys.proofs.HmacSteps.{ends}
use Rattle.keys.proofs.hmac_of_two.Goals.{then-first-gt-MESSAGE_LIMIT-via-then-first-gt-MESSAGE_LIMIT, then-first-gt-MESSAGE_LIMIT-via-else-first-gt-MESSAGE_LIMIT+then-first-second, then-first-gt-MESSAGE_LIMIT-via-else-first-gt-MESSAGE_LIMIT+else-first-second+then-key-gt-KEY_LIMIT}
use Rattle.keys.proofs.hmac_of_two.Goals as goal

pub returns-then-first-gt-MESSAGE_LIMIT : goal.returns-then-first-gt-MESSAGE_LIMIT
unfolding hmac
returns-then-first-gt-MESSAGE_LIMIT c =
    let size = length-append c.args.first.now c.args.second.now in
    elim c.then-first-gt-MESSAGE_LIMIT.branch [
      | then-first-gt-MESSAGE_LIMIT-via-then-first-gt-MESSAGE_LIMIT w ↦
          let long : 0x1fffffffffffffbf < length (c.args.first.now ++ c.args.second.now) = omega (arith, size, w.if-first-gt-MESSAGE_LIMIT.true) in
          simp (lt-leb _ _ long) (refuses-answers _ _)
      | then-first-gt-MESSAGE_LIMIT-via-else-first-gt-MESSAGE_LIMIT+then-first-second w ↦
          let long : 0x1fffffffffffffbf < length (c.args.first.now ++ c.args.second.now) = omega (arith, size, w.if-first-second.true, w.if-first-gt-MESSAGE_LIMIT.false) in
          simp (lt-leb _ _ long) (refuses-answers _ _)
      | then-first-gt-MESSAGE_LIMIT-via-else-first-gt-MESSAGE_LIMIT+else-first-second+then-key-gt-KEY_LIMIT w ↦
          simp (lt-leb _ _ w.if-key-gt-KEY_LIMIT.true, and-false) (refuses-answers _ _)
    ]

pub returns : goal.returns
unfolding hmac
returns c =
    let message = c.args.first.now ++ c.args.second.now in
    let fits : length message ≤ 0x1fffffffffffffbf = omega (arith, length-append c.args.first.now c.args.second.now) in
    let begun = c.under-k.result.inner in
    let whole : c.update-2.result ≡ absorb begun message =
    c.update-2.ensures ∙ rw c.update.ensures (sym (absorb-append begun c.args.first.now c.args.second.now)) in
    let made = ends c.under-k.ensures.value whole fits c.end-done.ensures.by_index in
    simp (le-leb _ _ fits, le-leb _ _ c.if-key-gt-KEY_LIMIT.false) (rw made.value at c.put.ensures)
