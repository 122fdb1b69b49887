-- `lists::same`: two of unequal lengths differ.
use Rattle.std.proofs.Common.{sym, ap, length}
use Rattle.lists.proofs.Equal.{same_not}
use Rattle.lists.proofs.same.Goals as goal

pub returns-then-a-b : goal.returns-then-a-b
returns-then-a-b c = sym (same_not _ _ (λ e. c.if-a-b.true (ap length e)))
