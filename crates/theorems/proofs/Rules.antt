-- The rule that a start leads to is the one that was named, and hide where none was.
-- Assumes nothing.
use Rattle.server.specs.Connection.{started}
use Rattle.theorems.specs.Rules.{RulesApply}

pub rules-apply : RulesApply
unfolding started
rules-apply = record { tell = λ s ok e. rw (ok, e); hide = λ s ok e. rw (ok, e); none = λ s ok e. rw (ok, e) }
