-- `record_server::flight::some_message`: whether a length isn't 0.
-- Assumes nothing.
use Rattle.std.proofs.Common.{rules, ◌∙◌, not, nat_eq}
use Rattle.std.proofs.lemmas.Iterator.{YieldsList-from_slice}
use Rattle.std.proofs.lemmas.Iterator.Search.{any_from_yields_List}
use borrow.Author.Tests.{tests}
use Rattle.record_server.proofs.Putting.{some-any}
use Rattle.record_server.proofs.flight.some_message.Goals as goal

pub returns : goal.returns
returns c =
    any_from_yields_List (λ n. not (nat_eq n 0)) _ _ _ c.any.ensures.ran (YieldsList-from_slice c.args.lengths.now cc) (λ x b q k. search (rules, tests))
    ∙ some-any c.args.lengths.now
