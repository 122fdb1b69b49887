-- `server::hello::choose`: the first of ours that the client lists.
-- Assumes nothing.
use Rattle.std.proofs.Common.{rules}
use Rattle.std.proofs.lemmas.Iterator.{YieldsList-from_slice}
use Rattle.std.proofs.lemmas.Iterator.Consumers.{YieldsList-from_copied}
use Rattle.std.proofs.lemmas.Iterator.Search.{find_from_yields_List}
use borrow.Author.Tests.{tests}
use Rattle.server.specs.Hello.{offers}
use Rattle.server.proofs.Hellos.{chosen-found}
use Rattle.server.proofs.hello.choose.Goals as goal

pub returns : goal.returns
returns c =
    chosen-found c.args.ours.now c.args.offered.now c.find.result
    (find_from_yields_List (λ s. offers c.args.offered.now s) _ _ c.find.result c.find.ensures.ran (YieldsList-from_copied (YieldsList-from_slice c.args.ours.now cc)) (λ x b q k. search (rules, tests)))
