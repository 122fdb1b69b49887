-- `server::hello::offers`: whether one of the list's pairs is the suite.
-- Assumes nothing.
use Rattle.std.proofs.Common.{rules, arith, ◌∙◌, ◌/◌, length, get_or, [], ◌∷◌, nat_eq}
use Rattle.std.proofs.lemmas.Iterator.{YieldsList-from_slice}
use Rattle.std.proofs.lemmas.Iterator.Search.{any_from_yields_List}
use borrow.Author.Tests.{tests}
use Rattle.endian.specs.Number.{number}
use Rattle.server.proofs.Hellos.{offers-pairs}
use Rattle.server.proofs.hello.offers.Goals as goal

pub returns : goal.returns
returns c =
    any_from_yields_List (λ p. nat_eq (number (get_or p 0 0 ∷ get_or p 1 0 ∷ [])) c.args.suite) _ _ _ c.any.ensures.ran (YieldsList-from_slice c.as_chunks.result.0.now cc) (λ x b q k. search (rules, tests))
    ∙ rw (c.as_chunks.ensures.front) (offers-pairs c.args.offered.now c.args.suite (length c.args.offered.now / 2) (omega arith) (omega arith))
