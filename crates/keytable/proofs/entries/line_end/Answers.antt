-- `keytable::entries::line_end`: the bytes that the chain takes are those that `upto` keeps.
use Rattle.std.proofs.Common.{rules, ℕ, ◌≡◌, ◌+◌, ◌∙◌, Bool, true, false, cond, not, nat_eq, List, [], ◌∷◌, ap, refl, length, drop}
use Rattle.std.specs.List.{take_while}
use Rattle.std.specs.Slice.Iter.{iter_rest}
use borrow.Author.Tests.{tests}
use Rattle.std.proofs.lemmas.List.Sums.{take_while-cons}
use Rattle.std.proofs.lemmas.Iterator.{YieldsList-from_slice}
use Rattle.std.proofs.lemmas.Iterator.Search.{YieldsList-from_take_while}
use Rattle.std.proofs.lemmas.Iterator.Consumers.{count_from_yields_List}
use Rattle.lists.proofs.Parts.{part_to_end}
use Rattle.keytable.specs.Table.{line_end, upto}
use Rattle.keytable.proofs.entries.line_end.Goals as goal

abbrev stays : ℕ → Bool
stays b = not (nat_eq b line_end)

upto-is : (s : List ℕ) → take_while stays s ≡ upto line_end s
upto-is [] = refl
upto-is (b ∷ s) = take_while-cons stays b s ∙ go (nat_eq b line_end) (upto-is s)
  where
    go : (t : Bool) → take_while stays s ≡ upto line_end s → cond (not t) (b ∷ take_while stays s) [] ≡ cond t [] (b ∷ upto line_end s)
    go true ih = refl
    go false ih = ap (λ (l : List ℕ). b ∷ l) ih

pub returns : goal.returns
returns c =
    let a = c.args in
    let source = ap iter_rest c.take_while.ensures.source ∙ c.iter.ensures.rest ∙ part_to_end a.table.now a.at in
    ap (λ (n : ℕ). a.at + n)
    (count_from_yields_List c.take_while.result c.count.result c.count.ensures.ran
    (YieldsList-from_take_while _ stays (YieldsList-from_slice _ source) c.take_while.ensures.closure c.take_while.ensures.done (λ x b q k. search (rules, tests)))
    ∙ ap length (upto-is (drop a.at a.table.now)))
