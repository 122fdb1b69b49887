-- `keytable::classes::class_end`: the bytes that the chain takes are those that `leading` keeps.
use Rattle.std.proofs.Common.{rules, ℕ, ◌≡◌, ◌+◌, ◌∙◌, Bool, cond, List, [], ◌∷◌, ap, refl, length, drop}
use Rattle.std.specs.List.{take_while}
use Rattle.std.specs.Slice.Iter.{iter_rest}
use Rattle.std.proofs.lemmas.List.Sums.{take_while-cons}
use Rattle.std.proofs.lemmas.Iterator.{YieldsList-from_slice}
use Rattle.std.proofs.lemmas.Iterator.Search.{YieldsList-from_take_while}
use Rattle.std.proofs.lemmas.Iterator.Consumers.{count_from_yields_List}
use Rattle.lists.proofs.Parts.{part_to_end}
use Rattle.keytable.specs.Inner.{leading}
use Rattle.keytable.proofs.classes.class_end.Goals as goal

leading-is : (p : ℕ → Bool) (s : List ℕ) → take_while p s ≡ leading p s
leading-is p [] = refl
leading-is p (x ∷ s) = take_while-cons p x s ∙ ap (λ (l : List ℕ). cond (p x) (x ∷ l) []) (leading-is p s)

pub returns-clause-value : goal.returns-clause-value
returns-clause-value g c p says =
    let a = c.args in
    let source = ap iter_rest c.take_while.ensures.source ∙ c.iter.ensures.rest ∙ part_to_end a.table.now a.at in
    ap (λ (n : ℕ). a.at + n)
    (count_from_yields_List c.take_while.result c.count.result c.count.ensures.ran
    (YieldsList-from_take_while _ p (YieldsList-from_slice _ source) c.take_while.ensures.closure c.take_while.ensures.done (λ x b q k. search (rules, says)))
    ∙ ap length (leading-is p (drop a.at a.table.now)))
