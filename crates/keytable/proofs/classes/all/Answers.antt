-- `keytable::classes::all`: the library's test of every element is the definition's.
use Rattle.std.proofs.Common.{rules, ℕ, ◌≡◌, ◌∙◌, Bool, List, [], ◌∷◌, ap, refl, ◌&&◌}
use Rattle.std.specs.List.{list_all}
use Rattle.std.proofs.lemmas.Iterator.{YieldsList-from_slice}
use Rattle.std.proofs.lemmas.Iterator.Search.{all_from_yields_List}
use Rattle.lists.specs.Lists.{each}
use Rattle.keytable.proofs.classes.all.Goals as goal

each-is : (p : ℕ → Bool) (s : List ℕ) → list_all p s ≡ each p s
each-is p [] = refl
each-is p (x ∷ s) = ap (λ (b : Bool). p x && b) (each-is p s)

pub returns : goal.returns
returns g c p says =
    all_from_yields_List p _ _ _ c.all.ensures.ran (YieldsList-from_slice c.args.s.now cc) (λ x b q k. search (rules, says))
    ∙ each-is p c.args.s.now
