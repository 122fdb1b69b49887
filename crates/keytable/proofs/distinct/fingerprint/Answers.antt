-- `keytable::distinct::fingerprint`: the fold is the definition's recursion.
use Rattle.std.proofs.Common.{rules, ℕ, ◌≡◌, ◌+◌, ◌*◌, ◌%◌, ◌∙◌, List, [], ◌∷◌, refl}
use Rattle.std.specs.List.{fold}
use Rattle.std.proofs.lemmas.Iterator.{YieldsList-from_slice}
use Rattle.std.proofs.lemmas.Iterator.Consumers.{fold_from_yields_List}
use Rattle.keytable.specs.Inner.{fingerprint}
use Rattle.keytable.proofs.distinct.fingerprint.Goals as goal

abbrev next : ℕ → ℕ → ℕ
next p b = p % 67108864 * 33 + b

fold-is : (p : ℕ) (s : List ℕ) → fold next p s ≡ fingerprint p s
fold-is p [] = refl
fold-is p (b ∷ s) = fold-is (next p b) s

pub returns : goal.returns
returns c =
    fold_from_yields_List _ next 0 _ c.fold.ensures.ran (YieldsList-from_slice c.args.s.now (cc)) (λ p x b q k. search rules)
    ∙ fold-is 0 c.args.s.now
