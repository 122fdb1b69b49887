-- The comparison of an identity with what stands at a start, byte by byte, and what it makes of the search by a list. Assumes nothing.
use mathlib.Core.Path.{◌≡◌, refl, sym, ap, ◌∙◌}
use Prim.Native.Nat.{ℕ, suc, ◌<◌}
use native.Mathlib.Omega.{arith}
use mathlib.Core.Bool.{Bool, true, false, cond, not, ◌&&◌}
use mathlib.Core.List.{List, [], ◌∷◌}
use lib.ListN.{length, drop, get_or}
use lib.Dec.{eqb}
use Rattle.std.specs.Prelude.{Option, None, Some}
use Rattle.std.proofs.Common.{Bor, nat_eq}
use Rattle.std.specs.List.{list_all, zip}
use Rattle.std.specs.Option.{option_eq, option_map, unwrap_or}
use borrow.Author.Tests.{ne_eqb, eqb-true, eqb-false, not-true, not-false}
use Rattle.keytable.specs.Table.{colon, line_end, upto, key_text}
use Rattle.keytable.specs.Inner.{is_some, begins}

-- a byte that may be there, against one that isn't 0
pub next-is : (r : Option (Bor ℕ)) (b : Bor ℕ) (n : ℕ) → unwrap_or (option_map (λ x. x.now) r) 0 ≡ n → 0 < b.now
    → option_eq (λ x y. nat_eq x.now y.now) r (Some b) ≡ nat_eq n b.now
next-is None b n e h = rw (← e) (sym (ne_eqb 0 b.now (λ z. omega arith)))
next-is (Some x) b n e h = ap (λ m. nat_eq m b.now) e

-- what comes of a test that they differ
module _ (m n : ℕ) {differ same : Bool} (told : differ ≡ not same) (is : same ≡ nat_eq n m) where
  pub next-other : differ ≡ true → ¬ (n ≡ m)
  next-other h = eqb-false n m (sym is ∙ not-true same (sym told ∙ h))

  pub next-same : differ ≡ false → n ≡ m
  next-same h = eqb-true n m (sym is ∙ not-false same (sym told ∙ h))

-- a byte of the identity and the table's
abbrev pub alike : ℕ × ℕ → Bool
alike p = eqb p.1 p.0 && not (eqb p.1 line_end)

-- the identity is what s begins with, no line ends in it, and a colon follows it
abbrev pub heads : List ℕ → List ℕ → Bool
heads identity s = list_all alike (zip identity s) && eqb (get_or s (length identity) 0) colon

pub text-is : (identity s : List ℕ)
    → key_text identity (upto line_end s) ≡ cond (heads identity s) (Some (upto line_end (drop (suc (length identity)) s))) None
text-is [] [] = refl
text-is [] (b ∷ s) = go (eqb b line_end) refl
  where
    go : (t : Bool) → eqb b line_end ≡ t → key_text [] (cond t [] (b ∷ upto line_end s)) ≡ cond (eqb b colon) (Some (upto line_end s)) None
    go true e = let end : b ≡ line_end = eqb-true b line_end e in rw (ne_eqb b colon (λ h. omega arith))
    go false e = refl
text-is (i ∷ is) [] = refl
text-is (i ∷ is) (b ∷ s) = go (eqb b line_end) (eqb b i) refl (text-is is s)
  where
    after : Option (List ℕ)
    after = Some (upto line_end (drop (suc (length is)) s))

    rest : Bool
    rest = eqb (get_or s (length is) 0) colon

    go : (t u : Bool) → eqb b i ≡ u → key_text is (upto line_end s) ≡ cond (heads is s) after None
        → key_text (i ∷ is) (cond t [] (b ∷ upto line_end s)) ≡ cond (((u && not t) && list_all alike (zip is s)) && rest) after None
    go true true e ih = refl
    go true false e ih = refl
    go false true e ih = rw e ih
    go false false e ih = rw e

-- what the pairs and the byte behind them say together
pub begins-of : (identity t : List ℕ) (at : ℕ) {rest : List ℕ} {pairs : Bool} → rest ≡ drop at t → pairs ≡ list_all alike (zip identity rest)
    → begins identity t at ≡ (pairs && eqb (get_or rest (length identity) 0) colon)
begins-of identity t at e p = rw (p, e) (ap is_some (text-is identity (drop at t)) ∙ go (heads identity (drop at t)))
  where
    after : List ℕ
    after = upto line_end (drop (suc (length identity)) (drop at t))

    go : (b : Bool) → is_some (cond b (Some after) None) ≡ b
    go true = refl
    go false = refl
