-- What a pass over a table (`Scans`) says where it gives a number of lines: that the table is well formed, and what it leaves of one.
-- Assumes nothing.
use mathlib.Core.Path.{◌≡◌, refl, sym, ap, ◌∙◌}
use Prim.Native.Nat.{ℕ, ◌≤◌}
use native.Mathlib.Omega.{arith}
use mathlib.Core.Bool.{Bool, true, false, ◌&&◌}
use mathlib.Core.List.{List}
use lib.ListN.{length, take, length-take}
use lib.Dec.{leb}
use Rattle.std.specs.Prelude.{Option, None, Some}
use Rattle.std.proofs.lemmas.Option.{none-some, same_Some}
use Rattle.lists.specs.Lists.{same}
use Rattle.keytable.specs.Table.{lines, well_formed}
use Rattle.keytable.specs.Starts.{starts_of, is_list}
use Rattle.keytable.specs.Inner.{Scans}
use Rattle.keytable.proofs.Listed.{count-lines}

module _ {t own : List ℕ} {said : Option ℕ} {n : ℕ} (s : Scans t said own) (e : said ≡ Some n) where
  pub lines-formed : well_formed t ≡ true
  lines-formed = go (well_formed t) refl
    where
      go : (b : Bool) → well_formed t ≡ b → b ≡ true
      go true f = refl
      go false f = let none : said ≡ None = s.told ∙ rw f in absurd (none-some _ (sym none ∙ e))

  lines-count : n ≡ length (lines t)
  lines-count = same_Some _ _ (sym e ∙ s.told ∙ rw lines-formed)

  pub lines-starts : take n own ≡ starts_of t
  lines-starts = ap (λ (k : ℕ). take k own) lines-count ∙ s.left lines-formed

  pub lines-inside : n ≤ length own
  lines-inside =
      let size : length (take n own) ≡ n = ap length lines-starts ∙ count-lines 0 (lines t) ∙ sym lines-count in
      omega (arith, size, length-take n own)

  pub lines-list : (starts : List ℕ) (count : ℕ) → is_list t starts count ≡ (leb count (length starts) && same (take count starts) (take n own))
  unfolding is_list
  lines-list starts count = ap (λ (l : List ℕ). leb count (length starts) && same (take count starts) l) (sym lines-starts)
