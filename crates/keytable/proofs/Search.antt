-- The search by a list: the comparison of an identity with what stands at a start, byte by byte, and what it makes of the search. Assumes nothing.
use mathlib.Core.Path.{◌≡◌, refl, sym, ap, ◌∙◌}
use Prim.Native.Nat.{ℕ, ◌+◌, ◌≤◌, ◌<◌}
use native.Mathlib.Omega.{arith}
use mathlib.Core.Bool.{Bool, true, false, cond}
use mathlib.Core.List.{List, [], ◌∷◌}
use lib.ListN.{length, drop, get_or, drop_of_length-le}
use lib.Dec.{eqb}
use borrow.Author.Tests.{eq-eqb, ne_eqb}
use Rattle.std.specs.Prelude.{None, Some}
use Rattle.lists.proofs.Walks.{left-cons}
use Rattle.keytable.specs.Table.{colon, line_end, upto, key_text}
use Rattle.keytable.specs.Starts.{hit, line_at, placed}
use Rattle.keytable.proofs.Spots.{size}

no_text : (identity : List ℕ) → key_text identity [] ≡ None
no_text [] = refl
no_text (i ∷ is) = refl

-- what stands at a place of the table, by its first byte
pub line-cons : (t : List ℕ) (at : ℕ) → at < length t
    → line_at t at ≡ cond (eqb (get_or t at 0) line_end) [] (get_or t at 0 ∷ line_at t (at + 1))
line-cons t at inside = ap (upto line_end) (left-cons t at inside)

-- i bytes of the identity stand at `at`
module _ (t identity : List ℕ) (at i : ℕ) where
  abbrev pub Matched : Type 0
  Matched = key_text identity (line_at t at) ≡ key_text (drop i identity) (line_at t (at + i))

  module _ (inside : at + i < length t) (now : Matched) where
    module _ (h : i < length identity) where
      pub match-more : get_or t (at + i) 0 ≡ get_or identity i 0 → (get_or t (at + i) 0 ≡ line_end → ⊥)
          → key_text identity (line_at t at) ≡ key_text (drop (i + 1) identity) (line_at t (at + (i + 1)))
      match-more same other =
          let next : at + (i + 1) ≡ at + i + 1 = omega arith in
          now ∙ rw (line-cons t (at + i) inside, left-cons identity i h, ne_eqb _ _ other, next) (rw (eq-eqb _ _ same))

      pub match-other : (get_or t (at + i) 0 ≡ get_or identity i 0 → ⊥) → key_text identity (line_at t at) ≡ None
      match-other other = now ∙ rw (line-cons t (at + i) inside, left-cons identity i h) (go (eqb (get_or t (at + i) 0) line_end))
        where
          go : (b : Bool) → key_text (get_or identity i 0 ∷ drop (i + 1) identity) (cond b [] (get_or t (at + i) 0 ∷ line_at t (at + i + 1))) ≡ None
          go true = refl
          go false = rw (ne_eqb _ _ other)

      pub match-ended : get_or t (at + i) 0 ≡ line_end → key_text identity (line_at t at) ≡ None
      match-ended same = now ∙ rw (line-cons t (at + i) inside, left-cons identity i h, eq-eqb _ _ same)

    module _ (h : i ≡ length identity) where
      whole : drop i identity ≡ []
      whole = drop_of_length-le identity {i = i} (omega arith)

      pub match-colon : get_or t (at + i) 0 ≡ colon → key_text identity (line_at t at) ≡ Some (line_at t (at + i + 1))
      match-colon same = now ∙ rw (line-cons t (at + i) inside, whole, same)

      pub match-longer : (get_or t (at + i) 0 ≡ colon → ⊥) → key_text identity (line_at t at) ≡ None
      match-longer other = now ∙ rw (line-cons t (at + i) inside, whole) (go (eqb (get_or t (at + i) 0) line_end))
        where
          go : (b : Bool) → key_text [] (cond b [] (get_or t (at + i) 0 ∷ line_at t (at + i + 1))) ≡ None
          go true = refl
          go false = rw (ne_eqb _ _ other)

  pub match-end : length t ≤ at + i → Matched → key_text identity (line_at t at) ≡ None
  match-end h now = now ∙ rw (drop_of_length-le t {i = at + i} h) (no_text (drop i identity))

-- the search from the k-th start on
module _ (t starts identity : List ℕ) (k : ℕ) (h : k < length starts) (now : placed 0 identity t starts ≡ placed k identity t (drop k starts)) where
  pub search-on : key_text identity (line_at t (get_or starts k 0)) ≡ None → placed 0 identity t starts ≡ placed (k + 1) identity t (drop (k + 1) starts)
  search-on m = now ∙ rw (left-cons starts k h) (rw m)

  pub search-hit : (from to : ℕ) → from ≡ get_or starts k 0 + length identity + 1 → to ≡ from + length (line_at t from)
      → key_text identity (line_at t (get_or starts k 0)) ≡ Some (line_at t from) → hit k from to ≡ placed 0 identity t starts
  search-hit from to start end m =
      let ends : get_or starts k 0 + length (line_at t (get_or starts k 0)) ≡ to = omega (arith, size t identity (get_or starts k 0) (line_at t from) m) in
      sym (now ∙ rw (left-cons starts k h) (rw (m, ends, ← start)))
