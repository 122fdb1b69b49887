-- What a test of a call's answer says of the definition that the answer equals, as in `if !tail(b)`, and the parts of a test made of several.
-- Assumes nothing.
use mathlib.Core.Path.{◌≡◌, refl, sym, ◌∙◌}
use mathlib.Core.Bool.{Bool, true, false, not, ◌&&◌, true≢false}
use borrow.Author.Tests.{not-true, not-false}

module _ (answer meant : Bool) (e : answer ≡ meant) where
  pub failed : not answer ≡ true → meant ≡ false
  failed h = sym e ∙ not-true answer h

  pub passed : not answer ≡ false → meant ≡ true
  passed h = sym e ∙ not-false answer h

pub and_left : (a b : Bool) → (a && b) ≡ true → a ≡ true
and_left true b h = refl
and_left false b h = h

pub and_right : (a b : Bool) → (a && b) ≡ true → b ≡ true
and_right true b h = h
and_right false b h = absurd (true≢false (sym h))

pub both : {a b : Bool} → a ≡ true → b ≡ true → (a && b) ≡ true
both {a} {b} p q = rw p q
