-- `keytable::list::same_list`: lists of one length are equal where each pair is.
use Rattle.std.proofs.Common.{rules, ◌≡◌, ◌<◌, ◌∙◌, refl, sym, ap, ℕ, Bool, ◌&&◌, nat_eq, arith, length, List, [], ◌∷◌}
use Rattle.std.specs.List.{list_all, zip}
use borrow.Author.Tests.{tests, le-leb, lt-leb, ne_eqb}
use Rattle.std.proofs.lemmas.Iterator.{YieldsList-from_slice, YieldsList-from_zip}
use Rattle.std.proofs.lemmas.Iterator.Search.{all_from_yields_List}
use Rattle.lists.specs.Lists.{same}
use Rattle.lists.proofs.Equal.{same_not}
use Rattle.keytable.proofs.Spots.{front-is}
use Rattle.keytable.proofs.list.same_list.Goals as goal

abbrev equal : ℕ × ℕ → Bool
equal p = nat_eq p.0 p.1

pairs-are : (a b : List ℕ) → length a ≡ length b → list_all equal (zip a b) ≡ same a b
pairs-are [] [] e = refl
pairs-are [] (y ∷ b) e = absurd (omega arith)
pairs-are (x ∷ a) [] e = absurd (omega arith)
pairs-are (x ∷ a) (y ∷ b) e = ap (λ t. nat_eq x y && t) (pairs-are a b (omega arith))

pub returns-in_default : goal.returns-in_default
returns-in_default c =
    let a = c.args in
    let past : length a.starts.now < a.count = omega (arith, c.in_default.ensures.lookup) in
    simp (lt-leb a.count (length a.starts.now) past)

pub returns-then-front-own : goal.returns-then-front-own
returns-then-front-own c =
    let a = c.args in
    let h = c.in-Some.ensures.lookup.0 in
    let front = c.in-Some.front.now in
    let pairs = all_from_yields_List equal c.all.new.self _ c.all.result c.all.ensures.ran (YieldsList-from_zip (YieldsList-from_slice front (cc)) (YieldsList-from_slice a.own.now (cc))) (λ x b q k. search (rules, tests)) in
    rw (le-leb a.count (length a.starts.now) h.1, ← front-is a.starts.now a.count h.2) (pairs ∙ pairs-are front a.own.now c.if-front-own.true)

pub returns-else-front-own : goal.returns-else-front-own
returns-else-front-own c =
    let a = c.args in
    let h = c.in-Some.ensures.lookup.0 in
    let front = c.in-Some.front.now in
    rw (le-leb a.count (length a.starts.now) h.1, ← front-is a.starts.now a.count h.2, ne_eqb _ _ c.if-front-own.false)
    (sym (same_not front a.own.now (λ e. c.if-front-own.false (ap length e))))
