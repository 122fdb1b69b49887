-- `lists::joined`: one part more behind those that stand there, as far as there is room.
-- Assumes nothing.
use mathlib.Core.Path.{◌≡◌, refl, sym, ap, ◌∙◌}
use mathlib.Core.Logic.{◌⊎◌, inl, inr}
use Prim.Native.Nat.{ℕ, zero, suc, ◌+◌, ◌-◌, ◌≤◌, ◌<◌}
use native.Mathlib.Omega.{arith}
use native.Mathlib.Nat.{le_of_eq}
use mathlib.Core.List.{List, [], ◌∷◌, ◌++◌}
use lib.ListN.{length, take, replicate}
use lib.Seq.{take_all, take_at, drop_at}
use borrow.Rule.Slice.PartMut.{put_mid}
use Rattle.std.proofs.Common.{length-append, append_assoc}
use Rattle.std.proofs.lemmas.List.{length-take, length-take-le}
use Rattle.std.proofs.lemmas.Bool.{cases_lt}
use Rattle.lists.specs.Lists.{field}
use Rattle.lists.proofs.Parts.{drop-replicate}

-- the first n of a list and of another behind it
take-both : (n : ℕ) (f p : List ℕ) → take n (f ++ p) ≡ take n f ++ take (n - length f) p
take-both zero f p = let none : 0 - length f ≡ 0 = omega arith in rw none refl
take-both (suc n) [] p = let all : suc n - 0 ≡ suc n = omega arith in rw all refl
take-both (suc n) (x ∷ f) p = let same : suc n - suc (length f) ≡ n - length f = omega arith in ap (λ (l : List ℕ). x ∷ l) (take-both n f p) ∙ rw same refl

-- as many of a list as there are, or as there is room for
take-room : (k n : ℕ) (p : List ℕ) → n ≤ k → (n < k → n ≡ length p) → take k p ≡ take n p
take-room k n p room count = by-order (cases_lt n k) where
  by-order : (n < k) ⊎ (k ≤ n) → take k p ≡ take n p
  by-order (inl less) = let e = count less in take_all k p (omega (arith, e, less)) ∙ sym (take_all n p (le_of_eq (sym e)))
  by-order (inr whole) = let e : k ≡ n = omega (arith, room, whole) in rw e refl

-- as many as there is room for behind the first at most N of f
pub joined-turn : (N at n : ℕ) (f p all copied : List ℕ) → at ≡ length (take N f) → all ≡ field N (take N f)
    → n ≤ N - at → n ≤ length p → (n < N - at → n ≡ length p) → copied ≡ take n p
    → (at + n ≡ length (take N (f ++ p))) × (put_mid at (at + n - at) all copied ≡ field N (take N (f ++ p)))
joined-turn N at n f p all copied here stands room inside count is =
    let front : List ℕ = take N f in
    let zeros : List ℕ = replicate (N - at) 0 in
    let left : N - length f ≡ N - at = rw here (rw (length-take N f) (omega arith)) in
    let whole : take N (f ++ p) ≡ front ++ copied = take-both N f p ∙ rw (left, take-room (N - at) n p room count, is) refl in
    let size : length copied ≡ n = rw is (length-take-le n p inside) in
    let ends : at + n ≡ length (front ++ copied) = rw length-append (omega (arith, size, here)) in
    let was : all ≡ front ++ zeros = stands ∙ rw (← here) refl in
    let put : put_mid at (at + n - at) all copied ≡ front ++ (copied ++ replicate (N - at - n) 0) =
    let step : at + n - at ≡ n = omega arith in
    rw (step, was, take_at front zeros at (sym here), drop_at front zeros at (sym here), drop-replicate (N - at) n 0) refl in
    let rest : N - at - n ≡ N - length (front ++ copied) = omega (arith, ends) in
    (rw whole ends, put ∙ rw (whole, ← rest) (sym (append_assoc front copied (replicate (N - at - n) 0))))
