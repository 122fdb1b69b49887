-- The header's tests accept exactly the messages of their type within the limit.
-- Assumes nothing.
use mathlib.Core.Path.{◌≡◌, refl, ◌∙◌}
use Prim.Native.Nat.{ℕ, ◌-◌, ◌≤◌}
use native.Mathlib.Omega.{arith}
use mathlib.Core.Bool.{Bool, true, false, cond}
use mathlib.Core.List.{List}
use lib.ListN.{length, get_or, take, drop, length-drop}
use lib.Seq.{drop-cons, take_all}
use lib.Dec.{leb, ltb, eqb}
use borrow.Author.Tests.{le-ltb, ltb-false, eq-eqb, eqb-true, le-leb, leb-true}
use Rattle.std.specs.Prelude.{Result, Ok, Err}
use Rattle.endian.specs.Number.{Bytes}
use Rattle.endian.specs.Vector.{vector, stated}
use Rattle.endian.proofs.Numbers.{number-be-lt}
use Rattle.refusal.specs.declared.Refusal.{Refusal}
use Rattle.layout.specs.Layout.{message}
use Rattle.layout.specs.Header.{header}
use Rattle.layout.proofs.Places.{vector-last}

pub header-message : (kind : ℕ) (body : List ℕ) → length body ≤ 16380 → header kind (message kind body) ≡ Ok tt
header-message kind body h =
    let m : List ℕ = message kind body in
    let says : stated 3 (drop 1 m) ≡ length m - 4 = number-be-lt 3 (length body) (omega arith) ∙ (omega arith) in
    rw (
      le-ltb (length m) 4 (omega arith),
      eq-eqb kind kind refl,
      eq-eqb (stated 3 (drop 1 m)) (length m - 4) says,
      le-leb (length m) 16384
          (omega arith),
    )

-- a test that led to `(Ok tt)` held
accepted-if : (t : Bool) (v : Result Unit Refusal) (r : Refusal) → cond t v (Err r) ≡ Ok tt → (t ≡ true) × (v ≡ Ok tt)
accepted-if true v r e = (refl, e)
accepted-if false v r e = absurd (let z : ◌≡◌ {A = ℕ} 0 1 = cc in omega arith)

accepted-unless : (t : Bool) (v : Result Unit Refusal) (r : Refusal) → cond t (Err r) v ≡ Ok tt → (t ≡ false) × (v ≡ Ok tt)
accepted-unless true v r e = absurd (let z : ◌≡◌ {A = ℕ} 0 1 = cc in omega arith)
accepted-unless false v r e = (refl, e)

pub header_read : (kind : ℕ) (m : List ℕ) → Bytes m → header kind m ≡ Ok tt → (m ≡ message kind (drop 4 m)) × (length (drop 4 m) ≤ 16380)
header_read kind m b e =
    let t1 = accepted-unless (ltb (length m) 4) _ _ e in
    let t2 = accepted-if (eqb (get_or m 0 0) kind) _ _ t1.1 in
    let t3 = accepted-if (eqb (stated 3 (drop 1 m)) (length m - 4)) _ _ t2.1 in
    let t4 = accepted-if (leb (length m) 16384) _ _ t3.1 in
    let four : 4 ≤ length m = ltb-false (length m) 4 t1.0 in
    let states : stated 3 (drop 1 m) ≡ length m - 4 = eqb-true _ _ t3.0 in
    let within : length m ≤ 16384 = leb-true _ _ t4.0 in
    let rest : take (stated 3 (drop 1 m)) (drop 4 m) ≡ drop 4 m = take_all (stated 3 (drop 1 m)) (drop 4 m) (simp length-drop (omega arith)) in
    let body : drop 1 m ≡ vector 3 (drop 4 m) = rw rest at (vector-last 3 m 1 b (omega arith)).0 in
    let kind-is : get_or m 0 0 ≡ kind = eqb-true _ _ t2.0 in
    (drop-cons m 0 0 (omega arith) ∙ rw (kind-is, body), simp length-drop (omega arith))
