-- What the tests on a record's layout say of one that passed them.
-- Assumes nothing.
use mathlib.Core.Path.{◌≡◌, refl}
use Prim.Native.Nat.{ℕ, ◌+◌, ◌≤◌}
use native.Mathlib.Omega.{arith}
use mathlib.Core.Bool.{Bool, true, false, cond}
use mathlib.Core.List.{List}
use lib.ListN.{length, get_or}
use lib.Dec.{leb}
use borrow.Author.Tests.{leb-true}
use Rattle.std.specs.Prelude.{Result, Ok, Err, Option, None, Some}
use Rattle.lists.proofs.Tests.{and_left}
use Rattle.refusal.specs.declared.Refusal.{Refusal}
use Rattle.records.specs.declared.ContentType.{ContentType}
use Rattle.records.specs.Record.{whole, fragment_of, type_of, type_read, record_read}

refused-record : {r : Refusal} {kind : ContentType} → Err r ≡ Ok kind → ⊥
refused-record e = let z : ◌≡◌ {A = ℕ} 0 1 = cc in omega arith

-- a test that refuses where it fails
tested : (t : Bool) (read : Result ContentType Refusal) (r : Refusal) {kind : ContentType} → cond t read (Err r) ≡ Ok kind
    → (t ≡ true) × (read ≡ Ok kind)
tested true read r e = (refl, e)
tested false read r e = absurd (refused-record e)

type-tested : (added : ℕ) (b : List ℕ) (type : Option ContentType) {kind : ContentType} → type_read added b type ≡ Ok kind
    → length (fragment_of b) ≤ 16384 + added
type-tested added b None e = absurd (refused-record e)
type-tested added b (Some k) e = leb-true _ _ (tested (leb (length (fragment_of b)) (16384 + added)) _ _ e).0

-- there is a header, and the fragment is no longer than its protection allows
pub record-inside : (added : ℕ) (b : List ℕ) {kind : ContentType} → record_read added b ≡ Ok kind
    → (5 ≤ length b) × (length (fragment_of b) ≤ 16384 + added)
record-inside added b e =
    let passed = tested (whole b) (type_read added b (type_of (get_or b 0 0))) _ e in
    (leb-true 5 (length b) (and_left _ _ passed.0), type-tested added b (type_of (get_or b 0 0)) passed.1)
