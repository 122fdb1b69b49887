-- What the calls that make secrets and Finished values leave in the memory that they were lent, and what a step makes of them.
-- Assumes nothing.
use mathlib.Core.Path.{◌≡◌, refl}
use Prim.Native.Nat.{ℕ, ◌≤◌}
use native.Mathlib.Omega.{arith}
use mathlib.Core.List.{List}
use lib.ListN.{length, take}
use Rattle.std.specs.Prelude.{Result, Ok, Err, Option, None, Some}
use Rattle.refusal.specs.declared.Refusal.{Refusal}
use Rattle.refusal.specs.Lent.{gives, Answers}
use Rattle.refusal.proofs.Laws.{refuses-gives, refused-short, wrote-gives}
use Rattle.keytable.specs.Table.{key_of, found, judged}
use Rattle.keytable.proofs.Lookups.{key-size}

-- ---- the key exchange

-- the key that a lookup put at the front of a buffer
pub key-put : (table identity out : List ℕ) {said : Result ℕ Refusal} {left : List ℕ} {n : ℕ} → Answers (found (key_of table identity)) out said left
    → said ≡ Ok n
    → (n ≤ length out) × (key_of table identity ≡ Some (take n left))
key-put table identity out {left = left} {n = n} a e = go (key_of table identity) (wrote-gives (found (key_of table identity)) a e)
  where
    go : (o : Option (List ℕ)) → (n ≤ length out) × (found o ≡ gives (take n left)) → (n ≤ length out) × (o ≡ Some (take n left))
    go None (h, f) = absurd (refuses-gives f)
    go (Some key) (h, f) = (h, cc)

-- every key of a table has room in a buffer of 64 bytes, so a refusal says that there is none
pub key-missing : (table identity out : List ℕ) {said : Result ℕ Refusal} {left : List ℕ} {r : Refusal} → length out ≡ 64
    → Answers (found (key_of table identity)) out said left → said ≡ Err r → key_of table identity ≡ None
key-missing table identity out {r = r} l a e = go (key_of table identity) refl
  where
    go : (o : Option (List ℕ)) → key_of table identity ≡ o → o ≡ None
    go None f = refl
    go (Some key) f =
        let few : length key ≤ length out = omega (arith, (key-size table identity key f).1) in
        absurd (omega (arith, few, refused-short (rw f at a) e))

-- the refusal of a table and its list, as its crate answers it
pub not-refused : (o : Option Refusal) → judged o ≡ Ok tt → o ≡ None
not-refused None e = refl
not-refused (Some r) e = cc

pub refused-itself : (o : Option Refusal) (r : Refusal) → judged o ≡ Err r → o ≡ Some r
refused-itself None r e = cc
refused-itself (Some s) r e = cc
