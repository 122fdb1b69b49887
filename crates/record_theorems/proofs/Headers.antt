-- What the tests on a message's header say of one that passed them, as every message does that its reader reads.
-- Assumes nothing.
use mathlib.Core.Path.{◌≡◌, refl}
use Prim.Native.Nat.{ℕ, ◌-◌, ◌≤◌}
use native.Mathlib.Omega.{arith}
use mathlib.Core.Bool.{Bool, true, false, cond}
use mathlib.Core.List.{List}
use lib.ListN.{length, get_or, drop}
use lib.Dec.{leb, ltb, eqb}
use borrow.Author.Tests.{ltb-false, eqb-true}
use Rattle.std.proofs.lemmas.Option.{none-some}
use Rattle.std.specs.Prelude.{Result, Ok, Err, Option, None, Some}
use Rattle.endian.specs.Vector.{stated}
use Rattle.refusal.specs.declared.Refusal.{Refusal}
use Rattle.refusal.specs.declared.Refusal.TheVariants.{UnexpectedMessage, DecodeError}
use Rattle.layout.specs.Types.{message_limit}
use Rattle.layout.specs.Header.{header}
use Rattle.handshake.specs.Header.{early_test}
use Rattle.records.specs.Joining.{message_end}

refused-accepted : {r : Refusal} → ◌≡◌ {A = Result Unit Refusal} (Err r) (Ok tt) → ⊥
refused-accepted e = let z : ◌≡◌ {A = ℕ} 0 1 = cc in omega arith

pub record HeaderPassed (kind : ℕ) (m : List ℕ) : Type 0 where
  pub accepted : header kind m ≡ Ok tt
  pub long : 4 ≤ length m
  pub early : early_test (Some kind) m ≡ Ok tt
  pub ends : message_end m ≡ length m

header-passed : (kind : ℕ) (m : List ℕ) → header kind m ≡ Ok tt → HeaderPassed kind m
header-passed kind m whole =
    go (ltb (length m) 4) refl (eqb (get_or m 0 0) kind) refl (eqb (stated 3 (drop 1 m)) (length m - 4)) refl (leb (length m) message_limit) refl whole
  where
    go : (a : Bool) → ltb (length m) 4 ≡ a → (b : Bool) → eqb (get_or m 0 0) kind ≡ b → (d : Bool) → eqb (stated 3 (drop 1 m)) (length m - 4) ≡ d
        → (l : Bool) → leb (length m) message_limit ≡ l
        → cond {A = Result Unit Refusal} a (Err DecodeError)
        (cond b (cond d (cond l (Ok tt) (Err DecodeError)) (Err DecodeError)) (Err UnexpectedMessage))
        ≡ Ok tt → HeaderPassed kind m
    go false long true type true states true limit e =
        let some_bytes : 4 ≤ length m = ltb-false (length m) 4 long in
        let rest : stated 3 (drop 1 m) ≡ length m - 4 = eqb-true _ _ states in
        let ends : message_end m ≡ length m = omega arith in
        record { accepted = whole; long = some_bytes; early = rw (type, ends, limit); ends = ends }
    go true long b type d states l limit e = absurd (refused-accepted e)
    go false long false type d states l limit e = absurd (refused-accepted e)
    go false long true type false states l limit e = absurd (refused-accepted e)
    go false long true type true states false limit e = absurd (refused-accepted e)

module _ {A : Type 0} (read : Result Unit Refusal → Option A) (blind : (r : Refusal) → read (Err r) ≡ None) where
  -- a reader finds something only behind a header that passed
  pub read-passed : (kind : ℕ) (m : List ℕ) (a : A) → read (header kind m) ≡ Some a → HeaderPassed kind m
  read-passed kind m a e = go (header kind m) refl e
    where
      go : (h : Result Unit Refusal) → header kind m ≡ h → read h ≡ Some a → HeaderPassed kind m
      go (Ok tt) is f = header-passed kind m is
      go (Err r) is f = absurd (none-some a (rw (blind r) at f))
