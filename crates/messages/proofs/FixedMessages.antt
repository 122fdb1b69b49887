-- The reader and the writer of a message whose body has a fixed length are each other's inverse.
-- Assumes nothing.
use mathlib.Core.Path.{◌≡◌, sym, ap, ◌∙◌}
use Prim.Native.Nat.{ℕ, ◌+◌, ◌≤◌}
use native.Mathlib.Omega.{arith}
use native.Mathlib.Decide.{ℕ_discrete}
use mathlib.Core.Bool.{true}
use mathlib.Core.List.{List}
use lib.ListN.{length, drop, length-drop}
use lib.Seq.{take_all}
use borrow.Author.Tests.{eq-eqb, ne_eqb, eqb-true}
use Rattle.std.specs.Prelude.{Some}
use Rattle.endian.specs.Number.{Bytes}
use Rattle.layout.specs.Layout.{bytes, valid, Inverse}
use Rattle.layout.specs.Header.{header}
use Rattle.layout.specs.Place.{standing, filled_by}
use Rattle.messages.specs.Fixed.{fixed_message, fixed_place, read_fixed}
use Rattle.layout.proofs.Layouts.{valid-within, valid-parts}
use Rattle.layout.proofs.Places.{at-refused, found-there, after-header, contents-at}
use Rattle.layout.proofs.Headers.{header-message, header_read}

-- a body that was found has its place
pub filled-there : (k : ℕ) (m : List ℕ) (s n : ℕ) → filled_by k m ≡ standing s n → (length m ≡ 4 + k) × (s ≡ 4) × (n ≡ k)
filled-there k m s n e = elim (ℕ_discrete (length m) (4 + k)) [
  | yes fills ↦
      let there : filled_by k m ≡ standing 4 k = rw (eq-eqb (length m) (4 + k) fills) in
      let same = found-there (sym e ∙ there) in
      (fills, same.0, same.1)
  | no off ↦ absurd (at-refused (filled_by k m) s n e (rw (ne_eqb (length m) (4 + k) off)))
]

-- every body of the length is one
pub fixed-valid : (kind size : ℕ) (xs : List ℕ) → length xs ≡ size → size ≤ 16380 → valid (fixed_message kind size) xs ≡ true
fixed-valid kind size xs long few = valid-within (fixed_message kind size) xs (eq-eqb (length xs) size long) (omega arith)

pub fixed-inverse : (kind size : ℕ) → Inverse (fixed_message kind size) (read_fixed kind size)
fixed-inverse kind size = record { reads-written = there; writes-read = back }
  where
    there : (xs : List ℕ) → valid (fixed_message kind size) xs ≡ true → read_fixed kind size (bytes (fixed_message kind size) xs) ≡ Some xs
    there xs h =
        let m : List ℕ = bytes (fixed_message kind size) xs in
        let ok = valid-parts (fixed_message kind size) xs h in
        let long : length xs ≡ size = eqb-true _ _ ok.0 in
        rw (header-message kind xs ok.1, eq-eqb (length m) (4 + size) (omega arith), take_all size xs (omega arith))

    back : (m xs : List ℕ) → Bytes m → read_fixed kind size m ≡ Some xs
        → (valid (fixed_message kind size) xs ≡ true) × (m ≡ bytes (fixed_message kind size) xs)
    back m xs b e =
        let place = contents-at m (fixed_place kind size m) xs e in
        let s : ℕ = place.0 in
        let n : ℕ = place.1 in
        let split = after-header (header kind m) (filled_by size m) s n place.2 in
        let fills = filled-there size m s n split.1 in
        let head = header_read kind m b split.0 in
        let long : length (drop 4 m) ≡ size = simp length-drop (omega arith) in
        let same : xs ≡ drop 4 m = place.3 ∙ rw (fills.1, fills.2) (take_all size (drop 4 m) (omega arith)) in
        (fixed-valid kind size xs (ap length same ∙ long) (omega arith), rw same head.0)
