-- The reader and the writer of a message whose body is one vector are each other's inverse.
-- Assumes nothing.
use mathlib.Core.Path.{◌≡◌}
use Prim.Native.Nat.{ℕ, ◌≤◌}
use native.Mathlib.Omega.{arith}
use mathlib.Core.Bool.{true}
use mathlib.Core.List.{List}
use lib.ListN.{length, take, drop}
use lib.Seq.{take-length}
use borrow.Author.Tests.{eq-eqb, lt-ltb, ltb-true}
use Rattle.std.specs.Prelude.{Some}
use Rattle.endian.specs.Number.{Bytes}
use Rattle.endian.specs.Vector.{vector, stated}
use Rattle.endian.proofs.Numbers.{number-be-lt}
use Rattle.layout.specs.Layout.{bytes, valid, Inverse}
use Rattle.layout.specs.Header.{header}
use Rattle.layout.specs.Place.{end_at, last_at}
use Rattle.messages.specs.KeyExchange.{vector_message, vector_place, read_vector}
use Rattle.layout.proofs.Layouts.{valid-within, valid-parts}
use Rattle.layout.proofs.Places.{last-there, after-header, vector-last, contents-at}
use Rattle.layout.proofs.Headers.{header-message, header_read}

-- contents that leave room for the header and for their length
pub vector-valid : (kind : ℕ) (xs : List ℕ) → length xs ≤ 16378 → valid (vector_message kind) xs ≡ true
vector-valid kind xs few = valid-within (vector_message kind) xs (lt-ltb (length xs) 65536 (omega arith)) (omega arith)

pub vector-inverse : (kind : ℕ) → Inverse (vector_message kind) (read_vector kind)
vector-inverse kind = record { reads-written = there; writes-read = back }
  where
    there : (xs : List ℕ) → valid (vector_message kind) xs ≡ true → read_vector kind (bytes (vector_message kind) xs) ≡ Some xs
    there xs h =
        let m : List ℕ = bytes (vector_message kind) xs in
        let ok = valid-parts (vector_message kind) xs h in
        let says : stated 2 (vector 2 xs) ≡ length xs = number-be-lt 2 (length xs) (ltb-true _ _ ok.0) in
        let fills : end_at 2 m 4 ≡ length m = omega arith in
        rw (header-message kind (vector 2 xs) ok.1, eq-eqb (end_at 2 m 4) (length m) fills, says, take-length)

    back : (m xs : List ℕ) → Bytes m → read_vector kind m ≡ Some xs → (valid (vector_message kind) xs ≡ true) × (m ≡ bytes (vector_message kind) xs)
    back m xs b e =
        let place = contents-at m (vector_place kind m) xs e in
        let s : ℕ = place.0 in
        let n : ℕ = place.1 in
        let split = after-header (header kind m) (last_at 2 m 4) s n place.2 in
        let last = last-there 2 m 4 s n split.1 in
        let read = vector-last 2 m 4 b last.0 in
        let head = header_read kind m b split.0 in
        let same : xs ≡ take (stated 2 (drop 4 m)) (drop 6 m) = cc (place.3, last.1, last.2) in
        let body : drop 4 m ≡ vector 2 xs = rw same read.0 in
        (valid-within (vector_message kind) xs (rw same read.1) (rw body at head.1), rw body at head.0)
