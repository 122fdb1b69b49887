-- Messages that stand one behind the other, and the flight that they are by their lengths.
-- Assumes nothing.
use mathlib.Core.Path.{◌≡◌, refl, sym, ap, ◌∙◌}
use Prim.Native.Nat.{ℕ, ◌+◌, ◌≤◌, ◌<◌}
use native.Mathlib.Nat.{add_assoc, zero-add}
use native.Mathlib.Omega.{arith}
use native.Mathlib.Decide.{dec_le}
use mathlib.Core.Bool.{Bool, true, false, cond}
use mathlib.Core.List.{List, [], ◌∷◌, ◌++◌, append_assoc}
use lib.ListN.{length, take, drop, get_or, length-take, take-append-drop}
use lib.Dec.{eqb}
use lib.Seq.{take_all, take_at, drop_at, take-add}
use borrow.Author.Tests.{eqb-true, ne_eqb, le-leb, lt-leb}
use Rattle.handshake.specs.declared.Outgoing.{Outgoing}
use Rattle.handshake.specs.Flight.{joined, flight_bytes, longest}
use Rattle.handshake.specs.Outgoing.{total, size_of, cut, flight_of}

-- three lengths
pub total-three : (ns : List ℕ) → length ns ≡ 3 → total ns ≡ get_or ns 0 0 + get_or ns 1 0 + get_or ns 2 0
total-three (a ∷ b ∷ c ∷ []) h = omega arith
total-three [] h = absurd (omega arith)
total-three (a ∷ []) h = absurd (omega arith)
total-three (a ∷ b ∷ []) h = absurd (omega arith)
total-three (a ∷ b ∷ c ∷ d ∷ ns) h = absurd (omega arith)

-- the first of them, where there is one
pub cut-first : (m rest : List ℕ) (n : ℕ) (ns : List ℕ) → 0 < n → length m ≡ n → cut (n ∷ ns) (m ++ rest) ≡ m ∷ cut ns rest
cut-first m rest n ns more size =
    rw (ne_eqb n 0 (λ e. omega arith), take_at m rest n size, drop_at m rest n size)

-- messages that were cut are the bytes again
joined-cut : (ns b : List ℕ) → joined (cut ns b) ≡ take (total ns) b
joined-cut [] b = refl
joined-cut (n ∷ ns) b = go (eqb n 0) refl (joined-cut ns b) (joined-cut ns (drop n b))
  where
    go : (t : Bool) → eqb n 0 ≡ t → joined (cut ns b) ≡ take (total ns) b → joined (cut ns (drop n b)) ≡ take (total ns) (drop n b)
        → joined (cond t (cut ns b) (take n b ∷ cut ns (drop n b))) ≡ take (n + total ns) b
    go true e without with_first = without ∙ rw (eqb-true n 0 e, zero-add)
    go false e without with_first = rw (with_first, take-add)

total-append : (ms ns : List ℕ) → total (ms ++ ns) ≡ total ms + total ns
total-append [] ns = rw zero-add
total-append (m ∷ ms) ns = rw (total-append ms ns, add_assoc)

-- the bytes of a flight stand at the front of its array
pub flight-bytes : (o : Outgoing) → flight_bytes (flight_of o) ≡ take (total o.lengths) o.bytes
flight-bytes o =
    let first : List ℕ = take o.plain o.lengths in
    let second : List ℕ = drop o.plain o.lengths in
    let all : total first + total second ≡ total o.lengths =
    sym (total-append first second) ∙ ap total (take-append-drop o.plain o.lengths) in
    rw (joined-cut first o.bytes, joined-cut second (drop (total first) o.bytes), ← all, take-add)

pub joined-append : (ms ns : List (List ℕ)) → joined (ms ++ ns) ≡ joined ms ++ joined ns
joined-append [] ns = refl
joined-append (m ∷ ms) ns = ap (λ (l : List ℕ). m ++ l) (joined-append ms ns) ∙ sym (append_assoc m (joined ms) (joined ns))

-- the array's bytes that are messages
pub size-taken : (o : Outgoing) → length o.bytes ≡ longest → take (size_of o) o.bytes ≡ take (total o.lengths) o.bytes
size-taken o array = elim (dec_le (total o.lengths) longest) [
  | yes few ↦ rw (le-leb (total o.lengths) longest few)
  | no many ↦
      rw (lt-leb (total o.lengths) longest (omega arith))
      (take_all longest o.bytes (omega arith) ∙ sym (take_all (total o.lengths) o.bytes (omega arith)))
]

-- no flight is longer than the array
pub flight-most : (o : Outgoing) → length o.bytes ≡ longest → length (flight_bytes (flight_of o)) ≤ longest
flight-most o array = rw (flight-bytes o, length-take (total o.lengths) o.bytes) (omega arith)
