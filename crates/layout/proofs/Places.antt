-- What the places of vectors in a message are worth: a place inside the message, and its bytes are the vector's contents.
-- Assumes nothing.
use mathlib.Core.Path.{◌≡◌, refl, sym, ap, ◌∙◌}
use Prim.Native.Nat.{ℕ, ◌+◌, ◌-◌, ◌≤◌, ◌<◌}
use native.Mathlib.Omega.{arith}
use native.Mathlib.Decide.{ℕ_discrete, dec_le}
use native.Mathlib.Nat.{add_assoc}
use mathlib.Core.Bool.{Bool, true, false}
use mathlib.Core.List.{List, ◌++◌, append-nil, append_assoc}
use lib.ListN.{length, take, drop, length-drop, length-append}
use lib.Seq.{drop-drop, drop-length, drop_at, take-append_seam, drop-append_seam}
use borrow.Author.Tests.{eq-eqb, ne_eqb, le-leb, lt-leb}
use Rattle.std.proofs.lemmas.Option.{none-some, same_Some}
use Rattle.std.specs.Prelude.{Result, Ok, Err, Option, None, Some}
use Rattle.refusal.specs.declared.Refusal.{Refusal}
use Rattle.endian.specs.Number.{Bytes, be}
use Rattle.endian.specs.Vector.{vector, writable, stated, split, Split}
use Rattle.endian.proofs.Numbers.{bytes_drop, length-be}
use Rattle.endian.proofs.Vectors.{vector-split, stated-vector, length-vector}
use Rattle.layout.specs.declared.Part.{Part}
use Rattle.layout.specs.Place.{standing, end_at, part_at, ruled, last_at, after_header, contents}

-- a place is no refusal
pub at-refused : (p : Option Part) (s n : ℕ) → p ≡ standing s n → p ≡ None → ⊥
at-refused p s n a b = let z : ◌≡◌ {A = ℕ} 0 1 = cc in omega arith

-- a part that is found is the one that stands there
pub found-there : {p : Part} {s n : ℕ} → Some p ≡ standing s n → (p.start ≡ s) × (p.len ≡ n)
found-there e = let same = same_Some _ _ e in (ap (λ (q : Part). q.start) same, ap (λ (q : Part). q.len) same)

-- the bytes that a place gives
pub contents-at : (m : List ℕ) (p : Option Part) (xs : List ℕ) → contents m p ≡ Some xs
    → (s : ℕ) × (n : ℕ) × (p ≡ standing s n) × (xs ≡ take n (drop s m))
contents-at m (Some p) xs e = (p.start, p.len, refl, cc)
contents-at m None xs e = absurd (none-some xs e)

-- the vector that starts at `at`
pub part-there : (w : ℕ) (m : List ℕ) (at s n : ℕ) → part_at w m at ≡ standing s n
    → (end_at w m at ≤ length m) × (s ≡ at + w) × (n ≡ stated w (drop at m))
part-there w m at s n e = elim (dec_le (end_at w m at) (length m)) [
  | yes fits ↦
      let there : part_at w m at ≡ standing (at + w) (stated w (drop at m)) = simp (le-leb _ _ fits) in
      let same = found-there (sym e ∙ there) in
      (fits, same.0, same.1)
  | no cut ↦
      let over : length m < end_at w m at = omega arith in
      absurd (at-refused (part_at w m at) s n e (simp (lt-leb _ _ over)))
]

-- the same with a rule on its length
pub ruled-there : (rule : ℕ → Bool) (p : Option Part) (s n : ℕ) → ruled rule p ≡ standing s n → (p ≡ standing s n) × (rule n ≡ true)
ruled-there rule (Some p) s n e = go (rule p.len) refl
  where
    go : (t : Bool) → rule p.len ≡ t → (Some p ≡ standing s n) × (rule n ≡ true)
    go true h =
        let same : Some p ≡ standing s n = rw h at e in
        let long : p.len ≡ n = cc same in
        (same, rw long at h)
    go false h = absurd (at-refused None s n (rw h at e) refl)
ruled-there rule None s n e = absurd (at-refused None s n e refl)

pub ruled-inside : (rule : ℕ → Bool) (w : ℕ) (m : List ℕ) (at s n : ℕ) → ruled rule (part_at w m at) ≡ standing s n → (s ≡ at + w) × (s + n ≤ length m)
ruled-inside rule w m at s n e =
    let there = part-there w m at s n (ruled-there rule (part_at w m at) s n e).0 in
    (there.1, omega arith)

-- the vector that fills the rest of the message
pub last-there : (w : ℕ) (m : List ℕ) (at s n : ℕ) → last_at w m at ≡ standing s n
    → (end_at w m at ≡ length m) × (s ≡ at + w) × (n ≡ stated w (drop at m))
last-there w m at s n e = elim (ℕ_discrete (end_at w m at) (length m)) [
  | yes fills ↦
      let there : last_at w m at ≡ standing (at + w) (stated w (drop at m)) = simp (eq-eqb _ _ fills) in
      let same = found-there (sym e ∙ there) in
      (fills, same.0, same.1)
  | no off ↦ absurd (at-refused (last_at w m at) s n e (simp (ne_eqb _ _ off)))
]

-- the vector that starts at `at`, where the message does not end before it does
pub vector-at : (w : ℕ) (m : List ℕ) (at : ℕ) → Bytes m → end_at w m at ≤ length m
    → (drop at m ≡ vector w (take (stated w (drop at m)) (drop (at + w) m)) ++ drop (end_at w m at) m)
    × (writable w (take (stated w (drop at m)) (drop (at + w) m)) ≡ true)
vector-at w m at b fits =
    let n : ℕ = stated w (drop at m) in
    let found : Split = record { contents = take n (drop w (drop at m)); rest = drop (w + n) (drop at m) } in
    let inside : w + n ≤ length (drop at m) = simp length-drop (omega arith) in
    let there : split w (drop at m) ≡ Some found = rw (le-leb (w + n) (length (drop at m)) inside) in
    let read = vector-split w (drop at m) found (bytes_drop at m b) there in
    let front : drop w (drop at m) ≡ drop (at + w) m = drop-drop w at m in
    let back : drop (w + n) (drop at m) ≡ drop (end_at w m at) m = drop-drop (w + n) at m ∙ rw add_assoc in
    rw (← front, ← back) read

-- a vector that was written at `at`
pub part-written : (w : ℕ) (m : List ℕ) (at : ℕ) (xs rest : List ℕ) → 0 < w → writable w xs ≡ true → drop at m ≡ vector w xs ++ rest
    → (end_at w m at + length rest ≡ length m) × (stated w (drop at m) ≡ length xs) × (take (length xs) (drop (at + w) m) ≡ xs)
    × (drop (at + w + length xs) m ≡ rest)
part-written w m at xs rest pos ok e =
    let says : stated w (drop at m) ≡ length xs = rw e (stated-vector w xs rest ok) in
    let size : length (drop at m) ≡ w + length xs + length rest = rw e (length-append (vector w xs) rest ∙ rw (length-vector w xs)) in
    let left : length (drop at m) ≡ length m - at = length-drop at m in
    let behind : drop (at + w) m ≡ xs ++ rest =
    sym (drop-drop w at m) ∙ ap (drop w) (e ∙ append_assoc (be w (length xs)) xs rest)
    ∙ drop_at (be w (length xs)) (xs ++ rest) w (length-be w (length xs)) in (
      omega arith,
      says,
      ap (take (length xs)) behind ∙ take-append_seam xs rest,
      sym (drop-drop (length xs) (at + w) m) ∙ ap (drop (length xs)) behind ∙ drop-append_seam xs rest,
    )

-- the same where it is the last
pub vector-last : (w : ℕ) (m : List ℕ) (at : ℕ) → Bytes m → end_at w m at ≡ length m
    → (drop at m ≡ vector w (take (stated w (drop at m)) (drop (at + w) m))) × (writable w (take (stated w (drop at m)) (drop (at + w) m)) ≡ true)
vector-last w m at b fills =
    let read = vector-at w m at b (omega arith) in
    (read.0 ∙ rw (fills, drop-length) (append-nil _), read.1)

-- a header that was refused leaves no place
pub after-header : (v : Result Unit Refusal) (p : Option Part) (s n : ℕ) → after_header v p ≡ standing s n → (v ≡ Ok tt) × (p ≡ standing s n)
after-header (Ok tt) p s n e = (refl, e)
after-header (Err r) p s n e = absurd (at-refused None s n e refl)
