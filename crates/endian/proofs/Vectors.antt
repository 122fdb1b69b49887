-- The laws of vectors with their length in front, for every width w of the length field: `split` and `vector` are each other's inverse,
-- where the length is one that w bytes hold.
-- Assumes nothing.
use mathlib.Core.Path.{◌≡◌, sym, ap, ◌∙◌}
use Prim.Native.Nat.{ℕ, ◌+◌, ◌^◌, ◌≤◌, ◌<◌}
use native.Mathlib.Omega.{arith}
use native.Mathlib.Decide.{dec_le}
use mathlib.Core.Logic.{◌↔◌}
use mathlib.Core.Bool.{true, false}
use mathlib.Core.List.{List, ◌++◌, append_assoc}
use lib.ListN.{length, take, drop, length-append, length-drop, take-append-drop}
use lib.Seq.{take_at, drop_at, take-append_seam, length-take-le, drop-drop}
use borrow.Author.Tests.{lt-ltb, ltb-true, le-leb, lt-leb}
use Rattle.std.specs.Prelude.{None, Some}
use Rattle.endian.specs.Number.{be, Bytes}
use Rattle.endian.specs.Vector.{writable, vector, Split, stated, split}
use Rattle.endian.proofs.Numbers.{length-be, number-be-lt, number_lt, be-number-at, bytes_take}

pub length-vector : (w : ℕ) (xs : List ℕ) → length (vector w xs) ≡ w + length xs
length-vector w xs = length-append (be w (length xs)) xs ∙ rw length-be

-- ---- reading what was written

pub stated-vector : (w : ℕ) (xs rest : List ℕ) → writable w xs ≡ true → stated w (vector w xs ++ rest) ≡ length xs
stated-vector w xs rest h =
    rw (append_assoc, take_at _ _ w (length-be w (length xs))) (number-be-lt w (length xs) (ltb-true _ _ h))

pub split-vector : (w : ℕ) (xs rest : List ℕ) → writable w xs ≡ true
    → split w (vector w xs ++ rest) ≡ Some (record { contents = xs; rest = rest })
split-vector w xs rest h =
    let field : List ℕ = be w (length xs) in
    let all : vector w xs ++ rest ≡ field ++ (xs ++ rest) = append_assoc field xs rest in
    let fits : w + length xs ≤ length (vector w xs ++ rest) = simp (length-append, length-be) (omega arith) in
    let contents : take (length xs) (drop w (vector w xs ++ rest)) ≡ xs =
    rw (all, drop_at _ _ w (length-be w (length xs))) (take-append_seam xs rest) in
    let left : drop (w + length xs) (vector w xs ++ rest) ≡ rest = drop_at (vector w xs) rest _ (length-vector w xs) in
    simp (stated-vector w xs rest h, le-leb _ _ fits, contents, left)

-- ---- writing what was read

-- the parts that `split` cuts bs into, where they are there
vector-parts : (w : ℕ) (bs : List ℕ) → Bytes bs → w + stated w bs ≤ length bs
    → (bs ≡ vector w (take (stated w bs) (drop w bs)) ++ drop (w + stated w bs) bs) × (writable w (take (stated w bs) (drop w bs)) ≡ true)
vector-parts w bs h fits =
    let n : ℕ = stated w bs in
    let room : n ≤ length (drop w bs) = simp length-drop (omega arith) in
    let size : length (take n (drop w bs)) ≡ n = length-take-le n (drop w bs) room in
    let front : length (take w bs) ≡ w = length-take-le w bs (omega arith) in
    let field : be w n ≡ take w bs = be-number-at w (take w bs) (bytes_take w bs h) front in
    let small : n < 256 ^ w = rw front at (number_lt (take w bs) (bytes_take w bs h)) in
    let whole : take w bs ++ (take n (drop w bs) ++ drop (w + n) bs) ≡ bs =
    rw (← drop-drop n w bs, take-append-drop n (drop w bs)) (take-append-drop w bs) in
    (sym (rw (size, field, append_assoc) whole), rw size (lt-ltb _ _ small))

-- by whether the vector is there
module _ (w : ℕ) (bs : List ℕ) where
  split-there : w + stated w bs ≤ length bs
      → split w bs ≡ Some (record { contents = take (stated w bs) (drop w bs); rest = drop (w + stated w bs) bs })
  split-there fits = simp (le-leb _ _ fits)

  split-cut : length bs < w + stated w bs → split w bs ≡ None
  split-cut short = simp (lt-leb _ _ short)

pub vector-split : (w : ℕ) (bs : List ℕ) (s : Split) → Bytes bs → split w bs ≡ Some s
    → (bs ≡ vector w s.contents ++ s.rest) × (writable w s.contents ≡ true)
vector-split w bs s h e = elim (dec_le (w + stated w bs) (length bs)) [
  | yes fits ↦ read fits
  | no short ↦ absurd (none-there short)
]
  where
    read : w + stated w bs ≤ length bs → (bs ≡ vector w s.contents ++ s.rest) × (writable w s.contents ≡ true)
    read fits =
        let same : s ≡ record { contents = take (stated w bs) (drop w bs); rest = drop (w + stated w bs) bs } = cc (e, split-there w bs fits) in
        rw same (vector-parts w bs h fits)

    none-there : ¬ (w + stated w bs ≤ length bs) → ⊥
    none-there short = let z : ◌≡◌ {A = ℕ} 0 1 = cc (e, split-cut w bs (omega arith)) in omega arith

-- ---- what stands after a vector does not change how it is read

pub vector-injective : (w : ℕ) (xs ys rest rest' : List ℕ) → writable w xs ≡ true → writable w ys ≡ true
    → vector w xs ++ rest ≡ vector w ys ++ rest' → (xs ≡ ys) × (rest ≡ rest')
vector-injective w xs ys rest rest' hx hy e =
    let read : Split = record { contents = xs; rest = rest } in
    let read' : Split = record { contents = ys; rest = rest' } in
    let both : Some read ≡ Some read' = sym (split-vector w xs rest hx) ∙ ap (split w) e ∙ split-vector w ys rest' hy in
    let same : read ≡ read' = cc both in
    (ap (λ (s : Split). s.contents) same, ap (λ (s : Split). s.rest) same)

-- ---- cut off

-- `split` refuses exactly what is no vector with anything after it
pub split-none : (w : ℕ) (bs : List ℕ) → Bytes bs
    → (split w bs ≡ None) ↔ ((xs rest : List ℕ) → writable w xs ≡ true → bs ≡ vector w xs ++ rest → ⊥)
split-none w bs h = (there, back)
  where
    there : split w bs ≡ None → (xs rest : List ℕ) → writable w xs ≡ true → bs ≡ vector w xs ++ rest → ⊥
    there e xs rest ok b =
        let z : ◌≡◌ {A = ℕ} 0 1 = cc (e, b, split-vector w xs rest ok) in omega arith

    back : ((xs rest : List ℕ) → writable w xs ≡ true → bs ≡ vector w xs ++ rest → ⊥) → split w bs ≡ None
    back never = elim (dec_le (w + stated w bs) (length bs)) [
      | yes fits ↦ let parts =
          vector-parts w bs h fits in absurd (never (take (stated w bs) (drop w bs)) (drop (w + stated w bs) bs) parts.1 parts.0)
      | no short ↦ split-cut w bs (omega arith)
    ]

-- ---- over-long

-- contents that the length field can't state are never what `split` gives
pub split-writable : (w : ℕ) (bs : List ℕ) (s : Split) → Bytes bs → writable w s.contents ≡ false → split w bs ≡ Some s → ⊥
split-writable w bs s h long e =
    let z : ◌≡◌ {A = ℕ} 0 1 = cc (long, (vector-split w bs s h e).1) in omega arith
