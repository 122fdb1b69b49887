-- What `lists::copy` leaves, into a part of an array or into an array of the part's size, and a list that is filled from the front.
-- Assumes nothing.
use mathlib.Core.Path.{◌≡◌, sym, ◌∙◌}
use Prim.Native.Nat.{ℕ, suc, ◌+◌, ◌-◌, ◌≤◌, ◌<◌}
use native.Mathlib.Omega.{arith}
use native.Mathlib.Numerals.{add-one}
use mathlib.Core.List.{List, ◌++◌, append-nil}
use lib.ListN.{length, get_or, set, take, drop, replicate, length-replicate, drop_of_length-le}
use lib.Seq.{take-length, drop-length, take-suc, drop-cons, append_snoc, set_at, length-take-le}
use borrow.Rule.Slice.PartMut.{mid_of, put_mid, mid_len, Post-is}
use Rattle.lists.specs.Lists.{part}
use Rattle.lists.proofs.Parts.{length_part}

-- ---- a copy into a part

pub copied-in : (whole src last : List ℕ) (at end : ℕ) → at + length src ≡ end → end ≤ length whole
    → last ≡ take (length src) src ++ drop (length src) (mid_of at (end - at) whole)
    → put_mid at (end - at) whole last ≡ take at whole ++ (src ++ drop end whole)
copied-in whole src last at end e h copied =
    let size : length (mid_of at (end - at) whole) ≡ end - at = mid_len at end whole h in
    let full = drop_of_length-le (mid_of at (end - at) whole) {i = length src} (omega arith) in
    rw (copied, Post-is at end whole (omega arith), full, take-length src, append-nil src)

-- ---- a copy into an array

-- a part that was copied to an array of its size, which it fills
pub copied-part : (bs last : List ℕ) (at m n : ℕ) → m ≡ n → at + n ≤ length bs
    → last ≡ take (length (part at m bs)) (part at m bs) ++ drop (length (part at m bs)) (replicate n 0) → last ≡ part at n bs
copied-part bs last at m n same inside copied =
    let zeros : List ℕ = replicate n 0 in
    let size : length (part at m bs) ≡ length zeros = rw (same, length-replicate) (length_part bs at n inside) in
    copied ∙ rw (take-length (part at m bs), size, drop-length zeros, append-nil (part at m bs), same)

-- ---- filling

-- the front of d is the first i elements of v
abbrev pub filled : List ℕ → List ℕ → ℕ → List ℕ
filled v d i = take i v ++ drop i d

pub fill-turn : (v d : List ℕ) (i : ℕ) → i < length v → i < length d → set (filled v d i) i (get_or v i 0) ≡ filled v d (i + 1)
fill-turn v d i hv hd =
    rw (drop-cons d i 0 hd)
    (set_at (take i v) (get_or d i 0) (drop (suc i) d) (get_or v i 0) i (length-take-le i v (omega arith))
    ∙ sym (append_snoc (take i v) (get_or v i 0) (drop (suc i) d))
    ∙ rw (add-one i) (rw (take-suc v i 0 hv)))

pub filled-all : (v d : List ℕ) (i n : ℕ) → length v ≡ n → i ≡ n → filled v d i ≡ v ++ drop n d
filled-all v d i n whole end = rw (end, ← whole) (rw (take-length v))
