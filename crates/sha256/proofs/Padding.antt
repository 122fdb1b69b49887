-- Padding: how many zero bytes it takes, and the one or two blocks that it makes of what a block holds.
-- Assumes nothing.
use mathlib.Core.Path.{◌≡◌, refl, sym}
use Prim.Native.Nat.{ℕ, zero, suc, ◌+◌, ◌-◌, ◌*◌, ◌%◌, ◌≤◌, ◌<◌}
use native.Mathlib.Omega.{arith}
use mathlib.Core.List.{List, ◌∷◌, ◌++◌, append_assoc}
use lib.ListN.{length, take, drop, set, replicate, length-append, length-replicate, replicate-append-replicate}
use lib.Seq.{take_at, set_at, take-length}
use Rattle.endian.specs.Number.{be}
use Rattle.sha256.specs.Message.{zeros, padding}

-- `zeros n` is the smallest number of zero bytes that brings the byte 80 behind n bytes to eight bytes before a block's end (5.1.1)
pub zeros-fill : (n : ℕ) → (n + 1 + zeros n) % 64 ≡ 56
zeros-fill n = omega arith

pub zeros-least : (n z : ℕ) → (n + 1 + z) % 64 ≡ 56 → zeros n ≤ z
zeros-least n z h = omega arith

-- ---- the block with its byte 80

pub drop-replicate : (n k a : ℕ) → drop k (replicate n a) ≡ replicate (n - k) a
drop-replicate n zero a = let same : n - 0 ≡ n = omega arith in rw same
drop-replicate zero (suc k) a = let same : 0 - suc k ≡ 0 = omega arith in rw same
drop-replicate (suc n) (suc k) a = let same : suc n - suc k ≡ n - k = omega arith in rw same (drop-replicate n k a)

pub marked-is : (front last : List ℕ) → length front < 64 → last ≡ take (length front) front ++ drop (length front) (replicate 64 0)
    → set last (length front) 0x80 ≡ front ++ (0x80 ∷ replicate (63 - length front) 0)
marked-is front last h e =
    let one : 64 - length front ≡ suc (63 - length front) = omega arith in
    rw (e, take-length front, drop-replicate 64 (length front) 0, one) (set_at front 0 (replicate (63 - length front) 0) 0x80 (length front) refl)

-- ---- the blocks

-- Below, `front` is what the block holds.

mark : ℕ → List ℕ
mark z = 0x80 ∷ replicate z 0

pub length_marked : (front : List ℕ) (z : ℕ) → length (front ++ (0x80 ∷ replicate z 0)) ≡ length front + suc z
length_marked front z = rw (length-append front (0x80 ∷ replicate z 0), length-replicate {A = ℕ} z 0)

mark-more : (front : List ℕ) (z k : ℕ) → front ++ mark (z + k) ≡ (front ++ mark z) ++ replicate k 0
unfolding mark
mark-more front z k = rw (append_assoc front (0x80 ∷ replicate z 0) (replicate k 0), replicate-append-replicate {A = ℕ} z k 0)

mark-then : (front size : List ℕ) (z : ℕ) → front ++ (mark z ++ size) ≡ (front ++ mark z) ++ size
mark-then front size z = sym (append_assoc front (mark z) size)

-- the length has room: one block
pub padding-one : (front : List ℕ) (n : ℕ) → length front ≡ n % 64 → n % 64 < 56
    → front ++ padding n ≡ take 56 (front ++ (0x80 ∷ replicate (63 - n % 64) 0)) ++ be 8 (8 * n)
unfolding mark
padding-one front n e h =
    let z = 55 - n % 64 in
    let needed : (119 - n % 64) % 64 ≡ z = omega arith in
    let more : 63 - n % 64 ≡ z + 8 = omega arith in
    let first : length (front ++ mark z) ≡ 56 = rw (length_marked front z) (omega arith) in
    rw (needed, more, mark-then front (be 8 (8 * n)) z, mark-more front z 8, take_at (front ++ mark z) (replicate 8 0) 56 first)

-- the length has no room: two blocks
pub padding-two : (front : List ℕ) (n : ℕ) → length front ≡ n % 64 → 56 ≤ n % 64
    → front ++ padding n ≡ (front ++ (0x80 ∷ replicate (63 - n % 64) 0)) ++ (take 56 (replicate 64 0) ++ be 8 (8 * n))
unfolding mark
padding-two front n e h =
    let z = 63 - n % 64 in
    let needed : (119 - n % 64) % 64 ≡ z + 56 = omega arith in
    rw (needed, mark-then front (be 8 (8 * n)) (z + 56), mark-more front z 56, append_assoc (front ++ mark z) (replicate 56 0) (be 8 (8 * n)))
