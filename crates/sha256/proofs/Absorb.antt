-- Absorbing by more than a byte at a time: a part that stays in the block, one that completes it, whole blocks, and more than the limit.
-- Assumes nothing.
use mathlib.Core.Path.{◌≡◌, refl, sym, ap, ◌∙◌}
use Prim.Native.Nat.{ℕ, zero, suc, ◌+◌, ◌-◌, ◌*◌, ◌/◌, ◌%◌, ◌≤◌, ◌<◌}
use native.Mathlib.Nat.{add-zero}
use native.Mathlib.Decide.{dec_le}
use native.Mathlib.Omega.{arith}
use mathlib.Core.List.{List, [], ◌∷◌, ◌++◌, append_assoc}
use lib.ListN.{length, take, drop, set, length-set, length-drop, take-append-drop, drop_of_length-le}
use lib.Seq.{take-suc-set, drop-set-lt, set_split, length-take-le}
use borrow.Author.Tests.{le-leb, lt-leb, eq-eqb, ne_eqb}
use Rattle.sha256.specs.declared.Sha256.{Sha256}
use Rattle.sha256_block.specs.Block.{compress}
use Rattle.sha256_block.specs.Blocks.{blocks, parse, hash_blocks}
use Rattle.sha256.specs.Hash.{limit}
use Rattle.sha256.specs.State.{absorb, absorb_byte, over, clear}

-- absorbing in parts is absorbing the whole
pub absorb-append : (s : Sha256) (xs ys : List ℕ) → absorb s (xs ++ ys) ≡ absorb (absorb s xs) ys
unfolding absorb
absorb-append s [] ys = refl
absorb-append s (x ∷ xs) ys = absorb-append (absorb_byte s x) xs ys

-- ---- one byte

pub byte-held : (s : Sha256) (b : ℕ) → s.count < limit → s.count % 64 < 63
    → absorb_byte s b ≡ record { words = s.words; block = set s.block (s.count % 64) b; count = s.count + 1 }
unfolding absorb_byte
byte-held s b h k =
    let other : s.count % 64 ≡ 63 → ⊥ = omega arith in
    rw (lt-leb limit s.count h, ne_eqb (s.count % 64) 63 other)

pub byte-completes : (s : Sha256) (b : ℕ) → s.count < limit → s.count % 64 ≡ 63 → length s.block ≡ 64
    → absorb_byte s b ≡ record { words = compress s.words (take 63 s.block ++ (b ∷ [])); block = clear; count = s.count + 1 }
unfolding absorb_byte
byte-completes s b h k l =
    let whole : set s.block 63 b ≡ take 63 s.block ++ (b ∷ []) =
    rw (set_split s.block 63 b (omega arith), drop_of_length-le s.block {i = 64} (omega arith)) in
    rw (lt-leb limit s.count h, eq-eqb (s.count % 64) 63 k, whole)

byte-over : (s : Sha256) (b : ℕ) → limit ≤ s.count → absorb_byte s b ≡ over
unfolding absorb_byte
byte-over s b h = rw (le-leb limit s.count h)

pub byte-count : (s : Sha256) (b : ℕ) → s.count < limit → (absorb_byte s b).count ≡ s.count + 1
unfolding absorb_byte
byte-count s b h = elim (dec_le (s.count % 64) 62) [ yes k ↦ held k | no k ↦ full k ]
  where
    held : s.count % 64 ≤ 62 → (absorb_byte s b).count ≡ s.count + 1
    held k = rw (byte-held s b h (omega arith))

    full : ¬ (s.count % 64 ≤ 62) → (absorb_byte s b).count ≡ s.count + 1
    full k =
        let at : s.count % 64 ≡ 63 = omega arith in
        rw (lt-leb limit s.count h, eq-eqb (s.count % 64) 63 at)

-- ---- the count

pub absorb-count : (s : Sha256) (xs : List ℕ) → s.count + length xs ≤ limit → (absorb s xs).count ≡ s.count + length xs
unfolding absorb
absorb-count s [] h = sym (add-zero s.count)
absorb-count s (x ∷ xs) h =
    let more : (absorb_byte s x).count ≡ s.count + 1 = byte-count s x (omega arith) in
    absorb-count (absorb_byte s x) xs (omega arith) ∙ omega arith

-- ---- a part that the block has room for

unfoldable pub filled : Sha256 → List ℕ → Sha256
filled s xs =
    record {
      words = s.words;
      block = take (s.count % 64) s.block ++ (xs ++ drop (s.count % 64 + length xs) s.block);
      count = s.count + length xs;
    }

pub absorb-held : (s : Sha256) (xs : List ℕ) → s.count + length xs ≤ limit → s.count % 64 + length xs < 64 → length s.block ≡ 64
    → absorb s xs ≡ filled s xs
unfolding absorb filled
absorb-held s [] h k l = rw (add-zero s.count, add-zero (s.count % 64), take-append-drop (s.count % 64) s.block)
absorb-held s (x ∷ xs) h k l =
    let at = s.count % 64 in
    let next : Sha256 = record { words = s.words; block = set s.block at x; count = s.count + 1 } in
    let held : (s.count + 1) % 64 ≡ suc at = omega arith in
    let total : s.count + 1 + length xs ≡ s.count + suc (length xs) = omega arith in
    let past : suc at + length xs ≡ at + suc (length xs) = omega arith in
    rw (
      byte-held s x (omega arith) (omega arith),
      absorb-held next xs (omega arith) (omega arith) (length-set s.block at x ∙ l),
      held,
      total,
      past,
      take-suc-set s.block at x (omega arith),
      drop-set-lt (at + suc (length xs)) s.block at x (omega arith),
      append_assoc (take at s.block) (x ∷ []) (xs ++ drop (at + suc (length xs)) s.block),
    )

-- ---- a part that completes the block

unfoldable pub completed : Sha256 → List ℕ → Sha256
completed s xs = record { words = compress s.words (take (s.count % 64) s.block ++ xs); block = clear; count = s.count + length xs }

completes-last : (s : Sha256) (x : ℕ) → s.count < limit → s.count % 64 ≡ 63 → length s.block ≡ 64 → absorb_byte s x ≡ completed s (x ∷ [])
unfolding completed
completes-last s x h k l = rw (byte-completes s x h k l, k)

completes-first : (s : Sha256) (x : ℕ) (xs : List ℕ) → s.count < limit → s.count % 64 < 63 → length s.block ≡ 64
    → ((next : Sha256) → next.count ≡ s.count + 1 → length next.block ≡ 64 → absorb next xs ≡ completed next xs)
    → absorb (absorb_byte s x) xs ≡ completed s (x ∷ xs)
unfolding completed
completes-first s x xs h k l then =
    let at = s.count % 64 in
    let next : Sha256 = record { words = s.words; block = set s.block at x; count = s.count + 1 } in
    let held : (s.count + 1) % 64 ≡ suc at = omega arith in
    let total : s.count + 1 + length xs ≡ s.count + suc (length xs) = omega arith in
    rw (
      byte-held s x h k,
      then next refl (length-set s.block at x ∙ l),
      held,
      total,
      take-suc-set s.block at x (omega arith),
      append_assoc (take at s.block) (x ∷ []) xs,
    )

pub absorb-completes : (s : Sha256) (xs : List ℕ) → s.count + length xs ≤ limit → s.count % 64 + length xs ≡ 64 → length s.block ≡ 64
    → absorb s xs ≡ completed s xs
unfolding absorb
absorb-completes s [] h k l = absurd (omega arith)
absorb-completes s (x ∷ []) h k l = completes-last s x (omega arith) (omega arith) l
absorb-completes s (x ∷ y ∷ xs) h k l =
    completes-first s x (y ∷ xs) (omega arith) (omega arith) l (λ next c m. absorb-completes next (y ∷ xs) (omega arith) (omega arith) m)

-- ---- whole blocks

-- the block after n whole blocks: compressing clears it
abbrev pub kept : ℕ → List ℕ → List ℕ
kept zero block = block
kept (suc n) block = clear

kept-clear : (n : ℕ) → kept n clear ≡ clear
kept-clear zero = refl
kept-clear (suc n) = refl

unfoldable pub advanced : Sha256 → ℕ → List ℕ → Sha256
advanced s n xs = record { words = hash_blocks s.words (blocks n xs); block = kept n s.block; count = s.count + length xs }

advanced-none : (s : Sha256) → s ≡ advanced s zero []
unfolding advanced blocks hash_blocks
advanced-none s = rw (add-zero s.count)

-- a block by itself
first_block : (s : Sha256) (xs : List ℕ) → s.count + 64 ≤ limit → s.count % 64 ≡ 0 → length xs ≡ 64 → length s.block ≡ 64
    → absorb s xs ≡ record { words = compress s.words xs; block = clear; count = s.count + 64 }
unfolding completed
first_block s xs h k e l = rw (absorb-completes s xs (omega arith) (omega arith) l, k, e)

blocks-first : (n : ℕ) (s next : Sha256) (xs : List ℕ)
    → next ≡ record { words = compress s.words (take 64 xs); block = clear; count = s.count + 64 }
    → 64 ≤ length xs → absorb next (drop 64 xs) ≡ advanced next n (drop 64 xs) → absorb next (drop 64 xs) ≡ advanced s (suc n) xs
unfolding advanced blocks hash_blocks
blocks-first n s next xs e h then =
    let total : s.count + 64 + (length xs - 64) ≡ s.count + length xs = omega arith in
    then ∙ rw (e, kept-clear n, length-drop 64 xs, total)

pub absorb-blocks : (n : ℕ) (s : Sha256) (xs : List ℕ)
    → s.count + length xs ≤ limit → s.count % 64 ≡ 0 → length xs ≡ 64 * n → length s.block ≡ 64
    → absorb s xs ≡ advanced s n xs
unfolding absorb
absorb-blocks zero s [] h k e l = advanced-none s
absorb-blocks zero s (x ∷ xs) h k e l = absurd (omega arith)
absorb-blocks (suc n) s xs h k e l =
    let first : length (take 64 xs) ≡ 64 = length-take-le 64 xs (omega arith) in
    let left : length (drop 64 xs) ≡ length xs - 64 = length-drop 64 xs in
    let next : Sha256 = record { words = compress s.words (take 64 xs); block = clear; count = s.count + 64 } in
    ap (absorb s) (sym (take-append-drop 64 xs))
    ∙ absorb-append s (take 64 xs) (drop 64 xs)
    ∙ rw (first_block s (take 64 xs) (omega arith) k first l)
    (blocks-first n s next xs refl (omega arith) (absorb-blocks n next (drop 64 xs) (omega arith) (omega arith) (omega arith) refl))

kept-none : (n : ℕ) (block : List ℕ) → 1 ≤ n → kept n block ≡ clear
kept-none zero block h = absurd (omega arith)
kept-none (suc n) block h = refl

-- the whole blocks at the front of a part, and then what is left of it
pub absorb-straight : (s : Sha256) (xs : List ℕ) (n : ℕ) → s.count + length xs ≤ limit → s.count % 64 ≡ 0 → length s.block ≡ 64
    → n % 64 ≡ 0 → 64 ≤ n → n ≤ length xs
    → absorb s xs ≡ absorb (record { words = hash_blocks s.words (parse (take n xs)); block = clear; count = s.count + n }) (drop n xs)
unfolding advanced parse
absorb-straight s xs n h k l m some fits =
    let size : length (take n xs) ≡ n = length-take-le n xs fits in
    ap (absorb s) (sym (take-append-drop n xs))
    ∙ absorb-append s (take n xs) (drop n xs)
    ∙ rw (absorb-blocks (n / 64) s (take n xs) (omega arith) k (omega arith) l, size, kept-none (n / 64) s.block (omega arith))

-- ---- more than the limit

absorb-over : (xs : List ℕ) → absorb over xs ≡ over
unfolding absorb over
absorb-over [] = refl
absorb-over (x ∷ xs) = rw (byte-over over x (omega arith)) (absorb-over xs)

past_more : (s : Sha256) (x : ℕ) (xs : List ℕ) → (s.count < limit → absorb (absorb_byte s x) xs ≡ over) → absorb (absorb_byte s x) xs ≡ over
past_more s x xs then = elim (dec_le limit s.count) [ yes k ↦ rw (byte-over s x k) (absorb-over xs) | no k ↦ then (omega arith) ]

past-cons : (s : Sha256) (x : ℕ) (xs : List ℕ) → limit < s.count + suc (length xs) → absorb s (x ∷ xs) ≡ over
unfolding absorb
past-cons s x [] h = byte-over s x (omega arith)
past-cons s x (y ∷ ys) h = past_more s x (y ∷ ys) (λ k. past-cons (absorb_byte s x) y ys (rw (byte-count s x k) (omega arith)))

pub absorb-past : (s : Sha256) (xs : List ℕ) → 0 < length xs → limit < s.count + length xs → absorb s xs ≡ over
absorb-past s [] some h = absurd (omega arith)
absorb-past s (x ∷ xs) some h = past-cons s x xs h

-- ---- nothing

pub absorb-none : (s : Sha256) (xs : List ℕ) → length xs ≡ 0 → absorb s xs ≡ s
unfolding absorb
absorb-none s [] e = refl
absorb-none s (x ∷ xs) e = absurd (omega arith)
