-- Laws of UTF-8 texts: how a text goes on after its first character.
-- Assumes nothing.
use mathlib.Core.Path.{◌≡◌, refl, sym, ◌∙◌}
use Prim.Native.Nat.{ℕ, zero, suc, ◌+◌, ◌-◌, ◌*◌, ◌%◌, ◌≤◌, ◌<◌}
use native.Mathlib.Omega.{arith}
use native.Mathlib.Decide.{dec_le}
use native.Mathlib.Nat.{le_of_suc-le-suc}
use native.Mathlib.Numerals.{sub-one}
use mathlib.Core.Bool.{Bool, true, false, cond, ◌&&◌, and-false, true≢false}
use mathlib.Core.List.{List, [], ◌∷◌}
use lib.ListN.{length, take, drop, get_or}
use lib.Seq.{take_all, length-take-le}
use lib.Dec.{leb, eqb}
use borrow.Author.Tests.{eq-eqb, ne_eqb, lt-leb}
use Rattle.lists.specs.Lists.{each}
use Rattle.lists.proofs.Walks.{left-cons}
use Rattle.utf8.specs.declared.Row.{Row}
use Rattle.utf8.specs.Utf8.{size_of, size, row, tail, number, allowed, character, valid_after}

-- ---- the bytes of one character

-- a character that is cut off is none
pub cut_off : (s : List ℕ) (n : ℕ) → n ≡ size (get_or s 0 0) → 0 < length s → length s < n → character (take n s) ≡ false
cut_off s n e some h = rw (take_all n s (omega arith)) (short s some (rw e at h))
  where
    short : (s : List ℕ) → 0 < length s → length s < size (get_or s 0 0) → character s ≡ false
    short [] p h = refl
    short (a ∷ s) p h = rw (ne_eqb (size a) (suc (length s)) (λ e. omega arith))

-- of a character's bytes those that are left, behind a number made of the bytes before them, are as good as the whole
abbrev pub Left : Bool → ℕ → ℕ → List ℕ → Type 0
Left whole least v left = whole ≡ (each tail left && allowed least (number v left))

pub left-start : (s : List ℕ) (n : ℕ) → n ≡ size (get_or s 0 0) → n ≤ length s → 0 < n
    → Left (character (take n s)) (row n (get_or s 0 0)).least (row n (get_or s 0 0)).bits (take (n - 1) (drop 1 s))
left-start [] n e h some = absurd (omega arith)
left-start (a ∷ s) zero e h some = absurd (omega arith)
left-start (a ∷ s) (suc m) e h some =
    let all : size a ≡ suc (length (take m s)) = omega (arith, length-take-le m s (le_of_suc-le-suc h)) in
    rw (sub-one, eq-eqb (size a) (suc (length (take m s))) all) (rw (← e))

pub left-more : (whole : Bool) (least v : ℕ) (s : List ℕ) (i : ℕ) → i < length s → tail (get_or s i 0) ≡ true → Left whole least v (drop i s)
    → Left whole least (v * 64 + get_or s i 0 % 64) (drop (i + 1) s)
left-more whole least v s i inside good now = now ∙ rw (left-cons s i inside) (rw good)

-- how much the number of i bytes can be
abbrev pub most : ℕ → ℕ
most zero = 0
most (suc zero) = 31
most (suc (suc zero)) = 2047
most (suc (suc (suc zero))) = 131071
most (suc (suc (suc (suc i)))) = 8388607

pub most-first : (n a : ℕ) → 2 ≤ n → (row n a).bits ≤ 31
most-first n a h = rw (ne_eqb n 1 (λ e. omega arith)) (go (eqb n 2) (eqb n 3) _ _ _ (omega arith) (omega arith) (omega arith))
  where
    go : (t u : Bool) (x y z : Row) → x.bits ≤ 31 → y.bits ≤ 31 → z.bits ≤ 31 → (cond t x (cond u y z)).bits ≤ 31
    go true u x y z p q r = p
    go false true x y z p q r = q
    go false false x y z p q r = r

pub most-more : (i v b : ℕ) → 1 ≤ i → i < 4 → v ≤ most i → v * 64 + b % 64 ≤ most (i + 1)
most-more zero v b h k l = absurd (omega arith)
most-more (suc zero) v b h k l = omega arith
most-more (suc (suc zero)) v b h k l = omega arith
most-more (suc (suc (suc zero))) v b h k l = omega arith
most-more (suc (suc (suc (suc i)))) v b h k l = absurd (omega arith)

-- ---- a text

-- a character ends within the text
pub whole : (s : List ℕ) (n : ℕ) → 0 < length s → n ≡ size (get_or s 0 0) → character (take n s) ≡ true → n ≤ length s
whole s n some e good = elim (dec_le n (length s)) [
  | yes h ↦ h
  | no h ↦ absurd (true≢false (sym good ∙ cut_off s n e some (omega arith)))
]

valid-skip : (k : ℕ) (s : List ℕ) → k ≤ length s → valid_after k s ≡ valid_after 0 (drop k s)
valid-skip zero s h = refl
valid-skip (suc k) [] h = absurd (omega arith)
valid-skip (suc k) (b ∷ s) h = valid-skip k s (le_of_suc-le-suc h)

-- after a character the text is as good as the rest
pub valid-next : (s : List ℕ) (n : ℕ) → 0 < length s → n ≡ size (get_or s 0 0) → character (take n s) ≡ true
    → valid_after 0 s ≡ valid_after 0 (drop n s)
valid-next [] n some e good = absurd (omega arith)
valid-next (b ∷ s) zero some e good = absurd (true≢false (sym good))
valid-next (b ∷ s) (suc m) some e good =
    rw (← e) (rw (good, sub-one) (valid-skip m s (le_of_suc-le-suc (whole (b ∷ s) (suc m) some e good))))

-- before no character no text is good
pub valid-stop : (s : List ℕ) (n : ℕ) → 0 < length s → n ≡ size (get_or s 0 0) → character (take n s) ≡ false → valid_after 0 s ≡ false
valid-stop [] n some e bad = absurd (omega arith)
valid-stop (b ∷ s) n some e bad = rw (← e) (rw bad)

-- no character has more than four bytes
pub size_small : (ones : ℕ) → size_of ones ≤ 4
size_small n = either (eqb n 0) 1 _ (omega arith) inner
  where
    either : (t : Bool) (x y : ℕ) → x ≤ 4 → y ≤ 4 → cond t x y ≤ 4
    either true x y p q = p
    either false x y p q = q

    inner : cond (leb 2 n && leb n 4) n 0 ≤ 4
    inner = elim (dec_le n 4) [
      | yes h ↦ either (leb 2 n && leb n 4) n 0 h (omega arith)
      | no h ↦ simp (lt-leb n 4 (omega arith), and-false) (omega arith)
    ]
