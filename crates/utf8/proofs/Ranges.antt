-- The two definitions of UTF-8 agree: by leading ones and character numbers (Utf8.antt), and by the table of byte ranges (Ranges.antt).
-- Assumes nothing.
use mathlib.Core.Path.{◌≡◌, refl, sym, ap, ◌∙◌}
use mathlib.Core.Logic.Iff
use mathlib.Core.Logic.{◌↔◌}
use Prim.Native.Nat.{ℕ, zero, suc, ◌+◌, ◌-◌, ◌*◌, ◌/◌, ◌^◌, ◌≤◌, ◌<◌}
use native.Mathlib.Omega.{arith}
use native.Mathlib.Decide.{dec_le}
use native.Mathlib.Numerals.{sub-one}
use mathlib.Core.Bool.{Bool, true, false, cond, not, ◌&&◌, ◌||◌, false≢true, and-eq-true_iff, and-false, or-true}
use mathlib.Core.List.{List, [], ◌∷◌, ◌++◌, flatten}
use lib.ListN.{length, take, drop, get_or, take-append-drop}
use lib.Seq.{take_at, drop_at}
use lib.Dec.{leb, eqb}
use lib.Count.{leading_length, leading_unique}
use borrow.Author.Tests.{eqb-true, eq-eqb, ne_eqb, leb-true, leb-false, le-leb, lt-leb, not-true}
use Rattle.lists.specs.Lists.{any, each, Each}
use Rattle.lists.proofs.Tests.{both}
use Rattle.lists.proofs.Every.{each-sound, each-complete}
use Rattle.utf8.specs.Ranges.{Range, syntax, fits, in_syntax, Text}
use Rattle.utf8.specs.Utf8.{leading_ones, size_of, size, row, tail, number, allowed, character, valid_after, valid_utf8}
use Rattle.utf8.proofs.Characters.{size_small, valid-next}

-- ---- tests, as facts

leb-iff : (a b : ℕ) → (leb a b ≡ true) ↔ (a ≤ b)
leb-iff a b = (leb-true a b, le-leb a b)

not-between-iff : (l h v : ℕ) → (not (leb l v && leb v h) ≡ true) ↔ (l ≤ v → h < v)
not-between-iff l h v = (
  λ e k. leb-false v h (rw (le-leb l v k) at (not-true (leb l v && leb v h) e)),
  λ f. elim (dec_le l v) [ yes k ↦ rw (le-leb l v k, lt-leb v h (f k)) | no k ↦ rw (lt-leb l v (omega arith)) ],
)

-- ---- the rows of the table

abbrev Fits : List Range → List ℕ → Type 0
Fits [] [] = Unit
Fits [] (b ∷ s) = ⊥
Fits (r ∷ rs) [] = ⊥
Fits (r ∷ rs) (b ∷ s) = ((r.low ≤ b) × (b ≤ r.high)) × Fits rs s

fits_iff : (rs : List Range) (s : List ℕ) → (fits rs s ≡ true) ↔ Fits rs s
fits_iff [] [] = (λ h. tt, λ h. refl)
fits_iff [] (b ∷ s) = (false≢true, λ h. absurd h)
fits_iff (r ∷ rs) [] = (false≢true, λ h. absurd h)
fits_iff (r ∷ rs) (b ∷ s) = simp (and-eq-true_iff, leb-iff, fits_iff rs s) Iff.rfl

-- a range for each byte
abbrev paired : List Range → List ℕ → Bool
paired [] [] = true
paired [] (b ∷ s) = false
paired (r ∷ rs) [] = false
paired (r ∷ rs) (b ∷ s) = paired rs s

fits-paired : (rs : List Range) (s : List ℕ) → Fits rs s → paired rs s ≡ true
fits-paired [] [] h = refl
fits-paired [] (b ∷ s) h = absurd h
fits-paired (r ∷ rs) [] h = absurd h
fits-paired (r ∷ rs) (b ∷ s) h = fits-paired rs s h.1

-- Q follows from each row that has a range for each of the bytes c
abbrev ByRow : List ℕ → Type 0 → List (List Range) → Type 0
ByRow c Q [] = Unit
ByRow c Q (row ∷ rows) = cond (paired row c) ((Fits row c → Q) × ByRow c Q rows) (ByRow c Q rows)

-- what follows from each row follows from the table
from-rows : (c : List ℕ) (Q : Type 0) (rows : List (List Range)) → ByRow c Q rows → any (λ row. fits row c) rows ≡ true → Q
from-rows c Q [] f h = absurd (false≢true h)
from-rows c Q (row ∷ rows) f h = go (fits row c) refl h (from-rows c Q rows (others (paired row c) f))
  where
    others : (t : Bool) → cond t ((Fits row c → Q) × ByRow c Q rows) (ByRow c Q rows) → ByRow c Q rows
    others true f = f.1
    others false f = f

    go : (t : Bool) → fits row c ≡ t → (t || any (λ row. fits row c) rows) ≡ true → (any (λ row. fits row c) rows ≡ true → Q) → Q
    go true e i later = let g = (fits_iff row c).0 e in (rw (fits-paired row c g) at f).0 g
    go false e i later = later i

-- bytes that fit the row i fit the table
to-rows : (c : List ℕ) (rows : List (List Range)) (i : ℕ) → (i < length rows) × Fits (get_or rows i []) c → any (λ row. fits row c) rows ≡ true
to-rows c [] i h = absurd (omega arith)
to-rows c (row ∷ rows) zero h = rw ((fits_iff row c).1 h.1)
to-rows c (row ∷ rows) (suc i) h = rw (to-rows c rows i (omega arith, h.1)) (or-true (fits row c))

-- ---- the first byte

-- the byte begins with k one bits
abbrev Ones : ℕ → ℕ → Type 0
Ones k a = (255 - a < 2 ^ (8 - k)) × (2 ^ (8 - k) ≤ 2 * (255 - a) + 1)

ones_sound : (a : ℕ) → Ones (leading_ones a) a
ones_sound a =
    let t = leading_length 8 (255 - a) (omega arith) in
    let below : t.0 ≡ 8 - leading_ones a = omega arith in
    (rw below at t.2, rw below at t.3)

ones-complete : (k a : ℕ) → k ≤ 8 → Ones k a → leading_ones a ≡ k
ones-complete k a few h = sym (leading_unique 8 (255 - a) k (8 - k) (omega arith) h.0 h.1)

-- how many one bits a character of n bytes begins with
abbrev ones_of : ℕ → ℕ
ones_of n = cond (eqb n 1) 0 n

ones-of-size : (k n : ℕ) → size_of k ≡ n → 0 < n → k ≡ ones_of n
ones-of-size zero n e some = rw (← e)
ones-of-size (suc zero) n e some = absurd (omega arith)
ones-of-size (suc (suc zero)) n e some = rw (← e)
ones-of-size (suc (suc (suc zero))) n e some = rw (← e)
ones-of-size (suc (suc (suc (suc zero)))) n e some = rw (← e)
ones-of-size (suc (suc (suc (suc (suc k))))) n e some = absurd (omega (arith, many (suc (suc (suc (suc (suc k))))) (omega arith)))
  where
    many : (k : ℕ) → 4 < k → size_of k ≡ 0
    many k h = simp (ne_eqb k 0 (λ z. omega arith), lt-leb k 4 h, and-false)

-- ---- one character

module _ (a : ℕ) (s : List ℕ) where
  abbrev n : ℕ
  n = length (a ∷ s)

  abbrev v : ℕ
  v = number (row n a).bits s

  -- what `character` tests
  abbrev Facts : Type 0
  Facts = Ones (ones_of n) a × Each (λ b. b / 64 ≡ 2) s × ((row n a).least ≤ v) × (v ≤ 0x10FFFF) × (0xD800 ≤ v → 0xDFFF < v)

  character-size : character (a ∷ s) ≡ true → size a ≡ n
  character-size h = eqb-true (size a) n ((and-eq-true_iff (eqb (size a) n) _).0 h).0

  character-sound : character (a ∷ s) ≡ true → Facts
  character-sound h =
      let k : leading_ones a ≡ ones_of n = ones-of-size (leading_ones a) n (character-size h) (omega arith) in
      let t = (and-eq-true_iff (each tail s) _).0 (rw (character-size h) at ((and-eq-true_iff (eqb (size a) n) _).0 h).1) in
      let w = simp (and-eq-true_iff, leb-iff, not-between-iff) at t.1 in
      (rw (← k) (ones_sound a), each-sound tail _ (λ b g. omega (arith, eqb-true)) s t.0, w.0.0, w.0.1, w.1)

  character-complete : size_of (ones_of n) ≡ n → ones_of n ≤ 8 → Facts → character (a ∷ s) ≡ true
  character-complete e few f =
      let size_is : size a ≡ n = ap size_of (ones-complete (ones_of n) a few f.0) ∙ e in
      let w : allowed (row n a).least v ≡ true = simp (and-eq-true_iff, leb-iff, not-between-iff) ((f.2, f.3), f.4) in
      rw size_is (both (eq-eqb n n refl) (both (each-complete tail _ (λ b g. omega (arith, eq-eqb)) s f.1) w))

  character-from-rows : (size_of (ones_of n) ≡ n) × (ones_of n ≤ 8) × ByRow (a ∷ s) Facts syntax → in_syntax (a ∷ s) ≡ true → character (a ∷ s) ≡ true
  character-from-rows f h = character-complete f.0 f.1 (from-rows (a ∷ s) Facts syntax f.2 h)

syntax-to-character : (c : List ℕ) → in_syntax c ≡ true → character c ≡ true
syntax-to-character [] = λ h. h
syntax-to-character (a ∷ []) = character-from-rows a [] (omega arith)
syntax-to-character (a ∷ b ∷ []) = character-from-rows a (b ∷ []) (omega arith)
syntax-to-character (a ∷ b ∷ c ∷ []) = character-from-rows a (b ∷ c ∷ []) (omega arith)
syntax-to-character (a ∷ b ∷ c ∷ d ∷ []) = character-from-rows a (b ∷ c ∷ d ∷ []) (omega arith)
syntax-to-character (a ∷ b ∷ c ∷ d ∷ e ∷ s) = from-rows (a ∷ b ∷ c ∷ d ∷ e ∷ s) _ syntax tt

character-to-syntax : (c : List ℕ) → character c ≡ true → in_syntax c ≡ true
character-to-syntax [] h = h
character-to-syntax (a ∷ []) h = let f = character-sound a [] h in to-rows (a ∷ []) syntax 0 (omega arith)
character-to-syntax (a ∷ b ∷ []) h = let f = character-sound a (b ∷ []) h in to-rows (a ∷ b ∷ []) syntax 1 (omega arith)
character-to-syntax (a ∷ b ∷ c ∷ []) h =
    let f = character-sound a (b ∷ c ∷ []) h in
    let at = to-rows (a ∷ b ∷ c ∷ []) syntax in
    elim (dec_le a 0xE0) [
      | yes p ↦ at 2 (omega arith)
      | no p ↦ elim (dec_le a 0xEC) [
        | yes q ↦ at 3 (omega arith)
        | no q ↦ elim (dec_le a 0xED) [
          | yes r ↦ elim (dec_le b 0x9F) [ yes l ↦ at 4 (omega arith) | no l ↦ absurd (omega (arith, f.4 (omega arith))) ]
          | no r ↦ at 5 (omega arith)
        ]
      ]
    ]
character-to-syntax (a ∷ b ∷ c ∷ d ∷ []) h =
    let f = character-sound a (b ∷ c ∷ d ∷ []) h in
    let at = to-rows (a ∷ b ∷ c ∷ d ∷ []) syntax in
    elim (dec_le a 0xF0) [
      | yes p ↦ at 6 (omega arith)
      | no p ↦ elim (dec_le a 0xF3) [ yes q ↦ at 7 (omega arith) | no q ↦ at 8 (omega arith) ]
    ]
character-to-syntax (a ∷ b ∷ c ∷ d ∷ e ∷ s) h = absurd (omega (arith, character-size a (b ∷ c ∷ d ∷ e ∷ s) h, size_small (leading_ones a)))

-- the bytes of one character are those that fit a row of the table
pub character-in-syntax : (c : List ℕ) → character c ≡ in_syntax c
character-in-syntax c = agree (character c) (in_syntax c) (character-to-syntax c) (syntax-to-character c)
  where
    agree : (p q : Bool) → (p ≡ true → q ≡ true) → (q ≡ true → p ≡ true) → p ≡ q
    agree true q to from = sym (to refl)
    agree false true to from = from refl
    agree false false to from = refl

-- ---- a text

text-cons : (c : List ℕ) {s : List ℕ} → character c ≡ true → Text s → Text (c ++ s)
unfolding flatten
text-cons c good rest = record {
  characters = c ∷ rest.characters;
  good = both (sym (character-in-syntax c) ∙ good) rest.good;
  bytes = ap (λ (l : List ℕ). c ++ l) rest.bytes;
}

text-after : (s : List ℕ) (k : ℕ) → valid_after k s ≡ true → Text (drop k s)
unfolding flatten
text-after [] zero h = record { characters = []; good = refl; bytes = refl }
text-after [] (suc k) h = absurd (false≢true h)
text-after (b ∷ s) zero h =
    let t = (and-eq-true_iff (character (take (size b) (b ∷ s))) _).0 h in go (size b) t.0 (text-after s (size b - 1) t.1)
  where
    go : (n : ℕ) → character (take n (b ∷ s)) ≡ true → Text (drop (n - 1) s) → Text (b ∷ s)
    go zero good rest = absurd (false≢true good)
    go (suc n) good rest = rw take-append-drop at (text-cons (take (suc n) (b ∷ s)) good (rw sub-one at rest))
text-after (b ∷ s) (suc k) h = text-after s k h

-- a text behind a character is as good as without it
valid-behind : (c s : List ℕ) → character c ≡ true → valid_after 0 (c ++ s) ≡ valid_after 0 s
valid-behind [] s h = absurd (false≢true h)
valid-behind (a ∷ c) s h =
    let e : length (a ∷ c) ≡ size a = sym (character-size a c h) in
    valid-next (a ∷ c ++ s) (size a) (omega arith) refl (rw (take_at (a ∷ c) s (size a) e) h)
    ∙ ap (λ (l : List ℕ). valid_after 0 l) (drop_at (a ∷ c) s (size a) e)

valid-flatten : (cs : List (List ℕ)) → each in_syntax cs ≡ true → valid_after 0 (flatten cs) ≡ true
unfolding flatten
valid-flatten [] h = refl
valid-flatten (c ∷ cs) h =
    let t = (and-eq-true_iff (in_syntax c) (each in_syntax cs)).0 h in
    valid-behind c (flatten cs) (character-in-syntax c ∙ t.0) ∙ valid-flatten cs t.1

-- a valid text is one that the table makes
pub valid-text : (s : List ℕ) → (valid_utf8 s ≡ true) ↔ Text s
unfolding valid_utf8
valid-text s = (text-after s 0, λ t. rw t.bytes (valid-flatten t.characters t.good))
