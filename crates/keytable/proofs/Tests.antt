-- The tests of a byte, an identity and a key say what the declarative definitions say.
-- Assumes nothing.
use mathlib.Core.Path.{◌≡◌, refl, sym, ◌∙◌}
use mathlib.Core.Logic.{inl, inr}
use Prim.Native.Nat.{ℕ, ◌+◌, ◌-◌, ◌/◌, ◌%◌, ◌≤◌, ◌<◌}
use native.Mathlib.Omega.{arith}
use mathlib.Core.Bool.{Bool, true, false, not, ◌&&◌, and-false, true≢false}
use mathlib.Core.List.{List}
use lib.ListN.{length}
use lib.Dec.{leb, eqb}
use borrow.Author.Tests.{leb-true, le-leb, lt-leb, eqb-true, eqb-false, eq-eqb, ne_eqb, lt-ltb, not-true}
use Rattle.utf8.specs.Utf8.{valid_utf8}
use Rattle.lists.specs.Lists.{each}
use Rattle.keytable.specs.Table.{colon, between, hex_digit, valid_key, plain, valid_identity}
use Rattle.keytable.specs.WellFormed.{Plain, Identity, HexDigit, Key}
use Rattle.lists.proofs.Tests.{and_left, and_right, both}
use Rattle.lists.proofs.Every.{each-sound, each-complete}

-- ---- ranges

pub between-sound : (low high n : ℕ) → between low high n ≡ true → (low ≤ n) × (n ≤ high)
between-sound low high n h =
    (leb-true low n (and_left (leb low n) (leb n high) h), leb-true n high (and_right (leb low n) (leb n high) h))

between-complete : (low high n : ℕ) → low ≤ n → n ≤ high → between low high n ≡ true
between-complete low high n l h = both (le-leb low n l) (le-leb n high h)

between-above : (low high n : ℕ) → high < n → between low high n ≡ false
between-above low high n h = simp (lt-leb n high h, and-false)

-- ---- identities

plain-sound : (b : ℕ) → plain b ≡ true → Plain b
plain-sound b h =
    let front = and_left (leb 0x20 b && not (eqb b 0x7F)) (not (eqb b colon)) h in
    record {
      high = leb-true 0x20 b (and_left (leb 0x20 b) (not (eqb b 0x7F)) front);
      no-delete = eqb-false b 0x7F (not-true (eqb b 0x7F) (and_right (leb 0x20 b) (not (eqb b 0x7F)) front));
      no-colon = eqb-false b colon (not-true (eqb b colon) (and_right (leb 0x20 b && not (eqb b 0x7F)) (not (eqb b colon)) h));
    }

plain-complete : (b : ℕ) → Plain b → plain b ≡ true
plain-complete b h = simp (le-leb 0x20 b h.high, ne_eqb b 0x7F h.no-delete, ne_eqb b colon h.no-colon)

pub identity-sound : (s : List ℕ) → valid_identity s ≡ true → Identity s
identity-sound s h =
    let front = and_left (between 1 128 (length s) && each plain s) (valid_utf8 s) h in
    let size = between-sound 1 128 (length s) (and_left (between 1 128 (length s)) (each plain s) front) in
    record {
      some = size.0;
      few = size.1;
      plain = each-sound plain Plain plain-sound s (and_right (between 1 128 (length s)) (each plain s) front);
      utf8 = and_right (between 1 128 (length s) && each plain s) (valid_utf8 s) h;
    }

pub identity-complete : (s : List ℕ) → Identity s → valid_identity s ≡ true
identity-complete s h =
    both (both (between-complete 1 128 (length s) h.some h.few) (each-complete plain Plain plain-complete s h.plain)) h.utf8

-- ---- keys

digit-sound : (b : ℕ) → hex_digit b ≡ true → HexDigit b
digit-sound b h = first (between 0x30 0x39 b) refl
  where
    third : (t : Bool) → between 0x30 0x39 b ≡ false → between 0x41 0x46 b ≡ false → between 0x61 0x66 b ≡ t → HexDigit b
    third true e1 e2 e3 = inr (inr (between-sound 0x61 0x66 b e3))
    third false e1 e2 e3 = absurd (true≢false (sym h ∙ simp (e1, e2, e3)))

    second : (t : Bool) → between 0x30 0x39 b ≡ false → between 0x41 0x46 b ≡ t → HexDigit b
    second true e1 e2 = inr (inl (between-sound 0x41 0x46 b e2))
    second false e1 e2 = third (between 0x61 0x66 b) e1 e2 refl

    first : (t : Bool) → between 0x30 0x39 b ≡ t → HexDigit b
    first true e1 = inl (between-sound 0x30 0x39 b e1)
    first false e1 = second (between 0x41 0x46 b) e1 refl

digit-complete : (b : ℕ) → HexDigit b → hex_digit b ≡ true
digit-complete b (inl h) = rw (between-complete 0x30 0x39 b h.0 h.1) (lt-ltb (b - 0x30) 16 (omega arith))
digit-complete b (inr (inl h)) =
    rw (between-above 0x30 0x39 b (omega arith), between-complete 0x41 0x46 b h.0 h.1) (lt-ltb (b - 0x41 + 10) 16 (omega arith))
digit-complete b (inr (inr h)) =
    rw (between-above 0x30 0x39 b (omega arith), between-above 0x41 0x46 b (omega arith), between-complete 0x61 0x66 b h.0 h.1)
    (lt-ltb (b - 0x61 + 10) 16 (omega arith))

pub key-sound : (s : List ℕ) → valid_key s ≡ true → Key s
key-sound s h =
    let front = and_left (between 2 128 (length s) && eqb (length s % 2) 0) (each hex_digit s) h in
    let size = between-sound 2 128 (length s) (and_left (between 2 128 (length s)) (eqb (length s % 2) 0) front) in
    let even = eqb-true (length s % 2) 0 (and_right (between 2 128 (length s)) (eqb (length s % 2) 0) front) in
    record {
      bytes = length s / 2;
      pairs = omega arith;
      some = omega arith;
      few = omega arith;
      digits = each-sound hex_digit HexDigit digit-sound s (and_right (between 2 128 (length s) && eqb (length s % 2) 0) (each hex_digit s) h);
    }

pub key-complete : (s : List ℕ) → Key s → valid_key s ≡ true
key-complete s h =
    both
    (both (between-complete 2 128 (length s) (omega arith) (omega arith)) (eq-eqb (length s % 2) 0 (omega arith)))
    (each-complete hex_digit HexDigit digit-complete s h.digits)
