-- The laws of big-endian numbers, for every width: writing then reading, reading then writing, and that neither direction takes two values to one.
-- Assumes nothing.
use mathlib.Core.Path.{◌≡◌, refl, sym, ap, ◌∙◌}
use Prim.Native.Nat.{ℕ, zero, suc, ◌+◌, ◌*◌, ◌/◌, ◌%◌, ◌^◌, ◌<◌}
use native.Mathlib.Nat.{one-le-pow, pow-succ', mod-eq_of_lt, mod-lt, mod-one}
use native.Mathlib.Omega.{arith}
use mathlib.Core.List.{List, [], ◌∷◌}
use lib.ListN.{length, take, drop}
use lib.Arith.{digits_lt, digits_div, digits_mod, mod-mul}
use Rattle.endian.specs.Number.{be, number, Bytes}

-- ---- powers of 256

pub power_pos : (w : ℕ) → 0 < 256 ^ w
power_pos w = one-le-pow w 256 (omega arith)

power-suc : (w : ℕ) → 256 ^ suc w ≡ 256 * 256 ^ w
power-suc w = pow-succ' 256 w

-- ---- lists of bytes

pub bytes-cons : (b : ℕ) (bs : List ℕ) → b < 256 → Bytes bs → Bytes (b ∷ bs)
bytes-cons b bs h t zero = h
bytes-cons b bs h t (suc i) = t i

pub bytes_take : (n : ℕ) (bs : List ℕ) → Bytes bs → Bytes (take n bs)
bytes_take zero bs h = λ i. omega arith
bytes_take (suc n) [] h = h
bytes_take (suc n) (b ∷ bs) h = bytes-cons b (take n bs) (h zero) (bytes_take n bs (λ i. h (suc i)))

pub bytes_drop : (n : ℕ) (bs : List ℕ) → Bytes bs → Bytes (drop n bs)
bytes_drop zero bs h = h
bytes_drop (suc n) [] h = h
bytes_drop (suc n) (b ∷ bs) h = bytes_drop n bs (λ i. h (suc i))

-- ---- what is written

pub length-be : (w n : ℕ) → length (be w n) ≡ w
length-be zero n = refl
length-be (suc w) n = ap suc (length-be w n)

pub bytes-be : (w n : ℕ) → Bytes (be w n)
bytes-be zero n i = omega arith
bytes-be (suc w) n zero = mod-lt (n / 256 ^ w) (omega arith)
bytes-be (suc w) n (suc i) = bytes-be w n i

-- the bytes tell a number only up to a multiple of 256 ^ w
pub be-cong : (w m n : ℕ) → m % 256 ^ w ≡ n % 256 ^ w → be w m ≡ be w n
be-cong zero m n e = refl
be-cong (suc w) m n e =
    let p : ℕ = 256 ^ w in
    let cut : (k : ℕ) → k % 256 ^ suc w ≡ k / p % 256 * p + k % p = λ k. rw (power-suc w) (mod-mul k (omega arith) (power_pos w)) in
    let low : (k : ℕ) → k % p < p = λ k. mod-lt k (power_pos w) in
    let same : m / p % 256 * p + m % p ≡ n / p % 256 * p + n % p = sym (cut m) ∙ e ∙ cut n in
    let front : m / p % 256 ≡ n / p % 256 = sym (digits_div _ (low m)) ∙ ap (λ (k : ℕ). k / p) same ∙ digits_div _ (low n) in
    let back : m % p ≡ n % p = sym (digits_mod _ (low m)) ∙ ap (λ (k : ℕ). k % p) same ∙ digits_mod _ (low n) in
    rw (front, be-cong w m n back)

-- ---- what is read

pub number_lt : (bs : List ℕ) → Bytes bs → number bs < 256 ^ length bs
number_lt [] h = omega arith
number_lt (b ∷ bs) h = rw (power-suc (length bs)) (digits_lt (h zero) (number_lt bs (λ i. h (suc i))))

-- ---- reading what was written

pub number-be : (w n : ℕ) → number (be w n) ≡ n % 256 ^ w
number-be zero n = sym (mod-one n)
number-be (suc w) n =
    rw (length-be w n, number-be w n, power-suc w) (sym (mod-mul n (omega arith) (power_pos w)))

pub number-be-lt : (w n : ℕ) → n < 256 ^ w → number (be w n) ≡ n
number-be-lt w n h = number-be w n ∙ mod-eq_of_lt h

-- ---- writing what was read

pub be-number : (bs : List ℕ) → Bytes bs → be (length bs) (number bs) ≡ bs
be-number [] h = refl
be-number (b ∷ bs) h =
    let p : ℕ = 256 ^ length bs in
    let low : number bs < p = number_lt bs (λ i. h (suc i)) in
    let front : (b * p + number bs) / p % 256 ≡ b = ap (λ (k : ℕ). k % 256) (digits_div b low) ∙ mod-eq_of_lt (h zero) in
    let back : be (length bs) (b * p + number bs) ≡ bs =
    be-cong (length bs) _ _ (digits_mod b low ∙ sym (mod-eq_of_lt low)) ∙ be-number bs (λ i. h (suc i)) in
    rw (front, back)

-- the same, where the width is known only by an equation
pub be-number-at : (w : ℕ) (bs : List ℕ) → Bytes bs → length bs ≡ w → be w (number bs) ≡ bs
be-number-at w bs h e = rw (← e) (be-number bs h)

-- ---- neither direction takes two values to one

pub be-injective : (w m n : ℕ) → m < 256 ^ w → n < 256 ^ w → be w m ≡ be w n → m ≡ n
be-injective w m n hm hn e = sym (number-be-lt w m hm) ∙ ap number e ∙ number-be-lt w n hn

pub number-injective : (xs bs : List ℕ) → Bytes xs → Bytes bs → length xs ≡ length bs → number xs ≡ number bs → xs ≡ bs
number-injective xs bs ha hb l e =
    sym (be-number xs ha) ∙ rw (l, e) (be-number bs hb)
