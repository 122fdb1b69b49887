-- Parts of a list, as the code lends them: `&s[at..]` is `rest s at`, `&s[from..to]` is `part from (to - from) s`.
-- Assumes nothing.
use mathlib.Core.Path.{◌≡◌, refl, sym, ap, ◌∙◌}
use Prim.Native.Nat.{ℕ, zero, suc, ◌+◌, ◌-◌, ◌≤◌, ◌<◌}
use native.Mathlib.Omega.{arith}
use native.Mathlib.Nat.{add-zero, le_of_eq, le_of_suc-le-suc}
use mathlib.Core.List.{List, [], ◌∷◌, ◌++◌}
use lib.ListN.{length, take, drop, get_or, replicate, length-drop}
use lib.Seq.{get_or-drop, drop-cons, drop-drop, take_all, take_at, drop_at, length-take-le}
use Rattle.lists.specs.Lists.{part}

-- what stands from `at` on
abbrev pub rest : List ℕ → ℕ → List ℕ
rest s at = part at (length s - at) s

pub part_to_end : (s : List ℕ) (at : ℕ) → rest s at ≡ drop at s
part_to_end s at = take_all (length s - at) (drop at s) (le_of_eq (length-drop at s))

pub first-of-drop : (s : List ℕ) (at : ℕ) → get_or (drop at s) 0 0 ≡ get_or s at 0
first-of-drop s at = get_or-drop at s 0 0 ∙ ap (λ (i : ℕ). get_or s i 0) (add-zero at)

pub length_part : (s : List ℕ) (at n : ℕ) → at + n ≤ length s → length (part at n s) ≡ n
length_part s at n inside = length-take-le n (drop at s) (simp length-drop (omega arith))

-- the part at a place of a concatenation, and what stands behind it
pub part-there : (s a behind : List ℕ) (at n : ℕ) → drop at s ≡ a ++ behind → length a ≡ n → (part at n s ≡ a) × (drop (at + n) s ≡ behind)
part-there s a behind at n e size =
    (rw e (take_at a behind n size), sym (drop-drop n at s) ∙ rw e (drop_at a behind n size))

-- parts of a list of one number over and over
pub take-replicate : (n k a : ℕ) → k ≤ n → take k (replicate n a) ≡ replicate k a
take-replicate n zero a h = refl
take-replicate zero (suc k) a h = absurd (omega arith)
take-replicate (suc n) (suc k) a h = ap (λ (l : List ℕ). a ∷ l) (take-replicate n k a (le_of_suc-le-suc h))

pub drop-replicate : (n k a : ℕ) → drop k (replicate n a) ≡ replicate (n - k) a
drop-replicate n zero a = let same : n - 0 ≡ n = omega arith in rw same
drop-replicate zero (suc k) a = let same : 0 - suc k ≡ 0 = omega arith in rw same
drop-replicate (suc n) (suc k) a = let same : suc n - suc k ≡ n - k = omega arith in rw same (drop-replicate n k a)

-- the w elements from index at on, one by one
abbrev pub window : ℕ → ℕ → List ℕ → List ℕ
window zero at s = []
window (suc w) at s = get_or s at 0 ∷ window w (suc at) s

pub take-window : (w at : ℕ) (s : List ℕ) → at + w ≤ length s → part at w s ≡ window w at s
take-window zero at s h = refl
take-window (suc w) at s h =
    let inside : at < length s = omega arith in
    rw (drop-cons s at 0 inside, take-window w (suc at) s (omega arith))
