-- The ring of sixteen words. Read from the place of the next word once round, it is the last sixteen words of the schedule so far: so it is
-- at every round, and each next word keeps it so.
-- Assumes nothing.
use Rattle.std.proofs.Common.{◌≡◌, ℕ, zero, suc, ◌+◌, ◌-◌, ◌%◌, ◌<◌, ◌≤◌, List, [], ◌∷◌, ◌++◌, length, get_or, take, drop, set, sym, ap, ◌∙◌, append_assoc, add-zero, add-suc, add-one, arith, length-append, length-drop, drop_of_length-le, length-take, length-take-le, get_or-drop, take_all, drop-cons, get_or-take, drop-drop, take-suc-set, get_or-append-add, drop-set-lt, take-add, drop_at}
use native.Mathlib.Decide.{dec_lt}
use lib.ListN.{get_or-append}
use lib.Seq.{take-append-le}
use lib.Seq.{drop-append-le}
use Rattle.sha256_block.specs.Functions.{◌⊞◌, σ₀, σ₁}
use Rattle.sha256_block.specs.Block.{schedule}

-- the word j places on, once round
read-on : (i j : ℕ) (w : List ℕ) → length w ≡ 16 → i < 16 → j < 16 → get_or w ((i + j) % 16) 0 ≡ get_or (drop i w ++ take i w) j 0
read-on i j w e hi hj =
    let rest : length (drop i w) ≡ 16 - i = rw (length-drop i w, e) in
    elim (dec_lt (i + j) 16) [
      | yes h ↦
          let at : (i + j) % 16 ≡ i + j = omega arith in
          rw at (sym (get_or-append (drop i w) (take i w) 0 j (omega (arith, rest)) ∙ get_or-drop i w j 0))
      | no h ↦
          let at : (i + j) % 16 ≡ i + j - 16 = omega arith in
          let past : j ≡ length (drop i w) + (i + j - 16) = omega (arith, rest) in
          rw at (sym (ap (λ (p : ℕ). get_or (drop i w ++ take i w) p 0) past ∙ get_or-append-add (drop i w) (take i w) (i + j - 16) 0
          ∙ get_or-take i w (i + j - 16) 0 (omega arith)))
    ]

-- read from any place on, it has all its words
length-turned : (i : ℕ) (w : List ℕ) → length (drop i w ++ take i w) ≡ length w
length-turned i w = length-append (drop i w) (take i w) ∙ rw (length-drop i w, length-take i w) (omega arith)

-- a word stored in the place of the next one comes last, and the first goes
store-on : (i x : ℕ) (w : List ℕ) → i < length w → drop (suc i) (set w i x) ++ take (suc i) (set w i x) ≡ drop 1 (drop i w ++ take i w) ++ (x ∷ [])
store-on i x w h =
    rw (drop-set-lt (suc i) w i x (omega arith), take-suc-set w i x h, drop-cons w i 0 h) (sym (append_assoc (drop (suc i) w) (take i w) (x ∷ [])))

length-schedule : (n : ℕ) (M : List ℕ) → length (schedule n M) ≡ n + length M
unfolding schedule
length-schedule zero M = omega arith
length-schedule (suc n) M = length-append (schedule n M) _ ∙ rw (length-schedule n M) (omega arith)

-- the ring's length, where it holds the last words
ring-length : (i n : ℕ) (w M : List ℕ) → length M ≡ 16 → drop i w ++ take i w ≡ drop n (schedule n M) → length w ≡ 16
ring-length i n w M sixteen holds =
    sym (length-turned i w) ∙ ap length holds ∙ rw (length-drop n (schedule n M), length-schedule n M, sixteen) (omega arith)

-- the law: the next word in its place
pub ring-next : (i n x : ℕ) (w M : List ℕ) → length M ≡ 16 → i < 16 → drop i w ++ take i w ≡ drop n (schedule n M)
    → x ≡ σ₁ (get_or w ((i + 14) % 16) 0) ⊞ get_or w ((i + 9) % 16) 0 ⊞ σ₀ (get_or w ((i + 1) % 16) 0) ⊞ get_or w i 0
    → drop (suc i) (set w i x) ++ take (suc i) (set w i x) ≡ drop (suc n) (schedule (suc n) M)
unfolding schedule
ring-next i n x w M sixteen hi holds ex =
    let W = schedule n M in
    let long : length W ≡ n + 16 = rw (← sixteen) (length-schedule n M) in
    let e = ring-length i n w M sixteen holds in
    let at : (j : ℕ) → j < 16 → get_or w ((i + j) % 16) 0 ≡ get_or W (n + j) 0 =
    λ j hj. read-on i j w e hi hj ∙ ap (λ (l : List ℕ). get_or l j 0) holds ∙ get_or-drop n W j 0 in
    let here : (i + 0) % 16 ≡ i = omega arith in
    let first : get_or w i 0 ≡ get_or W n 0 = ap (λ (p : ℕ). get_or w p 0) (sym here) ∙ at 0 (omega arith) ∙ rw (add-zero n) in
    let next = σ₁ (get_or W (n + 14) 0) ⊞ get_or W (n + 9) 0 ⊞ σ₀ (get_or W (n + 1) 0) ⊞ get_or W n 0 in
    let same : x ≡ next = rw (← at 14 (omega arith), ← at 9 (omega arith), ← at 1 (omega arith), ← first) ex in
    store-on i x w (omega (arith, e))
    ∙ rw (same, holds, drop-drop 1 n W, ← add-one n) (sym (drop-append-le (n + 1) W (next ∷ []) (omega (arith, long))))

-- after sixteen of them it is read from its first place again
pub ring-round : (n : ℕ) (w M : List ℕ) → length M ≡ 16 → drop 16 w ++ take 16 w ≡ drop n (schedule n M) → w ≡ drop n (schedule n M)
ring-round n w M sixteen holds =
    let e = ring-length 16 n w M sixteen holds in
    rw (drop_of_length-le w {i = 16} (omega (arith, e)), take_all 16 w (omega (arith, e))) at holds

-- the schedule's first words do not change with those that follow
schedule-front : (m n : ℕ) (M : List ℕ) → length M ≡ 16 → take (n + 16) (schedule (n + m) M) ≡ schedule n M
unfolding schedule
schedule-front zero n M e = rw (add-zero n) (take_all (n + 16) (schedule n M) (rw (length-schedule n M, e) (omega arith)))
schedule-front (suc m) n M e =
    rw (add-suc n m)
    (take-append-le (n + 16) (schedule (n + m) M) _ (rw (length-schedule (n + m) M, e) (omega arith)) ∙ schedule-front m n M e)

-- so the ring has the words of the next sixteen rounds, where it is read from its first place
pub ring-words : (n : ℕ) (w M : List ℕ) → n ≤ 48 → length M ≡ 16 → w ≡ drop n (schedule n M) → w ≡ take 16 (drop n (schedule 48 M))
ring-words n w M h e holds =
    let W = schedule 48 M in
    let split : n + (48 - n) ≡ 48 = omega arith in
    let front : take (n + 16) W ≡ schedule n M = rw split at (schedule-front (48 - n) n M e) in
    let long : n ≤ length W = rw (length-schedule 48 M) (omega arith) in
    holds ∙ rw (← front, take-add n 16 W) (drop_at (take n W) (take 16 (drop n W)) n (length-take-le n W long))
