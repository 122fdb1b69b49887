-- The message schedule word by word, and the rounds one by one: what the loops over them rest on.
-- Assumes nothing.
use Rattle.std.proofs.Common.{◌≡◌, ℕ, zero, suc, ◌+◌, ◌*◌, ◌<◌, ◌≤◌, List, [], ◌∷◌, ◌++◌, length, get_or, take, drop, set, refl, ap, ◌∙◌, add-one, arith, get_or-drop, get_or-take, drop-drop, take-suc-set}
use Rattle.lists.specs.Lists.{part}
use Rattle.lists.proofs.Parts.{take-window}
use Rattle.endian.specs.Number.{number}
use Rattle.sha256_block.specs.Block.{words}
use Rattle.sha256_block.specs.declared.Words.{Words}
use Rattle.sha256_block.specs.Constants.{k256}
use Rattle.sha256_block.specs.Block.{round, rounds}

-- a store behind a known front makes it one longer
pub front-grows : (w front : List ℕ) (t x : ℕ) → t < length w → take t w ≡ front → take (t + 1) (set w t x) ≡ front ++ (x ∷ [])
front-grows w front t x h e = rw (add-one t, take-suc-set w t x, e)

-- the four bytes from a place, as the code indexes them
pub word-at-four : (bs : List ℕ) (at : ℕ) → at + 4 ≤ length bs
    → part at 4 bs ≡ get_or bs at 0 ∷ get_or bs (at + 1) 0 ∷ get_or bs (at + 2) 0 ∷ get_or bs (at + 3) 0 ∷ []
word-at-four bs at inside =
    let one : suc at ≡ at + 1 = omega arith in
    let two : suc (suc at) ≡ at + 2 = omega arith in
    let three : suc (suc (suc at)) ≡ at + 3 = omega arith in
    rw (take-window 4 at bs inside, three, two, one)

-- the words of a block from its front
words_more : (n : ℕ) (block : List ℕ) → words (suc n) block ≡ words n block ++ (number (take 4 (drop (4 * n) block)) ∷ [])
unfolding words
words_more zero block = refl
words_more (suc n) block =
    let same : 4 + 4 * n ≡ 4 * suc n = omega arith in
    ap (λ (ws : List ℕ). number (take 4 block) ∷ ws) (words_more n (drop 4 block) ∙ rw (drop-drop (4 * n) 4 block, same))

-- the next word, from the four bytes that it is made of
pub next_word : (t : ℕ) (block : List ℕ) (x : ℕ) → 4 * t + 4 ≤ length block
    → x ≡ number (get_or block (4 * t) 0 ∷ get_or block (4 * t + 1) 0 ∷ get_or block (4 * t + 2) 0 ∷ get_or block (4 * t + 3) 0 ∷ [])
    → words t block ++ (x ∷ []) ≡ words (t + 1) block
next_word t block x h e = rw (add-one t, words_more t block, word-at-four block (4 * t) h, e)

-- one round more
next-round : (t : ℕ) (W : List ℕ) (s v r : Words) → v ≡ rounds t W s → r ≡ round (get_or k256 t 0) (get_or W t 0) v → r ≡ rounds (t + 1) W s
unfolding rounds
next-round t W s v r ev er = rw (add-one t, ← ev, ← er)

-- and four, from i rounds behind t on: with their constants as a row has them, and their words as the ring has them
pub four-more : {v r : Words} {k0 k1 k2 k3 : ℕ} (t i m : ℕ) (W w : List ℕ) (s : Words) → m ≡ t + i → i < 13 → w ≡ take 16 (drop t W)
    → k0 ∷ k1 ∷ k2 ∷ k3 ∷ [] ≡ take 4 (drop m k256)
    → r ≡ round k3 (get_or w (i + 3) 0) (round k2 (get_or w (i + 2) 0) (round k1 (get_or w (i + 1) 0) (round k0 (get_or w (i + 0) 0) v)))
    → v ≡ rounds (t + (i + 0)) W s → r ≡ rounds (t + (i + 4)) W s
four-more {v} {r} {k0} {k1} {k2} {k3} t i m W w s em hi ew ek er ev =
    let ks : List ℕ = k0 ∷ k1 ∷ k2 ∷ k3 ∷ [] in
    let at : (j : ℕ) → m + j ≡ t + (i + j) = λ j. omega arith in
    let key : (j : ℕ) → j < 4 → get_or ks j 0 ≡ get_or k256 (t + (i + j)) 0 =
    λ j h. ap (λ (l : List ℕ). get_or l j 0) ek ∙ get_or-take 4 (drop m k256) j 0 h ∙ get_or-drop m k256 j 0 ∙ rw (at j) in
    let word : (j : ℕ) → j < 4 → get_or w (i + j) 0 ≡ get_or W (t + (i + j)) 0 =
    λ j h. ap (λ (l : List ℕ). get_or l (i + j) 0) ew ∙ get_or-take 16 (drop t W) (i + j) 0 (omega arith) ∙ get_or-drop t W (i + j) 0 in
    let behind : (j : ℕ) → t + (i + (j + 1)) ≡ t + (i + j) + 1 = λ j. omega arith in
    let more : (j : ℕ) → j < 4 → (u : Words) → u ≡ rounds (t + (i + j)) W s
    → round (get_or ks j 0) (get_or w (i + j) 0) u ≡ rounds (t + (i + (j + 1))) W s =
    λ j h u eu. rw (behind j) (next-round (t + (i + j)) W s u _ eu (rw (key j h, word j h))) in
    er ∙ more 3 (omega arith) _ (more 2 (omega arith) _ (more 1 (omega arith) _ (more 0 (omega arith) v ev)))
