-- The PRF in its steps: the label's size, A(i) one by one, and the output part by part.
-- Assumes nothing.
use mathlib.Core.Path.{◌≡◌, ◌∙◌}
use Prim.Native.Nat.{ℕ, zero, suc, ◌+◌, ◌-◌, ◌*◌, ◌/◌, ◌≤◌, ◌<◌}
use native.Mathlib.Numerals.{add-one}
use native.Mathlib.Omega.{arith}
use mathlib.Core.List.{List, [], ◌++◌}
use lib.ListN.{length, take, length-append}
use lib.Seq.{take-take}
use borrow.Author.Tests.{le-leb}
use Rattle.refusal.specs.Lent.{gives}
use Rattle.sha256.specs.Hash.{limit}
use Rattle.keys.specs.declared.Label.{Label}
use Rattle.keys.specs.declared.Label.TheVariants.{MasterSecret, KeyExpansion, ClientFinished, ServerFinished}
use Rattle.sha256.proofs.Finish.{length-digest}
use Rattle.keys.specs.declared.mac.Mac.{Mac}
use Rattle.keys.specs.Hmac.{mac, keyed}
use Rattle.keys.specs.Prf.{a_of, p_hash, expanded, prf, text}
use Rattle.keys.specs.Counts.{mac_blocks, p_hash_blocks, prf_blocks}
use Rattle.keys.specs.Inner.{Macs}

label-size : (label : Label) → length (text label) ≤ 15
label-size MasterSecret = omega arith
label-size KeyExpansion = omega arith
label-size ClientFinished = omega arith
label-size ServerFinished = omega arith

-- what is hashed for the PRF is within HMAC's limit
pub labelled-size : (front : List ℕ) (label : Label) (seed : List ℕ) → length front ≤ 32 → length seed ≤ 65536
    → length (front ++ (text label ++ seed)) ≤ limit - 64
labelled-size front label seed h k =
    let few : length (text label) ≤ 15 = label-size label in
    rw (length-append front (text label ++ seed), length-append (text label) seed) (omega arith)

-- and so is A(i)
pub a-size : (secret : List ℕ) (label : Label) (seed : List ℕ) (i : ℕ) → length seed ≤ 65536 → length (a_of secret (text label ++ seed) i) ≤ limit - 64
unfolding a_of mac keyed
a-size secret label seed zero h = labelled-size [] label seed (omega arith) h
a-size secret label seed (suc i) h = rw (length-digest _) (omega arith)

-- the HMAC of A(i) is the next
pub next-a : (secret seed : List ℕ) (i : ℕ) {r : Mac} → Macs secret (a_of secret seed i) r → r.value ≡ a_of secret seed (i + 1)
unfolding a_of
next-a secret seed i made = made.value ∙ rw (add-one i)

-- one part more of the output
pub next-part : (secret seed buffer next part : List ℕ) (i : ℕ) → take (32 * i) buffer ≡ p_hash secret seed i
    → part ≡ mac secret (a_of secret seed (i + 1) ++ seed) → take (32 * i + 32) next ≡ take (32 * i) buffer ++ part
    → take (32 * (i + 1)) next ≡ p_hash secret seed (i + 1)
unfolding p_hash
next-part secret seed buffer next part i e made put =
    let same : 32 * (i + 1) ≡ 32 * i + 32 = omega arith in
    rw (same, put, e, made, add-one i)

-- when there is enough, what is too much is left out
pub blocks-enough : (secret seed buffer : List ℕ) (i n : ℕ) → n ≤ 32 * i → 32 * i < n + 32 → take (32 * i) buffer ≡ p_hash secret seed i
    → take n buffer ≡ expanded secret seed n
unfolding expanded
blocks-enough secret seed buffer i n h k e =
    let parts : (n + 31) / 32 ≡ i = omega arith in
    rw (parts, ← e, take-take n (32 * i) buffer h)

-- ---- the blocks, part by part

pub next-count : (secret seed : List ℕ) (i : ℕ) {blocks next part : ℕ} → blocks ≡ p_hash_blocks secret seed i → next ≡ mac_blocks secret (a_of secret seed i)
    → part ≡ mac_blocks secret (a_of secret seed (i + 1) ++ seed) → blocks + (next + part) ≡ p_hash_blocks secret seed (i + 1)
unfolding p_hash_blocks
next-count secret seed i {blocks} {next} {part} e f g =
    let one : i + 1 ≡ suc i = add-one i in
    let last : part ≡ mac_blocks secret (a_of secret seed (suc i) ++ seed) = rw one at g in
    rw one (omega (arith, e, f, last))

pub counts-enough : (secret seed : List ℕ) (label : Label) (i n : ℕ) {blocks : ℕ} → n ≤ 32 * i → 32 * i < n + 32
    → blocks ≡ p_hash_blocks secret (text label ++ seed) i → blocks ≡ prf_blocks secret label seed n
unfolding prf_blocks
counts-enough secret seed label i n h k e = let parts : (n + 31) / 32 ≡ i = omega arith in rw parts e

-- ---- within the limits

pub prf-within : (secret : List ℕ) (label : Label) (seed : List ℕ) (n : ℕ) → length secret ≤ 65536 → length seed ≤ 65536 → n ≤ 256
    → prf secret label seed n ≡ gives (expanded secret (text label ++ seed) n)
unfolding prf
prf-within secret label seed n h k l = rw (le-leb (length secret) 65536 h, le-leb (length seed) 65536 k, le-leb n 256 l)
