-- Finishing what was absorbed of a message gives the message's digest: for every message, R5 past the limit included.
-- Assumes nothing.
use mathlib.Core.Path.{◌≡◌, refl, ap, ◌∙◌}
use Prim.Native.Nat.{ℕ, suc, ◌+◌, ◌%◌, ◌≤◌, ◌<◌}
use native.Mathlib.Decide.{dec_le}
use native.Mathlib.Omega.{arith}
use mathlib.Core.List.{List, [], ◌∷◌, ◌++◌, append_assoc}
use lib.ListN.{length, take, length-set, length-append}
use lib.Seq.{take-suc-set, length-take-le}
use borrow.Author.Tests.{le-leb, lt-leb}
use Rattle.refusal.specs.Lent.{gives}
use Rattle.sha256_block.specs.declared.Words.{Words}
use Rattle.sha256_block.specs.Blocks.{parse, hash_blocks}
use Rattle.sha256_block.proofs.Parse.{parse-block}
use Rattle.sha256.specs.declared.Sha256.{Sha256}
use Rattle.sha256.specs.Message.{pad, padding}
use Rattle.sha256.specs.Hash.{concatenated, limit, digest, sha256}
use Rattle.sha256.specs.State.{absorb, absorb_byte, over, fresh, finished}
use Rattle.sha256.proofs.Absorb.{byte-held, byte-completes, byte-count, absorb-count, absorb-past}

-- the hash value when `rest` has come after what was absorbed
unfoldable pending : Sha256 → List ℕ → Words
pending s rest = hash_blocks s.words (parse (take (s.count % 64) s.block ++ rest))

-- ---- one byte absorbed is one byte less to come

pending-held : (s : Sha256) (x : ℕ) (rest : List ℕ) → s.count < limit → s.count % 64 < 63 → length s.block ≡ 64
    → pending (absorb_byte s x) rest ≡ pending s (x ∷ rest)
unfolding pending
pending-held s x rest h k l =
    let at = s.count % 64 in
    let held : (s.count + 1) % 64 ≡ suc at = omega arith in
    rw (byte-held s x h k, held, take-suc-set s.block at x (omega arith), append_assoc (take at s.block) (x ∷ []) rest)

pending-completes : (s : Sha256) (x : ℕ) (rest : List ℕ) → s.count < limit → s.count % 64 ≡ 63 → length s.block ≡ 64
    → pending (absorb_byte s x) rest ≡ pending s (x ∷ rest)
unfolding pending hash_blocks
pending-completes s x rest h k l =
    let block = take 63 s.block ++ (x ∷ []) in
    let size : length block ≡ 64 = rw (length-append (take 63 s.block) (x ∷ []), length-take-le 63 s.block (omega arith)) in
    let none : (s.count + 1) % 64 ≡ 0 = omega arith in
    rw (byte-completes s x h k l, none, k, ← append_assoc (take 63 s.block) (x ∷ []) rest, parse-block block rest size)

pending-byte : (s : Sha256) (x : ℕ) (rest : List ℕ) → s.count < limit → length s.block ≡ 64
    → pending (absorb_byte s x) rest ≡ pending s (x ∷ rest)
pending-byte s x rest h l =
    elim (dec_le (s.count % 64) 62) [
      | yes k ↦ pending-held s x rest h (omega arith) l
      | no k ↦ pending-completes s x rest h (omega arith) l
    ]

byte-size : (s : Sha256) (x : ℕ) → s.count < limit → length s.block ≡ 64 → length (absorb_byte s x).block ≡ 64
byte-size s x h l = elim (dec_le (s.count % 64) 62) [ yes k ↦ held (omega arith) | no k ↦ full (omega arith) ]
  where
    held : s.count % 64 < 63 → length (absorb_byte s x).block ≡ 64
    held k = rw (byte-held s x h k) (length-set s.block (s.count % 64) x ∙ l)

    full : s.count % 64 ≡ 63 → length (absorb_byte s x).block ≡ 64
    full k = rw (byte-completes s x h k l)

pub absorb-size : (s : Sha256) (xs : List ℕ) → s.count + length xs ≤ limit → length s.block ≡ 64 → length (absorb s xs).block ≡ 64
unfolding absorb
absorb-size s [] h l = l
absorb-size s (x ∷ xs) h l =
    let first : s.count < limit = omega arith in
    absorb-size (absorb_byte s x) xs (rw (byte-count s x first) (omega arith)) (byte-size s x first l)

-- ---- a whole message

pending-all : (s : Sha256) (xs rest : List ℕ) → s.count + length xs ≤ limit → length s.block ≡ 64
    → pending (absorb s xs) rest ≡ pending s (xs ++ rest)
unfolding absorb
pending-all s [] rest h l = refl
pending-all s (x ∷ xs) rest h l =
    let first : s.count < limit = omega arith in
    pending-all (absorb_byte s x) xs rest (rw (byte-count s x first) (omega arith)) (byte-size s x first l)
    ∙ pending-byte s x (xs ++ rest) first l

within-limit : (m : List ℕ) → length m ≤ limit → finished (absorb fresh m) ≡ sha256 m
unfolding finished sha256 digest fresh pad pending
within-limit m h =
    let count : (absorb fresh m).count ≡ length m = absorb-count fresh m (omega arith) ∙ omega arith in
    rw (count, le-leb (length m) limit h)
    (ap (λ (v : Words). gives (concatenated v)) (rw count at (pending-all fresh m (padding (length m)) (omega arith) refl)))

past-limit : (m : List ℕ) → limit < length m → finished (absorb fresh m) ≡ sha256 m
unfolding finished sha256 fresh over
past-limit m h = rw (absorb-past fresh m (omega arith) (omega arith), lt-leb (length m) limit h)

pub finish-absorbed : (m : List ℕ) → finished (absorb fresh m) ≡ sha256 m
finish-absorbed m = elim (dec_le (length m) limit) [ yes h ↦ within-limit m h | no h ↦ past-limit m (omega arith) ]

-- ---- for the layers above

pub length-digest : (m : List ℕ) → length (digest m) ≡ 32
unfolding digest concatenated
length-digest m = refl

pub sha256-within : (m : List ℕ) → length m ≤ limit → sha256 m ≡ gives (digest m)
unfolding sha256
sha256-within m h = rw (le-leb (length m) limit h)

pub finished-within : (s : Sha256) (m : List ℕ) → s ≡ absorb fresh m → length m ≤ limit → finished s ≡ gives (digest m)
finished-within s m e h = rw e (finish-absorbed m ∙ sha256-within m h)
