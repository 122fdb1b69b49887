-- How many blocks a master secret takes, by the length of its key (document 02, P8).
-- Assumes nothing.
use mathlib.Core.Path.{◌≡◌, ◌∙◌}
use Prim.Native.Nat.{ℕ, ◌+◌, ◌*◌, ◌/◌, ◌≤◌}
use native.Mathlib.Decide.{dec_le}
use native.Mathlib.Omega.{arith}
use mathlib.Core.Bool.{cond}
use mathlib.Core.List.{List, ◌++◌}
use lib.ListN.{length, length-append}
use lib.Dec.{leb}
use borrow.Author.Tests.{le-leb, lt-leb}
use Rattle.sha256.specs.Hash.{digest}
use Rattle.sha256.proofs.Finish.{length-digest}
use Rattle.sha256.proofs.Counting.{blocks-of-length}
use Rattle.keys.specs.declared.Label.TheVariants.{MasterSecret}
use Rattle.keys.specs.Hmac.{key_block, xored, ipad, opad}
use Rattle.keys.specs.Prf.{a_of, text}
use Rattle.keys.specs.Secrets.{premaster_bytes}
use Rattle.keys.specs.Counts.{key_blocks, keyed_blocks, mac_blocks, p_hash_blocks, prf_blocks, master_under_blocks}
use Rattle.keys.proofs.HmacSteps.{length-padded}
use Rattle.keys.proofs.Lengths.{length-mac, length-premaster}

-- an HMAC's two digests: the padded block and the message, and the padded block and 32 bytes
mac-blocks : (key message : List ℕ) → mac_blocks key message ≡ key_blocks key + ((length message + 136) / 64 + 2)
unfolding mac_blocks keyed_blocks
mac-blocks key message =
    let first = xored (key_block key) ipad ++ message in
    let inner : length first ≡ 64 + length message = rw (length-append (xored (key_block key) ipad) message, length-padded key ipad) in
    let outer : length (xored (key_block key) opad ++ digest first) ≡ 96 =
    rw (length-append (xored (key_block key) opad) (digest first), length-padded key opad, length-digest first) in
    rw (blocks-of-length first, blocks-of-length (xored (key_block key) opad ++ digest first), inner, outer) (omega arith)

-- A(1) and its part, A(2) and its part, over a label and two randoms of 77 bytes
two-parts : (secret seed : List ℕ) → length seed ≡ 77 → p_hash_blocks secret seed 2 ≡ 4 * key_blocks secret + 19
unfolding p_hash_blocks a_of
two-parts secret seed h =
    let first = length-mac secret seed in
    let second = length-mac secret (a_of secret seed 1) in
    simp (mac-blocks, length-append, h, first, second) (omega arith)

-- the premaster secret's own blocks, where it is longer than one
premaster-blocks : (key : List ℕ) → length key ≤ 64
    → key_blocks (premaster_bytes key) ≡ cond (leb (length key) 30) 0 (cond (leb (length key) 57) 2 3)
unfolding key_blocks
premaster-blocks key h = elim (dec_le (length key) 30) [
  | yes k ↦ rw (le-leb (length key) 30 k, length-premaster key, le-leb (4 + 2 * length key) 64 (omega arith))
  | no k ↦ elim (dec_le (length key) 57) [
    | yes l ↦ rw (lt-leb (length key) 30 (omega arith), le-leb (length key) 57 l, length-premaster key, lt-leb (4 + 2 * length key) 64 (omega arith))
        (blocks-of-length (premaster_bytes key) ∙ rw (length-premaster key) (omega arith))
    | no l ↦ rw (lt-leb (length key) 30 (omega arith), lt-leb (length key) 57 (omega arith), length-premaster key, lt-leb (4 + 2 * length key) 64 (omega arith))
        (blocks-of-length (premaster_bytes key) ∙ rw (length-premaster key) (omega arith))
  ]
]

pub master-counts : (key client server : List ℕ) → length key ≤ 64 → length client ≡ 32 → length server ≡ 32
    → master_under_blocks key client server ≡ cond (leb (length key) 30) 19 (cond (leb (length key) 57) 27 31)
unfolding prf_blocks
master-counts key client server h c s =
    let seed : length (text MasterSecret ++ (client ++ server)) ≡ 77 = simp (length-append, c, s) in
    two-parts (premaster_bytes key) (text MasterSecret ++ (client ++ server)) seed ∙ rw (premaster-blocks key h) (elim (dec_le (length key) 30) [
      | yes k ↦ rw (le-leb (length key) 30 k)
      | no k ↦ elim (dec_le (length key) 57) [
        | yes l ↦ rw (lt-leb (length key) 30 (omega arith), le-leb (length key) 57 l)
        | no l ↦ rw (lt-leb (length key) 30 (omega arith), lt-leb (length key) 57 (omega arith))
      ]
    ])
