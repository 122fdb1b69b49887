-- How long the secrets and the Finished values are, and for which arguments there are any.
-- Assumes nothing.
use mathlib.Core.Path.{◌≡◌, refl, sym, ap}
use Prim.Native.Nat.{ℕ, zero, suc, ◌+◌, ◌*◌, ◌≤◌}
use native.Mathlib.Numerals.{add-one}
use native.Mathlib.Omega.{arith}
use mathlib.Core.Bool.{Bool, true, false, cond, ◌&&◌}
use mathlib.Core.List.{List, ◌++◌}
use lib.ListN.{length, length-append, length-replicate}
use lib.Seq.{length-take-le}
use lib.Dec.{leb, eqb}
use borrow.Author.Tests.{le-leb, leb-true, eq-eqb, eqb-true}
use Rattle.refusal.specs.Lent.{Outcome, gives, refuses, bytes_of}
use Rattle.refusal.specs.declared.Refusal.{Refusal}
use Rattle.refusal.proofs.Laws.{refuses-gives, Sized, sized-tested, sized-then}
use Rattle.sha256.specs.declared.Sha256.{Sha256}
use Rattle.sha256.specs.Hash.{limit, concatenated}
use Rattle.sha256.specs.State.{finished}
use Rattle.sha256.proofs.Finish.{length-digest}
use Rattle.keys.specs.declared.Label.{Label}
use Rattle.keys.specs.declared.Label.TheVariants.{MasterSecret, KeyExpansion}
use Rattle.keys.specs.declared.Side.{Side}
use Rattle.keys.specs.Hmac.{mac, keyed}
use Rattle.keys.specs.Prf.{a_of, p_hash, expanded, prf, text}
use Rattle.keys.specs.Secrets.{premaster, premaster_bytes, is_random, master, master_under, key_block_length, keys, verify_data, finished_label, finished_of}
use Rattle.keys.proofs.PrfSteps.{prf-within}

-- ---- the PRF

pub length-mac : (key message : List ℕ) → length (mac key message) ≡ 32
unfolding mac keyed
length-mac key message = length-digest _

pub length-a_of : (secret seed : List ℕ) (i : ℕ) → length (a_of secret seed (i + 1)) ≡ 32
unfolding a_of
length-a_of secret seed i = rw (add-one i) (length-mac secret (a_of secret seed i))

length-p_hash : (secret seed : List ℕ) (n : ℕ) → length (p_hash secret seed n) ≡ 32 * n
unfolding p_hash
length-p_hash secret seed zero = refl
length-p_hash secret seed (suc n) = simp (length-append, length-p_hash secret seed n, length-mac) (omega arith)

length-expanded : (secret seed : List ℕ) (n : ℕ) → length (expanded secret seed n) ≡ n
unfolding expanded
length-expanded secret seed n = length-take-le n _ (simp length-p_hash (omega arith))

-- what the PRF gives has the length that was asked for
prf-sized : (secret : List ℕ) (label : Label) (seed : List ℕ) (n : ℕ) → Sized n (prf secret label seed n)
unfolding prf
prf-sized secret label seed n =
    sized-tested (leb (length secret) 65536 && leb (length seed) 65536 && leb n 256) _ _
    (λ bytes e. let same : expanded secret (text label ++ seed) n ≡ bytes = cc in rw (← same) (length-expanded secret (text label ++ seed) n))

-- ---- the premaster secret

pub length-premaster : (key : List ℕ) → length (premaster_bytes key) ≡ 4 + 2 * length key
unfolding premaster_bytes
length-premaster key = simp (length-append, length-replicate) (omega arith)

pub premaster-given : (key : List ℕ) → 1 ≤ length key → length key ≤ 64 → premaster key ≡ gives (premaster_bytes key)
unfolding premaster
premaster-given key h k = rw (le-leb 1 (length key) h, le-leb (length key) 64 k)

-- where there is one, it is so made, of a key that is not too long
module _ (key : List ℕ) {bytes : List ℕ} where
  made : (t u : Bool) (r : Refusal) → leb (length key) 64 ≡ u → cond (t && u) (gives (premaster_bytes key)) (refuses r) ≡ gives bytes
      → (length key ≤ 64) × (bytes ≡ premaster_bytes key)
  made true true r few f = (leb-true (length key) 64 few, cc)
  made true false r few f = absurd (refuses-gives f)
  made false u r few f = absurd (refuses-gives f)

  pub premaster-is : premaster key ≡ gives bytes → bytes ≡ premaster_bytes key
  unfolding premaster
  premaster-is e = (made (leb 1 (length key)) (leb (length key) 64) _ refl e).1

  premaster-short : premaster key ≡ gives bytes → length key ≤ 64
  unfolding premaster
  premaster-short e = (made (leb 1 (length key)) (leb (length key) 64) _ refl e).0

pub premaster-most : (key bytes : List ℕ) → premaster key ≡ gives bytes → length bytes ≤ 132
premaster-most key bytes e = rw (premaster-is key e, length-premaster key) (omega (arith, premaster-short key e))

-- ---- the master secret

pub master-given : (secret client server : List ℕ) → length secret ≤ 65536 → length client ≡ 32 → length server ≡ 32
    → (bytes : List ℕ) × (length bytes ≡ 48) × (master secret client server ≡ gives bytes)
master-given secret client server h k l =
    let few : length (client ++ server) ≤ 65536 = simp length-append (omega arith) in (
      expanded secret (text MasterSecret ++ (client ++ server)) 48,
      length-expanded secret _ 48,
      rw (eq-eqb (length client) 32 k, eq-eqb (length server) 32 l) (prf-within secret MasterSecret (client ++ server) 48 h few (omega arith)),
    )

-- under a key of a length that is allowed there is one
pub master-under-given : (key client server : List ℕ) → 1 ≤ length key → length key ≤ 64 → length client ≡ 32 → length server ≡ 32
    → (bytes : List ℕ) × (length bytes ≡ 48) × (master_under key client server ≡ gives bytes)
master-under-given key client server some few c s =
    rw (premaster-given key some few) (master-given (premaster_bytes key) client server (rw (length-premaster key) (omega arith)) c s)

-- ---- the key block

pub key-block-given : (secret server client : List ℕ) (suite : ℕ) → length secret ≡ 48 → length server ≡ 32 → length client ≡ 32
    → 1 ≤ key_block_length suite → key_block_length suite ≤ 256
    → (bytes : List ℕ) × (length bytes ≡ key_block_length suite) × (keys secret server client suite ≡ gives bytes)
unfolding keys
key-block-given secret server client suite h k l some few =
    let two : length (server ++ client) ≤ 65536 = simp length-append (omega arith) in (
      expanded secret (text KeyExpansion ++ (server ++ client)) (key_block_length suite),
      length-expanded secret _ (key_block_length suite),
      rw (eq-eqb (length secret) 48 h, eq-eqb (length server) 32 k, eq-eqb (length client) 32 l, le-leb 1 (key_block_length suite) some)
          (prf-within secret KeyExpansion (server ++ client) (key_block_length suite) (omega arith) two few),
    )

-- where there is one, the master secret has its length
pub master-under-sized : (key client server : List ℕ) → Sized 48 (master_under key client server)
master-under-sized key client server =
    sized-then (premaster key) (λ secret. sized-tested (is_random client && is_random server) _ _ (prf-sized secret MasterSecret (client ++ server) 48))

-- ---- Finished values

pub value-given : (side : Side) (secret hash : List ℕ) → length secret ≡ 48 → length hash ≡ 32
    → (value : List ℕ) × (length value ≡ 12) × (verify_data side secret hash ≡ gives value)
unfolding verify_data
value-given side secret hash h k = (
  expanded secret (text (finished_label side) ++ hash) 12,
  length-expanded secret _ 12,
  rw (eq-eqb (length secret) 48 h, eq-eqb (length hash) 32 k)
      (prf-within secret (finished_label side) hash 12 (omega arith) (omega arith) (omega arith)),
)

-- a hash that is not past its limit has 32 bytes
pub hash-sized : (s : Sha256) → Sized 32 (finished s)
unfolding finished concatenated
hash-sized s bytes e = sized-tested (leb s.count limit) _ _ (λ b f. ap (λ (o : Outcome). length (bytes_of o)) (sym f)) bytes e

pub finished-of-sized : (side : Side) (secret : List ℕ) (s : Sha256) → Sized 12 (finished_of side secret s)
unfolding verify_data
finished-of-sized side secret s =
    sized-then (finished s) (λ hash.
    sized-tested (eqb (length secret) 48 && eqb (length hash) 32) _ _ (prf-sized secret (finished_label side) hash 12))

-- where there is one, the master secret has its length
pub value-master : (side : Side) (secret hash value : List ℕ) → verify_data side secret hash ≡ gives value → length secret ≡ 48
unfolding verify_data
value-master side secret hash value e = go (eqb (length secret) 48) _ refl e
  where
    go : (t : Bool) (r : Refusal) → eqb (length secret) 48 ≡ t
        → cond (t && eqb (length hash) 32) (prf secret (finished_label side) hash 12) (refuses r) ≡ gives value → length secret ≡ 48
    go true r long h = eqb-true _ _ long
    go false r other h = absurd (refuses-gives h)
