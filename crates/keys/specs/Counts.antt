-- How many 64-byte blocks go through the compression function while a master secret is derived (document 02, P8): those of every digest in its definition
-- (Hmac.antt, Prf.antt, Secrets.antt), where every HMAC starts afresh and hashes a key over 64 bytes each time.
use Rattle.std.specs.Prelude.{ℕ, zero, suc, ◌+◌, ◌/◌, cond, List, ◌++◌, length, leb}
use Rattle.sha256.specs.Hash.{digest}
use Rattle.sha256.specs.Report.{blocks_of}
use Rattle.keys.specs.declared.Label.{Label}
use Rattle.keys.specs.declared.Label.TheVariants.{MasterSecret}
use Rattle.keys.specs.Hmac.{key_block, xored, ipad, opad}
use Rattle.keys.specs.Prf.{a_of, text}
use Rattle.keys.specs.Secrets.{premaster_bytes}

-- of the key's digest, which a key of at most a block does without
unfoldable pub key_blocks : List ℕ → ℕ
key_blocks key = cond (leb (length key) 64) 0 (blocks_of key)

-- of the inner digest and the outer one
unfoldable pub keyed_blocks : List ℕ → List ℕ → ℕ
keyed_blocks block text = blocks_of (xored block ipad ++ text) + blocks_of (xored block opad ++ digest (xored block ipad ++ text))

-- of one HMAC
unfoldable pub mac_blocks : List ℕ → List ℕ → ℕ
mac_blocks key text = key_blocks key + keyed_blocks (key_block key) text

-- of P_hash as far as A(n): for each part the HMAC that makes A(i) of A(i-1), and the HMAC of A(i) + seed
unfoldable pub p_hash_blocks : List ℕ → List ℕ → ℕ → ℕ
p_hash_blocks secret seed zero = 0
p_hash_blocks secret seed (suc n) = p_hash_blocks secret seed n + (mac_blocks secret (a_of secret seed n) + mac_blocks secret (a_of secret seed (suc n) ++ seed))

-- of n bytes of the PRF
unfoldable pub prf_blocks : List ℕ → Label → List ℕ → ℕ → ℕ
prf_blocks secret label seed n = p_hash_blocks secret (text label ++ seed) ((n + 31) / 32)

-- of a master secret
abbrev pub master_blocks : (secret client server : List ℕ) → ℕ
master_blocks secret client server = prf_blocks secret MasterSecret (client ++ server) 48

-- of the master secret under a key
abbrev pub master_under_blocks : (key client server : List ℕ) → ℕ
master_under_blocks key client server = master_blocks (premaster_bytes key) client server
