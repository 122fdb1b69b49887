-- RFC 4279, section 2, and RFC 5246, sections 8.1, 6.3 and 7.4.9, as document 01's "Secrets" fixes them.
use Rattle.std.specs.Prelude.{ℕ, Bool, cond, ◌&&◌, List, ◌++◌, length, replicate, leb, eqb}
use Rattle.endian.specs.Number.{be}
use Rattle.refusal.specs.Lent.{Outcome, gives, refuses, and_then}
use Rattle.refusal.specs.declared.Refusal.TheVariants.{BadValue}
use Rattle.sha256.specs.declared.Sha256.{Sha256}
use Rattle.sha256.specs.State.{finished}
use Rattle.keys.specs.declared.Label.{Label}
use Rattle.keys.specs.declared.Label.TheVariants.{MasterSecret, KeyExpansion, ClientFinished, ServerFinished}
use Rattle.keys.specs.declared.Side.{Side}
use Rattle.keys.specs.declared.Side.TheVariants.{Client, Server}
use Rattle.keys.specs.Prf.{prf}

-- RFC 4279: for a PSK of N bytes, N as two bytes, N zero bytes, N as two bytes again, and the PSK
unfoldable pub premaster_bytes : List ℕ → List ℕ
premaster_bytes psk = be 2 (length psk) ++ (replicate (length psk) 0 ++ (be 2 (length psk) ++ psk))

-- of 1 to 64 bytes; other lengths are R5
unfoldable pub premaster : List ℕ → Outcome
premaster psk = cond (leb 1 (length psk) && leb (length psk) 64) (gives (premaster_bytes psk)) (refuses BadValue)

abbrev pub is_random : List ℕ → Bool
is_random random = eqb (length random) 32

-- n bytes of the PRF whose seed is two randoms, one after the other; a random of other than 32 bytes is R5
abbrev pub prf_of_randoms : List ℕ → Label → List ℕ → List ℕ → ℕ → Outcome
prf_of_randoms secret label first second n = cond (is_random first && is_random second) (prf secret label (first ++ second) n) (refuses BadValue)

-- RFC 5246, 8.1: PRF(pre_master_secret, "master secret", ClientHello.random + ServerHello.random)[0..47]
abbrev pub master : List ℕ → List ℕ → List ℕ → Outcome
master secret client server = prf_of_randoms secret MasterSecret client server 48

-- the master secret under a key
abbrev pub master_under : (key client server : List ℕ) → Outcome
master_under key client server = and_then (premaster key) (λ secret. master secret client server)

-- RFC 5487 and RFC 4279, the keys that RFC 5246, 6.3 cuts from the key block, with no IVs: 0x00AE takes two MAC keys of 32 bytes and two keys of 16,
-- 0x008C two of 20 and two of 16, and 0x00B0 two of 32. Other suites are none of ours.
abbrev pub key_block_length : ℕ → ℕ
key_block_length suite = cond (eqb suite 0x00ae) 96 (cond (eqb suite 0x008c) 72 (cond (eqb suite 0x00b0) 64 0))

-- RFC 5246, 6.3: PRF(master_secret, "key expansion", server_random + client_random)
unfoldable pub keys : List ℕ → List ℕ → List ℕ → ℕ → Outcome
keys secret server client suite =
    cond (eqb (length secret) 48 && is_random server && is_random client && leb 1 (key_block_length suite))
    (prf secret KeyExpansion (server ++ client) (key_block_length suite))
    (refuses BadValue)

-- RFC 5246, 7.4.9: each side has a label of its own
abbrev pub finished_label : Side → Label
finished_label Client = ClientFinished
finished_label Server = ServerFinished

-- RFC 5246, 7.4.9: PRF(master_secret, finished_label, Hash(handshake_messages))[0..11]
unfoldable pub verify_data : Side → List ℕ → List ℕ → Outcome
verify_data side secret hash =
    cond (eqb (length secret) 48 && eqb (length hash) 32) (prf secret (finished_label side) hash 12) (refuses BadValue)

-- the Finished value of a side over a transcript, whose seed is SHA-256 of all its messages; none past the hash's limit, which no series of calls
-- reaches
abbrev pub finished_of : Side → List ℕ → Sha256 → Outcome
finished_of side secret transcript = and_then (finished transcript) (verify_data side secret)
