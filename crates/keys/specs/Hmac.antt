-- RFC 2104, section 2: HMAC over SHA-256. The number of compressed blocks can be counted from this definition: each HMAC is two digests, and one
-- more where the key is longer than a block.
use Rattle.std.specs.Prelude.{ℕ, ◌-◌, cond, ◌&&◌, List, ◌++◌, map, length, replicate, leb}
use Rattle.std.specs.Int.Bits.{bit_xor}
use Rattle.refusal.specs.Lent.{Outcome, gives, refuses}
use Rattle.refusal.specs.declared.Refusal.TheVariants.{BadValue}
use Rattle.sha256.specs.Hash.{digest, limit}

-- the key with zeros behind it, as long as a block of the hash, 64 bytes
unfoldable pub zero_padded : List ℕ → List ℕ
zero_padded key = key ++ replicate (64 - length key) 0

-- A key longer than a block is hashed first, and its digest is the key.
unfoldable pub key_block : List ℕ → List ℕ
key_block key = zero_padded (cond (leb (length key) 64) key (digest key))

abbrev pub ipad : ℕ
ipad = 0x36

abbrev pub opad : ℕ
opad = 0x5c

-- a block XOR a byte repeated B times
abbrev pub xored : List ℕ → ℕ → List ℕ
xored block pad = map (λ byte. bit_xor byte pad) block

-- H(K XOR opad, H(K XOR ipad, text)), for the key's block
unfoldable pub keyed : List ℕ → List ℕ → List ℕ
keyed block text = digest (xored block opad ++ digest (xored block ipad ++ text))

unfoldable pub mac : List ℕ → List ℕ → List ℕ
mac key text = keyed (key_block key) text

-- document 01, "Secrets": a message takes 64 bytes fewer than the hash does, and a key as many; more is R5
unfoldable pub hmac : List ℕ → List ℕ → Outcome
hmac key text = cond (leb (length text) (limit - 64) && leb (length key) limit) (gives (mac key text)) (refuses BadValue)
