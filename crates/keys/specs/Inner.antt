-- What the contracts of private functions cite: HMAC's two hashes under a key. Nothing that a public contract says stands here.
use Rattle.std.specs.Prelude.{ℕ, ◌^◌, ◌≤◌, ◌≡◌, List}
use Rattle.sha256.specs.State.{absorb, fresh}
use Rattle.keys.specs.declared.mac.Keyed.{Keyed}
use Rattle.keys.specs.declared.mac.Mac.{Mac}
use Rattle.keys.specs.Hmac.{key_block, xored, ipad, opad, mac}
use Rattle.keys.specs.Counts.{key_blocks, mac_blocks}

-- each hash has absorbed the key's block XOR its pad
abbrev pub keyed_by : List ℕ → Keyed
keyed_by key =
    record { inner = absorb fresh (xored (key_block key) ipad); outer = absorb fresh (xored (key_block key) opad); blocks = key_blocks key }

-- the two hashes under a secret, whose count of blocks is within its bound
pub record Keys (secret : List ℕ) (k : Keyed) : Type 0 where
  pub hashes : k ≡ keyed_by secret
  pub few : k.blocks ≤ 2 ^ 56

-- the HMAC of a text under a key, and its blocks
pub record Macs (key text : List ℕ) (m : Mac) : Type 0 where
  pub value : m.value ≡ mac key text
  pub blocks : m.blocks ≡ mac_blocks key text
