-- Step 2: a ClientKeyExchange (document 01, "The server's steps"; RFC 4279, section 2).
use Rattle.std.specs.Prelude.{ℕ, Bool, true, false, List, Option, None, Some}
use Rattle.refusal.specs.declared.Refusal.{Refusal}
use Rattle.refusal.specs.declared.Refusal.TheVariants.{DecodeError, UnknownPskIdentity}
use Rattle.refusal.specs.Lent.{bytes_of}
use Rattle.sha256.specs.State.{absorb}
use Rattle.keys.specs.Secrets.{master_under}
use Rattle.keys.specs.Counts.{master_under_blocks}
use Rattle.keytable.specs.Starts.{list_refusal}
use Rattle.keytable.specs.Table.{key_of}
use Rattle.keytable.specs.declared.Table.{Table}
use Rattle.handshake.specs.Flight.{silence}
use Rattle.handshake.specs.Step.{refuse, accept}
use Rattle.server.specs.declared.Rule.{Rule}
use Rattle.server.specs.declared.Phase.{Phase}
use Rattle.server.specs.declared.Connection.{Connection}
use Rattle.server.specs.Step.{Step}

-- What the server knows of a key table and the list of its line starts: which refusal they come to, if any, and a lookup from identity to key. The list
-- does not change what is looked up: one that is not the table's own is refused (document 02, P6).
pub record View : Type 0 where
  pub refusal : Option Refusal
  pub lookup : List ℕ → Option (List ℕ)

abbrev pub view_of : List ℕ → List ℕ → ℕ → View
view_of table starts count = record { refusal = list_refusal table starts count; lookup = key_of table }

-- the same of what the code is lent
abbrev pub view : Table → View
view table = view_of table.bytes.now table.starts.now table.count

-- After the key exchange m. A key of 1 to 64 bytes, which every key of a table is, has a master secret.
abbrev pub after_keys : Connection → List ℕ → List ℕ → Bool → Connection
after_keys c m key listed =
    record {
      phase = Phase.Change;
      setup = c.setup;
      client = record { random = c.client.random; suite = c.client.suite; listed = listed };
      secrets = record { master = bytes_of (master_under key c.client.random c.setup.random) };
      transcript = absorb c.transcript m;
    }

-- ---- how many blocks are hashed for the master secret (document 02, P8)

-- the key that it is derived from: the identity's, or the stand-in key for one that isn't listed
abbrev pub key_used : Connection → Option (List ℕ) → List ℕ
key_used c None = c.setup.stand_in
key_used c (Some key) = key

abbrev pub blocks_under : Connection → List ℕ → ℕ
blocks_under c key = master_under_blocks key c.client.random c.setup.random

abbrev pub identity_blocks : (List ℕ → Option (List ℕ)) → Connection → Option (List ℕ) → ℕ
identity_blocks lookup c None = 0
identity_blocks lookup c (Some identity) = blocks_under c (key_used c (lookup identity))

-- ---- the step

-- an identity that isn't listed: 115 under tell; under hide the stand-in key serves, and it is noted that the identity is unlisted
abbrev pub unlisted : Rule → Connection → List ℕ → Step
unlisted Rule.Tell c m = refuse UnknownPskIdentity
unlisted Rule.Hide c m = accept silence (after_keys c m c.setup.stand_in false)

abbrev pub key_found : Connection → List ℕ → Option (List ℕ) → Step
key_found c m None = unlisted c.setup.rule c m
key_found c m (Some key) = accept silence (after_keys c m key true)

-- 50 for the layout
abbrev pub key_identity : (List ℕ → Option (List ℕ)) → Connection → List ℕ → Option (List ℕ) → Step
key_identity lookup c m None = refuse DecodeError
key_identity lookup c m (Some identity) = key_found c m (lookup identity)
