-- A client's connection as 413 bytes, and what 413 bytes stand for: for a host that keeps a connection between calls in memory of its own.
-- proofs/Saving.antt has the law that what was saved is restored, for every value of the type.
use Rattle.std.specs.Prelude.{ℕ, List, [], ◌∷◌, get_or}
use Rattle.std.specs.Option.{option_map_or}
use Rattle.endian.specs.Number.{be, number}
use Rattle.sha256.specs.Saved as Hash
use Rattle.lists.specs.Lists.{part}
use Rattle.handshake.specs.Flight.{joined}
use Rattle.client.specs.declared.Phase.{Phase}
use Rattle.client.specs.declared.Setup.{Setup}
use Rattle.client.specs.declared.Negotiated.{Negotiated}
use Rattle.client.specs.declared.Connection.{Connection}
use Rattle.client.specs.Connection.{ended}
use Rattle.client.specs.Bytes.{phase_of}
pub use Rattle.client.specs.Bytes.{phase_byte}

-- phase, the identity's length and the key's length (1 byte each), and the suite that the server chose (2)
abbrev pub head : Connection → List ℕ
head c = phase_byte c.phase ∷ c.setup.identity_length ∷ c.setup.key_length ∷ be 2 c.server.suite

-- Those 5 bytes, the identity's field (128), the key's field (64), the client's random (32), the server's random (32), the master secret (48) and the
-- transcript (104).
abbrev pub parts : Connection → List (List ℕ)
parts c =
    head c
    ∷ c.setup.identity
    ∷ c.setup.key
    ∷ c.setup.random
    ∷ c.server.random
    ∷ c.secrets.master
    ∷ Hash.saved c.transcript
    ∷ []

-- the parts, one behind the other
unfoldable pub saved : Connection → List ℕ
saved c = joined (parts c)

-- what start was given, each field read where `saved` puts it
abbrev pub setup_in : List ℕ → Setup
setup_in bytes =
    record {
      identity_length = get_or bytes 1 0;
      identity = part 5 128 bytes;
      key_length = get_or bytes 2 0;
      key = part 133 64 bytes;
      random = part 197 32 bytes;
    }

-- what the server said, each field read where `saved` puts it
abbrev pub server_in : List ℕ → Negotiated
server_in bytes = record { random = part 229 32 bytes; suite = number (part 3 2 bytes) }

-- a connection of this phase, each other field read where `saved` puts it
abbrev pub connection_in : List ℕ → Phase → Connection
connection_in bytes phase =
    record {
      phase = phase;
      setup = setup_in bytes;
      server = server_in bytes;
      secrets = record { master = part 261 48 bytes };
      transcript = Hash.restored (part 309 104 bytes);
    }

-- The connection that the bytes stand for. Bytes that begin with no phase's byte can't have come from `saved`, and stand for a closed one. Cleared
-- memory begins with the byte of a closed connection, which answers every call with R4, whatever else it holds.
unfoldable pub restored : List ℕ → Connection
restored bytes = option_map_or (connection_in bytes) (phase_of (get_or bytes 0 0)) (ended Phase.Closed)
