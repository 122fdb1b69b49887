-- A connection as 388 bytes, and what 388 bytes stand for: for a host that keeps a connection between calls in memory of its own.
-- proofs/Saving.antt has the law that what was saved is restored, for every value of the type.
use Rattle.std.specs.Prelude.{ℕ, Bool, List, [], ◌∷◌, get_or, flat_map, Option}
use Rattle.std.specs.Int.{from_bool}
use Rattle.std.specs.Option.{option_map, option_and_then, option_map_or}
use Rattle.endian.specs.Number.{be, number}
use Rattle.sha256.specs.Saved as Hash
use Rattle.lists.specs.Lists.{part, flag_of}
use Rattle.handshake.specs.Flight.{joined}
use Rattle.server.specs.declared.Rule.{Rule}
use Rattle.server.specs.declared.Phase.{Phase}
use Rattle.server.specs.declared.Setup.{Setup}
use Rattle.server.specs.declared.Connection.{Connection}
use Rattle.server.specs.Connection.{ended}
use Rattle.server.specs.Bytes.{phase_of, rule_byte, rule_of}
pub use Rattle.server.specs.Bytes.{phase_byte}

-- phase, rule, whether the identity is listed, and the hint's length (1 byte each), and the suite that was chosen (2)
abbrev pub head : Connection → List ℕ
head c = phase_byte c.phase ∷ rule_byte c.setup.rule ∷ from_bool c.client.listed ∷ c.setup.hint_length ∷ be 2 c.client.suite

-- numbers of two bytes each, one behind the other
abbrev pub pairs : List ℕ → List ℕ
pairs ns = flat_map (be 2) ns

-- Those 6 bytes, our suites (6), the hint's field (128), the stand-in key (32), the server's random (32), the client's random (32), the master
-- secret (48) and the transcript (104).
abbrev pub parts : Connection → List (List ℕ)
parts c =
    head c
    ∷ pairs c.setup.suites
    ∷ c.setup.hint
    ∷ c.setup.stand_in
    ∷ c.setup.random
    ∷ c.client.random
    ∷ c.secrets.master
    ∷ Hash.saved c.transcript
    ∷ []

-- the parts, one behind the other
unfoldable pub saved : Connection → List ℕ
saved c = joined (parts c)

-- the phase, the rule and whether the identity is listed, where the three bytes are those of some
abbrev pub kinds : (phase rule listed : ℕ) → Option (Phase × Rule × Bool)
kinds phase rule listed =
    option_and_then (λ p. option_and_then (λ r. option_map (λ l. (p, r, l)) (flag_of listed)) (rule_of rule)) (phase_of phase)

-- what start was given, behind the rule: each field read where `saved` puts it
abbrev pub setup_in : Rule → List ℕ → Setup
setup_in rule bytes =
    record {
      rule = rule;
      suites = number (part 6 2 bytes) ∷ number (part 8 2 bytes) ∷ number (part 10 2 bytes) ∷ [];
      hint_length = get_or bytes 3 0;
      hint = part 12 128 bytes;
      stand_in = part 140 32 bytes;
      random = part 172 32 bytes;
    }

-- a connection of these kinds, each other field read where `saved` puts it
abbrev pub connection_in : List ℕ → Phase × Rule × Bool → Connection
connection_in bytes (phase, rule, listed) =
    record {
      phase = phase;
      setup = setup_in rule bytes;
      client = record { random = part 204 32 bytes; suite = number (part 4 2 bytes); listed = listed };
      secrets = record { master = part 236 48 bytes };
      transcript = Hash.restored (part 284 104 bytes);
    }

-- The connection that the bytes stand for. Bytes that can't have come from `saved`, cleared memory among them, stand for a closed one, which answers
-- every call with R4.
unfoldable pub restored : List ℕ → Connection
restored bytes =
    option_map_or (connection_in bytes) (kinds (get_or bytes 0 0) (get_or bytes 1 0) (get_or bytes 2 0)) (ended Phase.Closed)
