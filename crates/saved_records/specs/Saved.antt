-- A record connection as 576 bytes, and what 576 bytes stand for: for a host that keeps a connection between calls in memory of its own.
-- proofs/Saving.antt has the law that what was saved is restored, for every value of the type.
use Rattle.std.specs.Prelude.{ℕ, ◌+◌, List, [], ◌∷◌, ◌++◌, get_or, Option}
use Rattle.std.specs.Int.{from_bool}
use Rattle.std.specs.Option.{option_map, option_and_then, option_map_or}
use Rattle.endian.specs.Number.{be, number}
use Rattle.lists.specs.Lists.{part, flag_of}
use Rattle.handshake.specs.Flight.{joined}
use Rattle.records.specs.declared.State.{State}
use Rattle.record_server.specs.declared.RecordConnection.{RecordConnection}
use Rattle.record_server.specs.Connection.{no_alert, closed_with}
use Rattle.saved.specs.Saved as Server

-- a direction's state: whether it is protected (1), the sequence number (8) and the key (32)
abbrev pub state_bytes : State → List ℕ
state_bytes s = from_bool s.protected ∷ (be 8 s.sequence ++ s.key)

-- The server's connection (388), the client's direction (41), the server's direction (41), the pending keys of the client (32) and of the server
-- (32), how many bytes are held (2), and the closing alert's length (1) and field (39).
abbrev pub parts : RecordConnection → List (List ℕ)
parts c =
    Server.saved c.handshake
    ∷ state_bytes c.reading
    ∷ state_bytes c.writing
    ∷ c.pending.client
    ∷ c.pending.server
    ∷ be 2 c.held
    ∷ (c.alert.length ∷ [])
    ∷ c.alert.bytes
    ∷ []

-- the parts, one behind the other
unfoldable pub saved : RecordConnection → List ℕ
saved c = joined (parts c)

-- the state that stands at a place, if its first byte is a bool's
abbrev pub state_in : ℕ → List ℕ → Option State
state_in at bytes =
    option_map (λ p. record { protected = p; sequence = number (part (at + 1) 8 bytes); key = part (at + 9) 32 bytes })
    (flag_of (get_or bytes at 0))

-- the states of the client's direction and of the server's, if both stand there
abbrev pub states : List ℕ → Option (State × State)
states bytes = option_and_then (λ r. option_map (λ w. (r, w)) (state_in 429 bytes)) (state_in 388 bytes)

-- a record connection of these states, each other field read where `saved` puts it
abbrev pub connection_in : List ℕ → State × State → RecordConnection
connection_in bytes (reading, writing) =
    record {
      handshake = Server.restored (part 0 388 bytes);
      reading = reading;
      writing = writing;
      pending = record { client = part 470 32 bytes; server = part 502 32 bytes };
      held = number (part 534 2 bytes);
      alert = record { length = get_or bytes 536 0; bytes = part 537 39 bytes };
    }

-- The record connection that the bytes stand for. Bytes in which the first one of a direction is no bool's can't have come from `saved`, and stand
-- for a closed one. What the first 388 stand for is said where the server's own connection is saved: where they are cleared memory, a closed one too.
unfoldable pub restored : List ℕ → RecordConnection
restored bytes = option_map_or (connection_in bytes) (states bytes) (closed_with no_alert)
