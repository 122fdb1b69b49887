-- ServerKeyExchange (RFC 4279, section 2: psk_identity_hint<0..2^16-1>) and ClientKeyExchange (psk_identity<0..2^16-1>): one vector is the body.
use Rattle.std.specs.Prelude.{ℕ, List, [], Option, None, Some}
use Rattle.endian.specs.Vector.{vector, writable}
use Rattle.layout.specs.declared.Part.{Part}
use Rattle.layout.specs.Types.{server_key_exchange_type, client_key_exchange_type}
use Rattle.layout.specs.Layout.{Layout}
use Rattle.layout.specs.Header.{header}
use Rattle.layout.specs.Place.{last_at, after_header, contents}

-- the message of this type whose one field is the vector's contents
abbrev pub vector_message : ℕ → Layout (List ℕ)
vector_message kind = record { kind = kind; rules = writable 2; body = vector 2 }

-- the field is the hint
abbrev pub server_key_exchange : Layout (List ℕ)
server_key_exchange = vector_message server_key_exchange_type

-- the field is the identity
abbrev pub client_key_exchange : Layout (List ℕ)
client_key_exchange = vector_message client_key_exchange_type

abbrev pub vector_place : ℕ → List ℕ → Option Part
vector_place kind m = after_header (header kind m) (last_at 2 m 4)

-- the fields that a reader finds
abbrev pub read_vector : ℕ → List ℕ → Option (List ℕ)
read_vector kind m = contents m (vector_place kind m)

-- of a message that is refused no byte
abbrev pub or_empty : Option (List ℕ) → List ℕ
or_empty None = []
or_empty (Some xs) = xs

abbrev pub identity_in : List ℕ → List ℕ
identity_in m = or_empty (read_vector client_key_exchange_type m)
