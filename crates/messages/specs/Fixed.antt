-- Messages whose body has a fixed length: ServerHelloDone (RFC 5246, section 7.4.5: no body) and Finished (section 7.4.9: verify_data, 12 bytes).
use Rattle.std.specs.Prelude.{ℕ, List, length, eqb, Option}
use Rattle.layout.specs.declared.Part.{Part}
use Rattle.layout.specs.Types.{server_hello_done_type, finished_type}
use Rattle.layout.specs.Layout.{Layout}
use Rattle.layout.specs.Header.{header}
use Rattle.layout.specs.Place.{filled_by, after_header, contents}

-- the message of this type whose one field is its body, n bytes
abbrev pub fixed_message : ℕ → ℕ → Layout (List ℕ)
fixed_message kind n = record { kind = kind; rules = λ xs. eqb (length xs) n; body = λ xs. xs }

abbrev pub server_hello_done : Layout (List ℕ)
server_hello_done = fixed_message server_hello_done_type 0

-- the field is the verify_data: 12 bytes under each of our suites
abbrev pub verify_data_size : ℕ
verify_data_size = 12

abbrev pub finished : Layout (List ℕ)
finished = fixed_message finished_type verify_data_size

abbrev pub fixed_place : ℕ → ℕ → List ℕ → Option Part
fixed_place kind n m = after_header (header kind m) (filled_by n m)

-- the fields that a reader finds
abbrev pub read_fixed : ℕ → ℕ → List ℕ → Option (List ℕ)
read_fixed kind n m = contents m (fixed_place kind n m)
