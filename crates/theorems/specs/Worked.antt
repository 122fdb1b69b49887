-- Document 01, "Bytes worked through": V1 to V12 as one table, said of the definitions that the contracts name. proofs/Worked.antt proves it.
use Rattle.std.specs.Prelude.{◌≡◌, ℕ, ◌≤◌, true, false, List, [], ◌∷◌, length, take, drop, replicate, Ok, Err, None, Some}
use Rattle.refusal.specs.Lent.{gives, answer}
use Rattle.refusal.specs.Table.{number_of}
use Rattle.refusal.specs.declared.Refusal.TheVariants.{BadTable, BadValue, ProtocolVersion}
use Rattle.keys.specs.Secrets.{premaster}
use Rattle.layout.specs.Layout.{bytes, valid, written}
use Rattle.layout.specs.Header.{header}
use Rattle.messages.specs.KeyExchange.{server_key_exchange, client_key_exchange, read_vector}
use Rattle.messages.specs.Fixed.{server_hello_done}
use Rattle.messages.specs.NewSessionTicket.{new_session_ticket}
use Rattle.hellos.specs.ClientHello.{ClientHello, client_hello}
use Rattle.utf8.specs.Utf8.{valid_utf8}
use Rattle.keytable.specs.Table.{well_formed, key_of}
use Rattle.handshake.specs.Flight.{flight_bytes}
use Rattle.handshake.specs.Protocol.{suites}
use Rattle.handshake.specs.Step.{refuse, accept}
use Rattle.server.specs.declared.Phase.{Phase}
use Rattle.server.specs.declared.Connection.{Connection}
use Rattle.server.specs.KeyExchange.{View, view_of}
use Rattle.server.specs.Hello.{chosen, offers_null, flight_for, after_hello, hello_fields}
use Rattle.server.specs.Message.{message_step}

-- ---- the bytes that it names

-- "gate7"
abbrev pub gate7 : List ℕ
gate7 = 0x67 ∷ 0x61 ∷ 0x74 ∷ 0x65 ∷ 0x37 ∷ []

-- "gate"
abbrev pub gate : List ℕ
gate = 0x67 ∷ 0x61 ∷ 0x74 ∷ 0x65 ∷ []

-- "gate71"
abbrev pub gate71 : List ℕ
gate71 = 0x67 ∷ 0x61 ∷ 0x74 ∷ 0x65 ∷ 0x37 ∷ 0x31 ∷ []

-- "barn"
abbrev pub barn : List ℕ
barn = 0x62 ∷ 0x61 ∷ 0x72 ∷ 0x6E ∷ []

-- "gate7:abcd" and 0A
abbrev pub table : List ℕ
table = 0x67 ∷ 0x61 ∷ 0x74 ∷ 0x65 ∷ 0x37 ∷ 0x3A ∷ 0x61 ∷ 0x62 ∷ 0x63 ∷ 0x64 ∷ 0x0A ∷ []

-- "gate7:abcd"
abbrev pub unended : List ℕ
unended = 0x67 ∷ 0x61 ∷ 0x74 ∷ 0x65 ∷ 0x37 ∷ 0x3A ∷ 0x61 ∷ 0x62 ∷ 0x63 ∷ 0x64 ∷ []

-- "gate7:abc" and 0A
abbrev pub odd : List ℕ
odd = 0x67 ∷ 0x61 ∷ 0x74 ∷ 0x65 ∷ 0x37 ∷ 0x3A ∷ 0x61 ∷ 0x62 ∷ 0x63 ∷ 0x0A ∷ []

-- the smallest ClientHello of a version: no session id, one suite, one compression method, no block; its random is 32 bytes, here zeros
abbrev pub smallest : ℕ → ClientHello
smallest version =
    record {
      version = version;
      random = replicate 32 0;
      session_id = [];
      suites = 0x00 ∷ 0xAE ∷ [];
      methods = 0x00 ∷ [];
      extensions = None;
    }

abbrev pub smallest_hello : ℕ → List ℕ
smallest_hello version = bytes client_hello (smallest version)

-- R2 of the server: whatever the connection and the list, a ClientKeyExchange that meets the tests on its header is refused so
abbrev pub GivesR2 : List ℕ → Type 0
GivesR2 t =
    (starts : List ℕ) (count : ℕ) (c : Connection) (m : List ℕ) → header 16 m ≡ Ok tt
    → message_step (view_of t starts count) c m Phase.KeyExchange ≡ refuse BadTable

-- ---- the table

pub record BytesWorkedThrough : Type 0 where
  -- the premaster secret of a key of two bytes
  pub v1 : premaster (0xAB ∷ 0xCD ∷ []) ≡ gives (0x00 ∷ 0x02 ∷ 0x00 ∷ 0x00 ∷ 0x00 ∷ 0x02 ∷ 0xAB ∷ 0xCD ∷ [])
  -- how long premaster secrets are, from the shortest key to the longest; no key and one that is longer are R5
  pub v2 : ((psk : List ℕ) → length psk ≡ 1 → answer (premaster psk) ≡ Ok 6)
      × ((psk : List ℕ) → length psk ≡ 64 → answer (premaster psk) ≡ Ok 132)
      × ((psk : List ℕ) → length psk ≡ 0 → answer (premaster psk) ≡ Err BadValue)
      × ((psk : List ℕ) → length psk ≡ 65 → answer (premaster psk) ≡ Err BadValue)
      × (number_of BadValue ≡ 5)
  -- a ClientKeyExchange
  pub v3 : written client_key_exchange gate7 ≡ gives (0x10 ∷ 0x00 ∷ 0x00 ∷ 0x07 ∷ 0x00 ∷ 0x05 ∷ 0x67 ∷ 0x61 ∷ 0x74 ∷ 0x65 ∷ 0x37 ∷ [])
  -- one with an empty identity, to write and to read
  pub v4 : (written client_key_exchange [] ≡ gives (0x10 ∷ 0x00 ∷ 0x00 ∷ 0x02 ∷ 0x00 ∷ 0x00 ∷ []))
      × (read_vector 16 (0x10 ∷ 0x00 ∷ 0x00 ∷ 0x02 ∷ 0x00 ∷ 0x00 ∷ []) ≡ Some [])
  -- a ServerKeyExchange with the hint "barn"
  pub v5 : written server_key_exchange barn ≡ gives (0x0C ∷ 0x00 ∷ 0x00 ∷ 0x06 ∷ 0x00 ∷ 0x04 ∷ 0x62 ∷ 0x61 ∷ 0x72 ∷ 0x6E ∷ [])
  -- ServerHelloDone
  pub v6 : written server_hello_done [] ≡ gives (0x0E ∷ 0x00 ∷ 0x00 ∷ 0x00 ∷ [])
  -- the smallest ClientHello: its lengths and its header; and no other is smaller
  pub v7 : (valid client_hello (smallest 0x0303) ≡ true)
      × (length (client_hello.body (smallest 0x0303)) ≡ 41)
      × (length (smallest_hello 0x0303) ≡ 45)
      × (take 4 (smallest_hello 0x0303) ≡ 0x01 ∷ 0x00 ∷ 0x00 ∷ 0x29 ∷ [])
      × ((f : ClientHello) → valid client_hello f ≡ true → 45 ≤ length (bytes client_hello f))
  -- a NewSessionTicket with a lifetime of an hour
  pub v8 : written new_session_ticket (record { lifetime_hint = 3600; ticket = 0xAA ∷ 0xBB ∷ [] })
      ≡ gives (0x04 ∷ 0x00 ∷ 0x00 ∷ 0x08 ∷ 0x00 ∷ 0x00 ∷ 0x0E ∷ 0x10 ∷ 0x00 ∷ 0x02 ∷ 0xAA ∷ 0xBB ∷ [])
  -- a table of one line: its identity has its key, and neither a part of that identity nor a longer one is listed
  pub v9 : (length table ≡ 11)
      × (well_formed table ≡ true)
      × (key_of table gate7 ≡ Some (0xAB ∷ 0xCD ∷ []))
      × (key_of table gate ≡ None)
      × (key_of table gate71 ≡ None)
  -- the same without its line end, and with a key of three digits
  pub v10 : (well_formed unended ≡ false) × (well_formed odd ≡ false) × GivesR2 unended × GivesR2 odd × (number_of BadTable ≡ 2)
  -- an overlong character, a surrogate, a character past the last one; and the last one
  pub v11 : (valid_utf8 (0xC0 ∷ 0x80 ∷ []) ≡ false)
      × (valid_utf8 (0xED ∷ 0xA0 ∷ 0x80 ∷ []) ≡ false)
      × (valid_utf8 (0xF4 ∷ 0x90 ∷ 0x80 ∷ 0x80 ∷ []) ≡ false)
      × (valid_utf8 (0xF4 ∷ 0x8F ∷ 0xBF ∷ 0xBF ∷ []) ≡ true)
  -- TLS 1.1 gets alert 70, and TLS 1.3's number is answered with TLS 1.2's: of every ClientHello that is refused for nothing else, on any
  -- connection, and of the smallest one. The version stands at bytes 4 and 5 of the answer.
  pub v12 : ((c : Connection) (m : List ℕ) (f : ClientHello) → f.version ≡ 0x0302 → hello_fields c m (Some f) ≡ refuse ProtocolVersion)
      × ((c : Connection) (m : List ℕ) (f : ClientHello) (suite : ℕ)
      → f.version ≡ 0x0304 → offers_null f.methods ≡ true → chosen c.setup.suites f.suites ≡ Some suite
      → hello_fields c m (Some f) ≡ accept (flight_for c suite) (after_hello c m f suite))
      × ((c : Connection) (suite : ℕ) → take 2 (drop 4 (flight_bytes (flight_for c suite))) ≡ 0x03 ∷ 0x03 ∷ [])
      × ((v : View) (c : Connection) → message_step v c (smallest_hello 0x0302) Phase.Hello ≡ refuse ProtocolVersion)
      × ((v : View) (c : Connection) → c.setup.suites ≡ suites → message_step v c (smallest_hello 0x0304) Phase.Hello
      ≡ accept (flight_for c 0x00AE) (after_hello c (smallest_hello 0x0304) (smallest 0x0304) 0x00AE))
      × (number_of ProtocolVersion ≡ 70)
