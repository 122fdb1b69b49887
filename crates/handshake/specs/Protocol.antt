-- What both sides of the handshake speak: the version, and document 01's three suites.
use Rattle.std.specs.Prelude.{ℕ, List, [], ◌∷◌}

-- the version of the protocol that we speak, TLS 1.2
abbrev pub tls12 : ℕ
tls12 = 0x0303

-- TLS_PSK_WITH_AES_128_CBC_SHA256, TLS_PSK_WITH_AES_128_CBC_SHA and TLS_PSK_WITH_NULL_SHA256, in the order in which a server chooses and a client offers
abbrev pub suites : List ℕ
suites = 0x00ae ∷ 0x008c ∷ 0x00b0 ∷ []
