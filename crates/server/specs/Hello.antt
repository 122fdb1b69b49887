-- Step 1: a ClientHello (document 01, "The server's steps"; RFC 5246, sections 7.4.1.2 and 7.4.1.3).
use Rattle.std.specs.Prelude.{ℕ, Bool, false, cond, not, ◌||◌, List, [], ◌∷◌, ◌++◌, ltb, eqb, Option, None, Some}
use Rattle.endian.specs.Number.{number}
use Rattle.refusal.specs.declared.Refusal.TheVariants.{HandshakeFailure, IllegalParameter, DecodeError, ProtocolVersion}
use Rattle.sha256.specs.State.{absorb}
use Rattle.layout.specs.Layout.{bytes}
use Rattle.hellos.specs.ClientHello.{ClientHello}
use Rattle.hellos.specs.ServerHello.{server_hello}
use Rattle.messages.specs.KeyExchange.{server_key_exchange}
use Rattle.messages.specs.Fixed.{server_hello_done}
use Rattle.handshake.specs.Flight.{Flight, flight_bytes}
use Rattle.handshake.specs.Protocol.{tls12}
use Rattle.handshake.specs.Step.{refuse, accept}
use Rattle.server.specs.declared.Phase.{Phase}
use Rattle.server.specs.declared.Connection.{Connection}
use Rattle.server.specs.Connection.{hint_of}
use Rattle.server.specs.Step.{Step}

-- the client's list, two bytes a suite, has it
abbrev pub offers : List ℕ → ℕ → Bool
offers [] suite = false
offers (a ∷ []) suite = false
offers (a ∷ b ∷ rest) suite = eqb (number (a ∷ b ∷ [])) suite || offers rest suite

-- the first of ours that the client lists
abbrev pub chosen : List ℕ → List ℕ → Option ℕ
chosen [] offered = None
chosen (s ∷ ss) offered = cond (offers offered s) (Some s) (chosen ss offered)

-- the compression method 0, null, is among them
abbrev pub offers_null : List ℕ → Bool
offers_null [] = false
offers_null (m ∷ ms) = eqb m 0 || offers_null ms

-- a ServerKeyExchange only where there is a hint
abbrev pub hint_message : List ℕ → List (List ℕ)
hint_message [] = []
hint_message (b ∷ hint) = bytes server_key_exchange (b ∷ hint) ∷ []

-- the answer: ServerHello with an empty session id, compression 0 and no extension block, the hint's message, ServerHelloDone
abbrev pub flight : (random hint : List ℕ) → ℕ → Flight
flight random hint suite =
    record {
      plain =
          bytes server_hello (record { version = tls12; random = random; session_id = []; suite = suite; compression = 0; extensions = None })
          ∷ (hint_message hint ++ (bytes server_hello_done [] ∷ []));
      protected = [];
    }

abbrev pub flight_for : Connection → ℕ → Flight
flight_for c suite = flight c.setup.random (hint_of c.setup) suite

-- after the hello m, which chose the suite, and its answer
abbrev pub after_hello : Connection → List ℕ → ClientHello → ℕ → Connection
after_hello c m f suite =
    record {
      phase = Phase.KeyExchange;
      setup = c.setup;
      client = record { random = f.random; suite = suite; listed = false };
      secrets = c.secrets;
      transcript = absorb (absorb c.transcript m) (flight_bytes (flight_for c suite));
    }

abbrev pub hello_chosen : Connection → List ℕ → ClientHello → Option ℕ → Step
hello_chosen c m f None = refuse HandshakeFailure
hello_chosen c m f (Some suite) = accept (flight_for c suite) (after_hello c m f suite)

-- In order: 50 for the layout, 70 for a version below ours, 47 without compression method 0 (house), 40 with none of our suites.
abbrev pub hello_fields : Connection → List ℕ → Option ClientHello → Step
hello_fields c m None = refuse DecodeError
hello_fields c m (Some f) =
    cond (ltb f.version tls12) (refuse ProtocolVersion)
    (cond (not (offers_null f.methods)) (refuse IllegalParameter)
    (hello_chosen c m f (chosen c.setup.suites f.suites)))
