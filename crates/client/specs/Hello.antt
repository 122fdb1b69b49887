-- A ServerHello (document 02, P7; RFC 5246, section 7.4.1.3).
use Rattle.std.specs.Prelude.{ℕ, Bool, true, false, cond, not, ◌||◌, List, [], ◌∷◌, eqb, Option, None, Some}
use Rattle.refusal.specs.declared.Refusal.{Refusal}
use Rattle.refusal.specs.declared.Refusal.TheVariants.{DecodeError, IllegalParameter, ProtocolVersion, UnsupportedExtension}
use Rattle.sha256.specs.State.{absorb}
use Rattle.hellos.specs.ServerHello.{ServerHello}
use Rattle.handshake.specs.Flight.{silence}
use Rattle.handshake.specs.Protocol.{tls12, suites}
use Rattle.handshake.specs.Step.{refuse, accept}
use Rattle.client.specs.declared.Phase.{Phase}
use Rattle.client.specs.declared.Connection.{Connection}
use Rattle.client.specs.Step.{Step}

-- the suite is one of these
abbrev pub among : List ℕ → ℕ → Bool
among [] suite = false
among (s ∷ ss) suite = eqb suite s || among ss suite

-- What a version other than ours is refused with (house): the suites with SHA-256 are TLS 1.2's alone, so that their number is wrong in any other; 0x008C is
-- also a suite of the versions before, which we do not speak.
abbrev pub other_version : ℕ → Refusal
other_version suite = cond (eqb suite 0x008c) ProtocolVersion IllegalParameter

-- no extension: the block is absent or empty
abbrev pub bare : Option (List ℕ) → Bool
bare None = true
bare (Some []) = true
bare (Some (b ∷ block)) = false

-- after the hello m
abbrev pub after_hello : Connection → List ℕ → ServerHello → Connection
after_hello c m f =
    record {
      phase = Phase.KeyExchange;
      setup = c.setup;
      server = record { random = f.random; suite = f.suite };
      secrets = c.secrets;
      transcript = absorb c.transcript m;
    }

-- In order: 50 for the layout, 47 for a suite that was not offered, 47 or 70 for another version, 47 for a compression other than null, 110 for any extension.
-- The session id is not judged.
abbrev pub hello_step : Connection → List ℕ → Option ServerHello → Step
hello_step c m None = refuse DecodeError
hello_step c m (Some f) =
    cond (not (among suites f.suite)) (refuse IllegalParameter)
    (cond (not (eqb f.version tls12)) (refuse (other_version f.suite))
    (cond (not (eqb f.compression 0)) (refuse IllegalParameter)
    (cond (not (bare f.extensions)) (refuse UnsupportedExtension)
    (accept silence (after_hello c m f)))))
