-- A client's connection, and start (document 02, P7; RFC 5246, section 7.4.1.2).
use Rattle.std.specs.Prelude.{ℕ, Bool, true, false, cond, ◌&&◌, List, [], ◌∷◌, map, length, take, replicate, eqb, None}
use Rattle.lists.specs.Lists.{field}
use Rattle.endian.specs.Number.{be}
use Rattle.refusal.specs.Lent.{Outcome, gives, refuses, within, answer, after}
use Rattle.refusal.specs.declared.Refusal.TheVariants.{BadSetting}
use Rattle.sha256.specs.State.{fresh, absorb}
use Rattle.keytable.specs.Table.{valid_identity, valid_secret}
use Rattle.layout.specs.Layout.{bytes}
use Rattle.hellos.specs.ClientHello.{ClientHello, client_hello}
use Rattle.handshake.specs.Flight.{joined}
use Rattle.handshake.specs.Protocol.{tls12, suites}
use Rattle.handshake.specs.Step.{Settled}
use Rattle.client.specs.declared.Phase.{Phase}
use Rattle.client.specs.declared.Setup.{Setup}
use Rattle.client.specs.declared.Negotiated.{Negotiated}
use Rattle.client.specs.declared.Secrets.{Secrets}
use Rattle.client.specs.declared.Connection.{Connection}

-- ---- start: what it is given

pub record Settings : Type 0 where
  pub random : List ℕ
  pub identity : List ℕ
  pub key : List ℕ

-- R3 where it fails: a random of another length, an identity or a key that a key table does not allow
abbrev pub acceptable : Settings → Bool
acceptable s = eqb (length s.random) 32 && valid_identity s.identity && valid_secret s.key

-- ---- the ClientHello: TLS 1.2, no session id, our three suites in their order, null compression, no extension block

-- two bytes a suite
abbrev pub offered : List ℕ
offered = joined (map (be 2) suites)

abbrev pub hello_fields : List ℕ → ClientHello
hello_fields random =
    record { version = tls12; random = random; session_id = []; suites = offered; methods = 0 ∷ []; extensions = None }

abbrev pub hello : List ℕ → List ℕ
hello random = bytes client_hello (hello_fields random)

-- ---- the connection

abbrev pub identity_limit : ℕ
identity_limit = 128

abbrev pub key_limit : ℕ
key_limit = 64

-- what start was given, as a connection keeps it
abbrev pub setup_of : Settings → Setup
setup_of s =
    record {
      identity_length = length s.identity;
      identity = field identity_limit s.identity;
      key_length = length s.key;
      key = field key_limit s.key;
      random = s.random;
    }

-- the identity and the key that the connection was started with
abbrev pub identity_of : Setup → List ℕ
identity_of s = take s.identity_length s.identity

abbrev pub key_of : Setup → List ℕ
key_of s = take s.key_length s.key

-- before the server has said anything, and where it has said its last
abbrev pub nothing_said : Negotiated
nothing_said = record { random = replicate 32 0; suite = 0 }

abbrev pub no_secrets : Secrets
no_secrets = record { master = replicate 48 0 }

-- the hello that was sent is the transcript's first message
abbrev pub begun : Setup → Connection
begun setup =
    record { phase = Phase.Hello; setup = setup; server = nothing_said; secrets = no_secrets; transcript = absorb fresh (hello setup.random) }

-- the connection that an accepted start gives
unfoldable pub started : Settings → Connection
started s = begun (setup_of s)

abbrev pub no_setup : Setup
no_setup =
    record {
      identity_length = 0;
      identity = replicate identity_limit 0;
      key_length = 0;
      key = replicate key_limit 0;
      random = replicate 32 0;
    }

-- a connection that is over: one fixed value for each way that it ended, with no secret and no trace of either side in it
abbrev pub ended : Phase → Connection
ended phase = record { phase = phase; setup = no_setup; server = nothing_said; secrets = no_secrets; transcript = fresh }

-- it is complete or closed
abbrev pub is_over : Phase → Bool
is_over Phase.Hello = false
is_over Phase.KeyExchange = false
is_over Phase.Done = false
is_over Phase.Change = false
is_over Phase.Finished = false
is_over Phase.Complete = true
is_over Phase.Closed = true

-- ---- what start answers: R3, then R1; neither makes a connection, and what comes back is one that is over

abbrev pub start_outcome : Settings → Outcome
start_outcome s = cond (acceptable s) (gives (hello s.random)) (refuses BadSetting)

abbrev pub connection_made : Settings → Outcome → Connection
connection_made s (gives b) = started s
connection_made s (refuses r) = ended Phase.Closed

abbrev pub start_call : Settings → List ℕ → Settled Connection
start_call s out =
    record {
      said = answer (within (length out) (start_outcome s));
      out = after (within (length out) (start_outcome s)) out;
      next = connection_made s (within (length out) (start_outcome s));
    }
