-- A ServerKeyExchange, which brings a hint, and a ServerHelloDone, which is answered with ClientKeyExchange and Finished (document 02, P7; RFC 4279, sections 2
-- and 5.2; RFC 5246, sections 7.4.7 and 7.4.9).
use Rattle.std.specs.Prelude.{ℕ, List, [], ◌∷◌, Option, None, Some}
use Rattle.refusal.specs.declared.Refusal.TheVariants.{DecodeError, DecryptError}
use Rattle.refusal.specs.Lent.{Outcome, gives, refuses}
use Rattle.sha256.specs.declared.Sha256.{Sha256}
use Rattle.sha256.specs.State.{absorb}
use Rattle.keys.specs.Counts.{master_under_blocks}
use Rattle.keys.specs.declared.Side.TheVariants.{Client}
use Rattle.keys.specs.Secrets.{master_under, finished_of}
use Rattle.layout.specs.Layout.{bytes}
use Rattle.messages.specs.KeyExchange.{client_key_exchange}
use Rattle.messages.specs.Fixed.{finished}
use Rattle.handshake.specs.Flight.{Flight, silence}
use Rattle.handshake.specs.Step.{refuse, accept}
use Rattle.client.specs.declared.Phase.{Phase}
use Rattle.client.specs.declared.Connection.{Connection}
use Rattle.client.specs.Connection.{identity_of, key_of}
use Rattle.client.specs.Step.{Step}

-- ---- the hint: 50 for the layout, and what it says is ignored (RFC 4279, section 5.2)

-- after the ServerKeyExchange m
abbrev pub after_hint : Connection → List ℕ → Connection
after_hint c m =
    record { phase = Phase.Done; setup = c.setup; server = c.server; secrets = c.secrets; transcript = absorb c.transcript m }

abbrev pub hint_step : Connection → List ℕ → Option (List ℕ) → Step
hint_step c m None = refuse DecodeError
hint_step c m (Some hint) = accept silence (after_hint c m)

-- ---- the answer to ServerHelloDone: ClientKeyExchange, and Finished behind the client's change of cipher

abbrev pub exchange_of : Connection → List ℕ
exchange_of c = bytes client_key_exchange (identity_of c.setup)

abbrev pub answer_with : (exchange value : List ℕ) → Flight
answer_with exchange value = record { plain = exchange ∷ []; protected = bytes finished value ∷ [] }

-- every message before the client's Finished: m is the ServerHelloDone
abbrev pub before_finished : Connection → List ℕ → Sha256
before_finished c m = absorb (absorb c.transcript m) (exchange_of c)

-- after it: the transcript has the client's Finished too, which the server's counts
abbrev pub after_done : Connection → List ℕ → (master value : List ℕ) → Connection
after_done c m master value =
    record {
      phase = Phase.Change;
      setup = c.setup;
      server = c.server;
      secrets = record { master = master };
      transcript = absorb (before_finished c m) (bytes finished value);
    }

-- Where there is no value, the transcript being past the hash's limit, or no master secret, the key being empty, it is 51: no series of calls gets there.
abbrev pub finished_with : Connection → List ℕ → List ℕ → Outcome → Step
finished_with c m master (gives value) = accept (answer_with (exchange_of c) value) (after_done c m master value)
finished_with c m master (refuses r) = refuse DecryptError

abbrev pub exchange_with : Connection → List ℕ → Outcome → Step
exchange_with c m (gives master) = finished_with c m master (finished_of Client master (before_finished c m))
exchange_with c m (refuses r) = refuse DecryptError

-- the master secret is that of the key, with the client's random before the server's
abbrev pub exchanged : Connection → List ℕ → Step
exchanged c m = exchange_with c m (master_under (key_of c.setup) c.setup.random c.server.random)

-- how many blocks are hashed for the master secret (document 02, P8)
abbrev pub blocks_under : Connection → ℕ
blocks_under c = master_under_blocks (key_of c.setup) c.setup.random c.server.random

-- 50 for a body that is not empty
abbrev pub done_step : Connection → List ℕ → Option (List ℕ) → Step
done_step c m None = refuse DecodeError
done_step c m (Some body) = exchanged c m
