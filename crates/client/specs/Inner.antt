-- What the contracts of private functions cite: results as the code's own types have them, and parts of a step. Nothing that a public contract says stands here.
use Rattle.std.specs.Prelude.{ℕ, List, take, drop}
use Rattle.sha256.specs.declared.Sha256.{Sha256}
use Rattle.sha256.specs.State.{absorb}
use Rattle.client.specs.declared.Phase.{Phase}
use Rattle.client.specs.declared.Connection.{Connection}

-- after the hello m, whose random stands at 6
abbrev pub after_hello_with : Connection → List ℕ → ℕ → Connection
after_hello_with c m suite =
    record {
      phase = Phase.KeyExchange;
      setup = c.setup;
      server = record { random = take 32 (drop 6 m); suite = suite };
      secrets = c.secrets;
      transcript = absorb c.transcript m;
    }

-- after the answer to ServerHelloDone, with this master secret and these messages
abbrev pub after_done_with : Connection → List ℕ → Sha256 → Connection
after_done_with c master transcript =
    record {
      phase = Phase.Change;
      setup = c.setup;
      server = c.server;
      secrets = record { master = master };
      transcript = transcript;
    }
