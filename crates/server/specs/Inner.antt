-- What the contracts of private functions cite: results as the code's own types have them, and parts of a step. Nothing that a public contract says stands here.
use Rattle.std.specs.Prelude.{ℕ, ◌+◌, Bool, false, cond, ◌&&◌, List, [], ◌∷◌, ◌++◌, length, take, drop, eqb}
use Rattle.sha256.specs.State.{absorb}
use Rattle.keys.specs.Secrets.{finished_of}
use Rattle.keys.specs.declared.Side.TheVariants.{Client, Server}
use Rattle.layout.specs.Layout.{bytes}
use Rattle.messages.specs.Fixed.{server_hello_done}
use Rattle.handshake.specs.Finished.{is_value}
use Rattle.handshake.specs.Flight.{joined}
use Rattle.server.specs.declared.Phase.{Phase}
use Rattle.server.specs.declared.Connection.{Connection}
use Rattle.server.specs.Step.{Step}
use Rattle.server.specs.Hello.{hint_message}
use Rattle.server.specs.Finished.{completed}

-- a ServerKeyExchange of so many bytes, or none without a hint
abbrev pub hint_message_length : ℕ → ℕ
hint_message_length hint = cond (eqb hint 0) 0 (6 + hint)

-- what stands behind the ServerHello
abbrev pub rest_of : List ℕ → List ℕ
rest_of hint = joined (hint_message hint ++ (bytes server_hello_done [] ∷ []))

-- bytes at the front of an output
abbrev pub front : List ℕ → List ℕ → List ℕ
front bytes out = bytes ++ drop (length bytes) out

-- after the hello m, whose random stands at 6, and its answer
abbrev pub after_hello_with : Connection → List ℕ → ℕ → List ℕ → Connection
after_hello_with c m suite flight =
    record {
      phase = Phase.KeyExchange;
      setup = c.setup;
      client = record { random = take 32 (drop 6 m); suite = suite; listed = false };
      secrets = c.secrets;
      transcript = absorb (absorb c.transcript m) flight;
    }

-- after the key exchange m, with this master secret
abbrev pub after_keys_with : Connection → List ℕ → List ℕ → Bool → Connection
after_keys_with c m master listed =
    record {
      phase = Phase.Change;
      setup = c.setup;
      client = record { random = c.client.random; suite = c.client.suite; listed = listed };
      secrets = record { master = master };
      transcript = absorb c.transcript m;
    }

-- the client's value is right, and its identity is listed
abbrev pub right_value : Connection → List ℕ → Bool
right_value c value = c.client.listed && is_value value (finished_of Client c.secrets.master c.transcript)

abbrev pub completion : Connection → List ℕ → Step
completion c m = completed (finished_of Server c.secrets.master (absorb c.transcript m))
