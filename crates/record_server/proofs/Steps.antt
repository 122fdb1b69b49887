-- What a message leads to in each phase: a message is answered, or its master secret is handed over, and never two in one record.
-- Assumes nothing.
use Prim.Native.Nat.{ℕ}
use mathlib.Core.Bool.{Bool, true, false, cond, not, ◌&&◌}
use mathlib.Core.List.{List}
use lib.Dec.{ltb}
use Rattle.std.specs.Prelude.{Result, Ok, Err, Option, None, Some}
use Rattle.refusal.specs.declared.Refusal.{Refusal}
use Rattle.refusal.specs.Lent.{Outcome, gives, refuses}
use Rattle.layout.specs.Place.{last_at, filled_by, contents}
use Rattle.hellos.specs.ClientHello.{ClientHello, client_body, client_fields}
use Rattle.keys.specs.declared.Side.TheVariants.{Client, Server}
use Rattle.keys.specs.Secrets.{finished_of}
use Rattle.sha256.specs.State.{absorb}
use Rattle.handshake.specs.Finished.{verify_data_length, is_value}
use Rattle.handshake.specs.Flight.{Flight, silence}
use Rattle.handshake.specs.Header.{header_test}
use Rattle.handshake.specs.Protocol.{tls12}
use Rattle.handshake.specs.Step.{refuse, accept, after_tests, unless_refused}
use Rattle.server.specs.declared.Phase.{Phase}
use Rattle.server.specs.declared.Rule.{Rule}
use Rattle.server.specs.declared.Connection.{Connection}
use Rattle.server.specs.Step.{Step}
use Rattle.server.specs.Hello.{offers_null, chosen, hello_chosen, hello_fields}
use Rattle.server.specs.KeyExchange.{View, unlisted, key_found, key_identity}
use Rattle.server.specs.Finished.{completed, finished_value}
use Rattle.server.specs.Message.{awaited, message_step}
use Rattle.record_server.specs.InnerProgress.{answers}

-- an accepted message leads to no phase that answers; in two phases one is answered, a ClientKeyExchange is not, and in the others none is accepted
pub data After : Step → Phase → Type 0 where
  nowhere : {r : Refusal} {phase : Phase} → After (refuse r) phase
  greeted : {flight : Flight} {next : Connection} → (answers next.phase → ⊥) → After (accept flight next) Phase.Hello
  keyed : {next : Connection} → (answers next.phase → ⊥) → After (accept silence next) Phase.KeyExchange
  parted : {flight : Flight} {next : Connection} → (answers next.phase → ⊥) → After (accept flight next) Phase.Finished

either : (t : Bool) {a b : Step} {phase : Phase} → After a phase → After b phase → After (cond t a b) phase
either true p q = p
either false p q = q

behind-tests : (t : Result Unit Refusal) {step : Step} {phase : Phase} → After step phase → After (after_tests t step) phase
behind-tests (Ok tt) p = p
behind-tests (Err r) p = nowhere

unless-refused : (r : Option Refusal) {step : Step} {phase : Phase} → After step phase → After (unless_refused r step) phase
unless-refused None p = p
unless-refused (Some r) p = nowhere

hello-chosen : (c : Connection) (m : List ℕ) (f : ClientHello) (suite : Option ℕ) → After (hello_chosen c m f suite) Phase.Hello
hello-chosen c m f None = nowhere
hello-chosen c m f (Some suite) = greeted (λ h. h)

hello : (c : Connection) (m : List ℕ) (f : Option ClientHello) → After (hello_fields c m f) Phase.Hello
hello c m None = nowhere
hello c m (Some f) =
    either (ltb f.version tls12) nowhere
    (either (not (offers_null f.methods)) nowhere
    (hello-chosen c m f (chosen c.setup.suites f.suites)))

unlisted-key : (rule : Rule) (c : Connection) (m : List ℕ) → After (unlisted rule c m) Phase.KeyExchange
unlisted-key Rule.Tell c m = nowhere
unlisted-key Rule.Hide c m = keyed (λ h. h)

key-found : (c : Connection) (m : List ℕ) (key : Option (List ℕ)) → After (key_found c m key) Phase.KeyExchange
key-found c m None = unlisted-key c.setup.rule c m
key-found c m (Some key) = keyed (λ h. h)

key-identity : (lookup : List ℕ → Option (List ℕ)) (c : Connection) (m : List ℕ) (identity : Option (List ℕ))
    → After (key_identity lookup c m identity) Phase.KeyExchange
key-identity lookup c m None = nowhere
key-identity lookup c m (Some identity) = key-found c m (lookup identity)

completes : (o : Outcome) → After (completed o) Phase.Finished
completes (gives value) = parted (λ h. h)
completes (refuses r) = nowhere

finished : (c : Connection) (m : List ℕ) (value : Option (List ℕ)) → After (finished_value c m value) Phase.Finished
finished c m None = nowhere
finished c m (Some value) =
    either (c.client.listed && is_value value (finished_of Client c.secrets.master c.transcript))
    (completes (finished_of Server c.secrets.master (absorb c.transcript m)))
    nowhere

pub step_after : (v : View) (c : Connection) (m : List ℕ) (phase : Phase) → After (message_step v c m phase) phase
step_after v c m Phase.Hello = behind-tests (header_test (awaited Phase.Hello) m) (hello c m (client_fields m (client_body m)))
step_after v c m Phase.KeyExchange =
    behind-tests (header_test (awaited Phase.KeyExchange) m)
    (unless-refused v.refusal (key-identity v.lookup c m (contents m (last_at 2 m 4))))
step_after v c m Phase.Change = nowhere
step_after v c m Phase.Finished =
    behind-tests (header_test (awaited Phase.Finished) m) (finished c m (contents m (filled_by verify_data_length m)))
step_after v c m Phase.Complete = nowhere
step_after v c m Phase.Closed = nowhere
