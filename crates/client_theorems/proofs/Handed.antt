-- The master secret is handed over where a ServerHelloDone is awaited, and nowhere else: a step of any other phase refuses or leads to a phase that hands over none.
-- Assumes nothing.
use mathlib.Core.Path.{◌≡◌, refl, sym, ◌∙◌}
use mathlib.Core.Logic.{◌⊎◌, inl, inr}
use Prim.Native.Nat.{ℕ}
use mathlib.Core.Bool.{Bool, true, false, cond, not}
use mathlib.Core.List.{List}
use lib.ListN.{length}
use lib.Dec.{leb, eqb}
use Rattle.std.proofs.lemmas.Option.{none-some}
use Rattle.std.specs.Prelude.{Result, Ok, Err, Option, None, Some}
use Rattle.refusal.specs.declared.Refusal.{Refusal}
use Rattle.refusal.specs.declared.Refusal.TheVariants.{ConnectionOver, UnexpectedMessage, IllegalParameter, DecodeError, DecryptError}
use Rattle.refusal.specs.declared.Refusal.TheVariants.{UnsupportedExtension}
use Rattle.keys.specs.declared.Side.TheVariants.{Server}
use Rattle.keys.specs.Secrets.{finished_of}
use Rattle.hellos.specs.ServerHello.{ServerHello, server_body, server_fields}
use Rattle.layout.specs.Place.{filled_by, contents}
use Rattle.handshake.specs.Finished.{is_value}
use Rattle.handshake.specs.Protocol.{tls12, suites}
use Rattle.handshake.specs.Flight.{Flight, flight_bytes, silence}
use Rattle.handshake.specs.Header.{header_test}
use Rattle.handshake.specs.Step.{refuse, accept, after_tests}
use Rattle.client.specs.declared.Phase.{Phase}
use Rattle.client.specs.declared.Connection.{Connection}
use Rattle.client.specs.Connection.{ended}
use Rattle.client.specs.Step.{Step, settled}
use Rattle.client.specs.Hello.{among, other_version, bare, hello_step, after_hello}
use Rattle.client.specs.Finished.{finished_step}
use Rattle.client.specs.Message.{awaited, message_step, message_call, master_in, handed_over}

-- a step that hands over nothing
data Keeps : Step → Type 0 where
  refuses : (r : Refusal) → Keeps (refuse r)
  accepts : (flight : Flight) (next : Connection) → master_in next.phase next.secrets.master ≡ None → Keeps (accept flight next)

tested : (b : Bool) {s t : Step} → Keeps s → Keeps t → Keeps (cond b s t)
tested true k l = k
tested false k l = l

after-tests : (v : Result Unit Refusal) {s : Step} → Keeps s → Keeps (after_tests v s)
after-tests (Ok tt) k = k
after-tests (Err r) k = refuses r

hello-keeps : (c : Connection) (m : List ℕ) (o : Option ServerHello) → Keeps (hello_step c m o)
hello-keeps c m None = refuses DecodeError
hello-keeps c m (Some f) =
    tested (not (among suites f.suite)) (refuses IllegalParameter)
    (tested (not (eqb f.version tls12)) (refuses (other_version f.suite))
    (tested (not (eqb f.compression 0)) (refuses IllegalParameter)
    (tested (not (bare f.extensions)) (refuses UnsupportedExtension) (accepts silence (after_hello c m f) refl))))

finished-keeps : (c : Connection) (o : Option (List ℕ)) → Keeps (finished_step c o)
finished-keeps c None = refuses DecodeError
finished-keeps c (Some value) =
    tested (is_value value (finished_of Server c.secrets.master c.transcript)) (accepts silence (ended Phase.Complete) refl) (refuses DecryptError)

-- what such a step comes to
kept : (c : Connection) (out : List ℕ) {s : Step} → Keeps s → handed_over (settled c out s).said (settled c out s).next ≡ None
kept c out (refuses r) = refl
kept c out (accepts flight next e) = go (leb (length (flight_bytes flight)) (length out)) refl
  where
    go : (b : Bool) → leb (length (flight_bytes flight)) (length out) ≡ b
        → handed_over (settled c out (accept flight next)).said (settled c out (accept flight next)).next ≡ None
    go true room = rw (room, e)
    go false short = rw short

pub handed-once : (c : Connection) (m out secret : List ℕ) → handed_over (message_call c m out).said (message_call c m out).next ≡ Some secret
    → (c.phase ≡ Phase.KeyExchange) ⊎ (c.phase ≡ Phase.Done)
handed-once c m out secret = go c.phase refl
  where
    other : {step : Step} → Keeps step → handed_over (settled c out step).said (settled c out step).next ≡ Some secret
        → (c.phase ≡ Phase.KeyExchange) ⊎ (c.phase ≡ Phase.Done)
    other k e = absurd (none-some secret (sym (kept c out k) ∙ e))

    go : (p : Phase) → c.phase ≡ p
        → handed_over (settled c out (message_step c m p)).said (settled c out (message_step c m p)).next ≡ Some secret
        → (c.phase ≡ Phase.KeyExchange) ⊎ (c.phase ≡ Phase.Done)
    go Phase.Hello is = other (after-tests (header_test (awaited Phase.Hello m) m) (hello-keeps c m (server_fields m (server_body m))))
    go Phase.KeyExchange is = λ e. inl is
    go Phase.Done is = λ e. inr is
    go Phase.Change is = other (after-tests (header_test (awaited Phase.Change m) m) (refuses UnexpectedMessage))
    go Phase.Finished is = other (after-tests (header_test (awaited Phase.Finished m) m) (finished-keeps c (contents m (filled_by 12 m))))
    go Phase.Complete is = other (refuses ConnectionOver)
    go Phase.Closed is = other (refuses ConnectionOver)
