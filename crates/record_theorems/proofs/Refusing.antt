-- Who is told of a refusal of the server's steps before a connection is over: the client, by an alert, except where the key table itself is refused.
-- Assumes nothing.
use mathlib.Core.Path.{◌≡◌, refl}
use mathlib.Core.Logic.{◌⊎◌, inl, inr}
use Prim.Native.Nat.{ℕ, ◌+◌}
use native.Mathlib.Omega.{arith}
use mathlib.Core.Bool.{Bool, true, false, cond, not, ◌&&◌, true≢false}
use mathlib.Core.List.{List}
use lib.ListN.{length, get_or, drop}
use lib.Dec.{leb, ltb, eqb}
use Rattle.std.specs.Prelude.{Result, Ok, Err, Option, None, Some}
use Rattle.endian.specs.Vector.{stated}
use Rattle.refusal.specs.declared.Refusal.{Refusal}
use Rattle.refusal.specs.declared.Refusal.TheVariants.{UnexpectedMessage, IllegalParameter, DecodeError, DecryptError, ProtocolVersion}
use Rattle.refusal.specs.Lent.{Outcome, gives, refuses}
use Rattle.refusal.specs.Table.{to_peer}
use Rattle.sha256.specs.State.{absorb}
use Rattle.keys.specs.declared.Side.TheVariants.{Client, Server}
use Rattle.keys.specs.Secrets.{finished_of}
use Rattle.layout.specs.Types.{message_limit}
use Rattle.layout.specs.Header.{header}
use Rattle.layout.specs.Place.{last_at, filled_by, contents}
use Rattle.hellos.specs.ClientHello.{ClientHello, client_body, client_fields}
use Rattle.handshake.specs.Finished.{is_value}
use Rattle.handshake.specs.Header.{early_test}
use Rattle.handshake.specs.Protocol.{tls12}
use Rattle.handshake.specs.Step.{refuse, accept, after_tests, unless_refused}
use Rattle.server.specs.declared.Rule.{Rule}
use Rattle.server.specs.declared.Phase.{Phase}
use Rattle.server.specs.declared.Connection.{Connection}
use Rattle.server.specs.Connection.{is_over}
use Rattle.server.specs.Step.{Step}
use Rattle.server.specs.Hello.{chosen, offers_null, hello_chosen, hello_fields}
use Rattle.server.specs.KeyExchange.{View, unlisted, key_found, key_identity}
use Rattle.server.specs.Finished.{completed, finished_value}
use Rattle.server.specs.Message.{message_step}
use Rattle.handshake.proofs.Settling.{Tested, header-tested}

-- the client, or the host of the key table's refusal
abbrev pub Told : View → Refusal → Type 0
Told v r = (to_peer r ≡ true) ⊎ (v.refusal ≡ Some r)

abbrev Tells : View → Step → Type 0
Tells v (refuse r) = Told v r
Tells v (accept flight next) = Unit

module _ (v : View) where
  hello-tells : (c : Connection) (m : List ℕ) (o : Option ClientHello) → Tells v (hello_fields c m o)
  hello-tells c m None = inl refl
  hello-tells c m (Some f) = of-tests (ltb f.version tls12) (not (offers_null f.methods)) (chosen c.setup.suites f.suites)
    where
      of-tests : (old unlike : Bool) (suite : Option ℕ)
          → Tells v (cond old (refuse ProtocolVersion) (cond unlike (refuse IllegalParameter) (hello_chosen c m f suite)))
      of-tests true unlike suite = inl refl
      of-tests false true suite = inl refl
      of-tests false false None = inl refl
      of-tests false false (Some suite) = tt

  exchange-tells : (c : Connection) (m : List ℕ) (o : Option (List ℕ)) → Tells v (key_identity v.lookup c m o)
  exchange-tells c m None = inl refl
  exchange-tells c m (Some identity) = of-found (v.lookup identity)
    where
      of-rule : (rule : Rule) → Tells v (unlisted rule c m)
      of-rule Rule.Tell = inl refl
      of-rule Rule.Hide = tt

      of-found : (found : Option (List ℕ)) → Tells v (key_found c m found)
      of-found None = of-rule c.setup.rule
      of-found (Some key) = tt

  table-tells : (o : Option Refusal) → v.refusal ≡ o → (step : Step) → Tells v step → Tells v (unless_refused o step)
  table-tells None e step told = told
  table-tells (Some r) e step told = inr e

  finished-tells : (c : Connection) (m : List ℕ) (o : Option (List ℕ)) → Tells v (finished_value c m o)
  finished-tells c m None = inl refl
  finished-tells c m (Some value) =
      of_right (c.client.listed && is_value value (finished_of Client c.secrets.master c.transcript))
      (finished_of Server c.secrets.master (absorb c.transcript m))
    where
      of_right : (right : Bool) (own : Outcome) → Tells v (cond right (completed own) (refuse DecryptError))
      of_right true (gives b) = tt
      of_right true (refuses r) = inl refl
      of_right false own = inl refl

  tested-tells : (kind : ℕ) (m : List ℕ) (step : Step) → Tells v step → Tells v (after_tests (header kind m) step)
  tested-tells kind m step told = go (header kind m) (header-tested kind m)
    where
      go : (h : Result Unit Refusal) → Tested m h → Tells v (after_tests h step)
      go (Ok tt) t = told
      go (Err r) t = inl t

  message-tells : (c : Connection) (m : List ℕ) (phase : Phase) → is_over phase ≡ false → Tells v (message_step v c m phase)
  message-tells c m Phase.Hello going = tested-tells 1 m _ (hello-tells c m (client_fields m (client_body m)))
  message-tells c m Phase.KeyExchange going =
      tested-tells 16 m _ (table-tells v.refusal refl _ (exchange-tells c m (contents m (last_at 2 m 4))))
  message-tells c m Phase.Change going = inl (short-or-not (ltb (length m) 4))
    where
      short-or-not : (b : Bool) → to_peer (cond b DecodeError UnexpectedMessage) ≡ true
      short-or-not true = refl
      short-or-not false = refl
  message-tells c m Phase.Finished going = tested-tells 20 m _ (finished-tells c m (contents m (filled_by 12 m)))
  message-tells c m Phase.Complete going = absurd (true≢false going)
  message-tells c m Phase.Closed going = absurd (true≢false going)

  pub message-told : (c : Connection) (m : List ℕ) (phase : Phase) → is_over phase ≡ false → (r : Refusal) → message_step v c m phase ≡ refuse r
      → Told v r
  message-told c m phase going r e = rw e at (message-tells c m phase going)

-- what is judged by the header alone
pub early-told : (kind : Option ℕ) (m : List ℕ) (r : Refusal) → early_test kind m ≡ Err r → to_peer r ≡ true
early-told None m r e = let is : r ≡ UnexpectedMessage = cc in rw is
early-told (Some kind) m r e = go (eqb (get_or m 0 0) kind) (leb (4 + stated 3 (drop 1 m)) message_limit) e
  where
    go : (a b : Bool) → cond {A = Result Unit Refusal} a (cond b (Ok tt) (Err DecodeError)) (Err UnexpectedMessage) ≡ Err r
        → to_peer r ≡ true
    go true true f = absurd (let z : ◌≡◌ {A = ℕ} 0 1 = cc in omega arith)
    go true false f = let is : r ≡ DecodeError = cc in rw is
    go false b f = let is : r ≡ UnexpectedMessage = cc in rw is
