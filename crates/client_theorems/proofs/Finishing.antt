-- The last stages of a client's connection: it awaits the change of cipher, and then the Finished, which is accepted exactly where it is right.
-- Assumes nothing.
use mathlib.Core.Path.{◌≡◌, refl, sym, ◌∙◌}
use mathlib.Core.Logic.{inl, inr}
use native.Mathlib.Omega.{arith}
use mathlib.Core.Bool.{Bool, true, false, cond}
use mathlib.Core.List.{List}
use Prim.Native.Nat.{ℕ}
use lib.ListN.{length}
use lib.Dec.{ltb}
use Rattle.std.specs.Prelude.{Option, None, Some}
use Rattle.refusal.specs.declared.Refusal.TheVariants.{UnexpectedMessage, DecodeError, DecryptError}
use Rattle.keys.specs.declared.Side.TheVariants.{Server}
use Rattle.keys.specs.Secrets.{finished_of}
use Rattle.layout.specs.Header.{header}
use Rattle.layout.specs.Place.{filled_by, after_header, contents}
use Rattle.messages.specs.Fixed.{read_fixed}
use Rattle.handshake.specs.Finished.{is_value}
use Rattle.handshake.specs.Flight.{silence}
use Rattle.handshake.specs.Series.{Call, message, change_of_cipher, alert, IgnoredWarning}
use Rattle.handshake.specs.Step.{refuse, accept}
use Rattle.handshake.proofs.Settling.{refused-closes, accepted-next, unread, unread-alerts, or_refuse, step-read}
use Rattle.client.specs.declared.Phase.{Phase}
use Rattle.client.specs.declared.Connection.{Connection}
use Rattle.client.specs.Connection.{Settings, acceptable, ended}
use Rattle.client.specs.Step.{Step, settled}
use Rattle.client.specs.Change.{after_change}
use Rattle.client.specs.Finished.{finished_step}
use Rattle.client.specs.Message.{message_step}
use Rattle.theorems.specs.Terms.{LegalFinished}
use Rattle.theorems.proofs.Values.{is-value, value-is}
use Rattle.client_theorems.specs.Series.{call}
use Rattle.client_theorems.specs.Terms.{hello_in, messages_in, ServerHelloDoneCame, ChangeCame, random_in, from_server, right_value, RightFinished}
use Rattle.client_theorems.proofs.Ready.{right_is, servers-made}
use Rattle.client_theorems.proofs.Stages.{Fate, warning-stays, alert-fate, few, random-size, ready, made, answered}

-- ---- awaiting the change of cipher

module _ (s : Settings) (ok : acceptable s ≡ true) {calls : List Call} (came : ServerHelloDoneCame s calls) where
  -- what the connection is behind its answer
  abbrev pub exchanged : Connection
  exchanged = answered s ok came.came came.legal

  pub change-stays : (x : Call) → IgnoredWarning x → (call exchanged x).next ≡ exchanged
  change-stays = warning-stays exchanged refl

  pub change-comes : (call exchanged change_of_cipher).next ≡ after_change exchanged
  change-comes = refl

  pub change-fate : (x : Call) → Fate exchanged IgnoredWarning (λ y. y ≡ change_of_cipher) x
  change-fate (message m out) = inr (inr (go (ltb (length m) 4)))
    where
      go : (b : Bool) → (settled exchanged out (refuse (cond b DecodeError UnexpectedMessage))).next ≡ ended Phase.Closed
      go true = refl
      go false = refl
  change-fate change_of_cipher = inr (inl refl)
  change-fate (alert level description) = alert-fate exchanged refl IgnoredWarning (λ y. y ≡ change_of_cipher) (λ x h. h) level description

-- ---- awaiting the Finished

pub record FinishedComes (s : Settings) {calls : List Call} (came : ChangeCame s calls) (x : Call) : Type 0 where
  pub finished : List ℕ
  pub out : List ℕ
  pub is : x ≡ message finished out
  pub right : RightFinished s came finished

module _ (s : Settings) (ok : acceptable s ≡ true) {calls : List Call} (came : ChangeCame s calls) where
  abbrev pub awaiting : Connection
  awaiting = after_change (exchanged s ok came.came)

  -- the value that is compared with is the right one
  compared : finished_of Server awaiting.secrets.master awaiting.transcript ≡ right_value s (random_in came.came) (from_server came.came)
  compared =
      let done = came.came in
      let random = (hello_in done.came).1.fields.random in
      let size = random-size done.came in
      let fits = few done.came done.legal in
      servers-made s ok random size (messages_in done.came) done.done fits (ready done.came)
      ∙ sym (right_is s ok random size (from_server done) fits (made s ok done.came done.legal))

  abbrev step_of : List ℕ → Step
  step_of m = message_step awaiting m Phase.Finished

  finished-read : (m : List ℕ) → step_of m ≡ or_refuse (unread 20 m) (λ value. finished_step awaiting (Some value)) (read_fixed 20 12 m)
  finished-read m = step-read (λ h. contents m (after_header h (filled_by 12 m))) (λ r. refl) (finished_step awaiting) refl (header 20 m)

  -- the step of a legal Finished
  pub judged : (m : List ℕ) (legal : LegalFinished m)
      → step_of m ≡ cond (is_value legal.value (right_value s (random_in came.came) (from_server came.came))) (accept silence (ended Phase.Complete)) (refuse DecryptError)
  judged m legal = finished-read m ∙ rw (legal.read, ← compared)

  pub finished-comes : (x : Call) → FinishedComes s came x → (call awaiting x).next ≡ ended Phase.Complete
  finished-comes x comes =
      let right = comes.right in
      let same = value-is right.legal.value _ right.right in
      rw comes.is
      (accepted-next (ended Phase.Closed) awaiting comes.out _ silence _ (judged comes.finished right.legal ∙ rw same) (omega arith))

  pub finished-stays : (x : Call) → IgnoredWarning x → (call awaiting x).next ≡ awaiting
  finished-stays = warning-stays awaiting refl

  pub finished-fate : (x : Call) → Fate awaiting IgnoredWarning (FinishedComes s came) x
  finished-fate (message m out) = of-read (read_fixed 20 12 m) refl
    where
      of-value : (legal : LegalFinished m) (b : Bool) → is_value legal.value (right_value s (random_in came.came) (from_server came.came)) ≡ b
          → Fate awaiting IgnoredWarning (FinishedComes s came) (message m out)
      of-value legal true e =
          inr (inl (record { finished = m; out = out; is = refl; right = record { legal = legal; right = is-value legal.value _ e } }))
      of-value legal false e =
          inr (inr (refused-closes (ended Phase.Closed) awaiting out (step_of m) DecryptError (judged m legal ∙ rw e) refl))

      of-read : (o : Option (List ℕ)) → read_fixed 20 12 m ≡ o → Fate awaiting IgnoredWarning (FinishedComes s came) (message m out)
      of-read None read = inr (inr (refused-closes (ended Phase.Closed) awaiting out (step_of m) (unread 20 m) (finished-read m ∙ rw read) (unread-alerts 20 m)))
      of-read (Some value) read =
          let legal : LegalFinished m = record { value = value; read = read } in
          of-value legal (is_value value (right_value s (random_in came.came) (from_server came.came))) refl
  finished-fate change_of_cipher = inr (inr refl)
  finished-fate (alert level description) = alert-fate awaiting refl IgnoredWarning (FinishedComes s came) (λ x h. h) level description

-- ---- over

pub closed-stays : (x : Call) → (call (ended Phase.Closed) x).next ≡ ended Phase.Closed
closed-stays (message m out) = refl
closed-stays change_of_cipher = refl
closed-stays (alert level description) = refl

pub complete-stays : (x : Call) → (call (ended Phase.Complete) x).next ≡ ended Phase.Complete
complete-stays (message m out) = refl
complete-stays change_of_cipher = refl
complete-stays (alert level description) = refl
