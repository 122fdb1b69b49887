-- The stages of a client's connection, from a start on, as far as the answer to ServerHelloDone: what it is there, and what every call makes of it.
-- Assumes nothing.
use mathlib.Core.Path.{◌≡◌, refl, sym, ap, ◌∙◌}
use mathlib.Core.Logic.{◌⊎◌, inl, inr}
use Prim.Native.Nat.{ℕ, ◌≤◌}
use native.Mathlib.Omega.{arith}
use native.Mathlib.Decide.{dec_le, ℕ_discrete}
use mathlib.Core.Bool.{Bool, true, false, cond}
use mathlib.Core.List.{List, ◌++◌}
use lib.ListN.{length, length-append, length-drop, get_or, drop}
use lib.Seq.{length-take-le}
use lib.Dec.{ltb, eqb}
use borrow.Author.Tests.{eq-eqb, ne_eqb, eqb-true}
use Rattle.std.proofs.lemmas.Option.{none-some}
use Rattle.std.specs.Prelude.{Result, Ok, Err, Option, None, Some}
use Rattle.refusal.specs.declared.Refusal.{Refusal}
use Rattle.refusal.specs.declared.Refusal.TheVariants.{IllegalParameter, UnexpectedMessage, DecodeError, ProtocolVersion, UnsupportedExtension}
use Rattle.refusal.specs.Table.{to_peer}
use Rattle.sha256.specs.State.{fresh, absorb}
use Rattle.sha256.proofs.Absorb.{absorb-append}
use Rattle.layout.specs.Header.{header}
use Rattle.layout.specs.Place.{last_at, filled_by, after_header, contents}
use Rattle.layout.specs.Types.{message_limit}
use Rattle.hellos.specs.declared.server_hello.Server.{Server}
use Rattle.hellos.specs.ServerHello.{ServerHello, server_header, server_fields, read_server_hello}
use Rattle.hellos.proofs.ServerHellos.{by-header}
use Rattle.messages.specs.KeyExchange.{read_vector}
use Rattle.messages.specs.Fixed.{read_fixed}
use Rattle.handshake.specs.Flight.{flight_bytes, silence}
use Rattle.handshake.specs.Protocol.{suites}
use Rattle.handshake.specs.Series.{Call, message, change_of_cipher, alert, IgnoredWarning}
use Rattle.handshake.specs.Step.{accept, after_tests}
use Rattle.handshake.proofs.Fates as Shared
use Rattle.handshake.proofs.Settling.{refused-closes, accepted-next, short-stays, Alerts, unread, unread-alerts, or_refuse, step-read, read-size}
use Rattle.client.specs.declared.Phase.{Phase}
use Rattle.client.specs.declared.Connection.{Connection}
use Rattle.client.specs.Connection.{Settings, acceptable, hello, started, ended, is_over}
use Rattle.client.specs.Step.{Step}
use Rattle.client.specs.Hello.{among, other_version, bare, after_hello, hello_step}
use Rattle.client.specs.Exchange.{after_hint, hint_step, answer_with, after_done, exchanged, done_step}
use Rattle.client.specs.Message.{brings_hint, message_step}
use Rattle.theorems.specs.Terms.{Aside}
use Rattle.client_theorems.specs.Series.{call}
use Rattle.client_theorems.specs.Terms.{LegalServerHello, LegalServerKeyExchange, LegalServerHelloDone, answer_length, ShortDone, ServerHelloCame}
use Rattle.client_theorems.specs.Terms.{ServerKeyExchangeCame, HintOrNone, no_hint, hinted, hello_in, messages_in}
use Rattle.client_theorems.specs.Terms.{exchange_of}
use Rattle.client_theorems.proofs.Ready.{Ready, Secrets, secrets, done-answered, answer-length}

-- ---- what a call is at a stage

abbrev pub Fate : Connection → (Call → Type 0) → (Call → Type 0) → Call → Type 0
Fate = Shared.Fate call (ended Phase.Closed)

module _ (c : Connection) (going : is_over c.phase ≡ false) where
  pub warning-stays : (x : Call) → IgnoredWarning x → (call c x).next ≡ c
  warning-stays = Shared.warning-stays call (ended Phase.Closed) c (λ level description. rw going)

  pub alert-fate : (Stays Comes : Call → Type 0) → ((x : Call) → IgnoredWarning x → Stays x)
      → (level description : ℕ) → Fate c Stays Comes (alert level description)
  alert-fate = Shared.alert-fate call (ended Phase.Closed) c (λ level description. rw going)

-- ---- awaiting the ServerHello

-- what the connection is after a legal ServerHello
abbrev pub helloed : (s : Settings) → {m : List ℕ} → LegalServerHello m → Connection
helloed s {m} legal = after_hello (started s) m legal.fields

pub record HelloComes (x : Call) : Type 0 where
  pub hello : List ℕ
  pub out : List ℕ
  pub is : x ≡ message hello out
  pub legal : LegalServerHello hello

other-alerts : (suite : ℕ) → to_peer (other_version suite) ≡ true
other-alerts suite = go (eqb suite 0x008c)
  where
    go : (b : Bool) → to_peer (cond b ProtocolVersion IllegalParameter) ≡ true
    go true = refl
    go false = refl

module _ (s : Settings) where
  abbrev hello_step_of : List ℕ → Step
  hello_step_of m = message_step (started s) m Phase.Hello

  hello-read : (m : List ℕ) → hello_step_of m ≡ or_refuse (unread 2 m) (λ f. hello_step (started s) m (Some f)) (read_server_hello m)
  hello-read m = step-read (λ h. server_fields m (server_header m h)) (λ r. refl) (hello_step (started s) m) refl (header 2 m)

  pub hello-legal : {m : List ℕ} (legal : LegalServerHello m) → hello_step_of m ≡ accept silence (helloed s legal)
  hello-legal {m} legal =
      hello-read m
      ∙ rw (legal.read, legal.suite, eq-eqb _ _ legal.version, eq-eqb _ _ legal.compression, legal.extensions)

  hello-other : (m : List ℕ) → LegalServerHello m ⊎ Alerts (hello_step_of m)
  hello-other m = of-read (read_server_hello m) refl
    where
      step : (f : ServerHello) → read_server_hello m ≡ Some f → hello_step_of m ≡ hello_step (started s) m (Some f)
      step f read = hello-read m ∙ rw read

      of_fields : (f : ServerHello) → read_server_hello m ≡ Some f → (a : Bool) → among suites f.suite ≡ a → Dec (f.version ≡ 0x0303)
          → Dec (f.compression ≡ 0) → (b : Bool) → bare f.extensions ≡ b → LegalServerHello m ⊎ Alerts (hello_step_of m)
      of_fields f read false suite v d b e = inr (IllegalParameter, step f read ∙ rw suite, refl)
      of_fields f read true suite (no v) d b e =
          inr (other_version f.suite, step f read ∙ rw (suite, ne_eqb f.version 0x0303 v), other-alerts f.suite)
      of_fields f read true suite (yes v) (no d) b e =
          inr (IllegalParameter, step f read ∙ rw (suite, eq-eqb f.version 0x0303 v, ne_eqb f.compression 0 d), refl)
      of_fields f read true suite (yes v) (yes d) false e =
          inr (UnsupportedExtension, step f read ∙ rw (suite, eq-eqb f.version 0x0303 v, eq-eqb f.compression 0 d, e), refl)
      of_fields f read true suite (yes v) (yes d) true e =
          inl (record { fields = f; read = read; suite = suite; version = v; compression = d; extensions = e })

      of-read : (o : Option ServerHello) → read_server_hello m ≡ o → LegalServerHello m ⊎ Alerts (hello_step_of m)
      of-read None read = inr (unread 2 m, hello-read m ∙ rw read, unread-alerts 2 m)
      of-read (Some f) read =
          of_fields f read (among suites f.suite) refl (ℕ_discrete f.version 0x0303) (ℕ_discrete f.compression 0) (bare f.extensions) refl

  pub hello-stays : (x : Call) → IgnoredWarning x → (call (started s) x).next ≡ started s
  unfolding started
  hello-stays = warning-stays (started s) refl

  pub hello-comes : (x : Call) (comes : HelloComes x) → (call (started s) x).next ≡ helloed s comes.legal
  unfolding started
  hello-comes x comes =
      rw comes.is (accepted-next (ended Phase.Closed) (started s) comes.out _ silence (helloed s comes.legal) (hello-legal comes.legal) (omega arith))

  pub hello-fate : (x : Call) → Fate (started s) IgnoredWarning HelloComes x
  unfolding started
  hello-fate (message m out) = go (hello-other m)
    where
      go : LegalServerHello m ⊎ Alerts (hello_step_of m) → Fate (started s) IgnoredWarning HelloComes (message m out)
      go (inl legal) = inr (inl (record { hello = m; out = out; is = refl; legal = legal }))
      go (inr alerts) = inr (inr (refused-closes (ended Phase.Closed) (started s) out (hello_step_of m) alerts.0 alerts.1 alerts.2))
  hello-fate change_of_cipher = inr (inr refl)
  hello-fate (alert level description) = alert-fate (started s) refl IgnoredWarning HelloComes (λ x h. h) level description

-- ---- awaiting the ServerKeyExchange or the ServerHelloDone

-- a message that passes the tests on its header has its type
header-type : (kind : ℕ) (m : List ℕ) → header kind m ≡ Ok tt → get_or m 0 0 ≡ kind
header-type kind m h = eqb-true (get_or m 0 0) kind (go (ltb (length m) 4) (eqb (get_or m 0 0) kind) _ h)
  where
    go : (a b : Bool) (v : Result Unit Refusal) → cond {A = Result Unit Refusal} a (Err DecodeError) (cond b v (Err UnexpectedMessage)) ≡ Ok tt → b ≡ true
    go true b v e = absurd (refused e)
      where
        refused : ◌≡◌ {A = Result Unit Refusal} (Err DecodeError) (Ok tt) → ⊥
        refused f = let z : ◌≡◌ {A = ℕ} 0 1 = cc in omega arith
    go false true v e = refl
    go false false v e = absurd (refused e)
      where
        refused : ◌≡◌ {A = Result Unit Refusal} (Err UnexpectedMessage) (Ok tt) → ⊥
        refused f = let z : ◌≡◌ {A = ℕ} 0 1 = cc in omega arith

-- what a reader accepted passed the tests on its header
read-header : {A : Type 0} (read : Result Unit Refusal → Option A) → ((r : Refusal) → read (Err r) ≡ None)
    → (kind : ℕ) (m : List ℕ) (a : A) → read (header kind m) ≡ Some a → get_or m 0 0 ≡ kind
read-header read blind kind m a e = go (header kind m) refl e
  where
    go : (h : Result Unit Refusal) → header kind m ≡ h → read h ≡ Some a → get_or m 0 0 ≡ kind
    go (Ok tt) h f = header-type kind m h
    go (Err r) h f = absurd (none-some a (sym (blind r) ∙ f))

hint-brings : {m : List ℕ} → LegalServerKeyExchange m → brings_hint m ≡ true
hint-brings {m} legal =
    eq-eqb (get_or m 0 0) 12 (read-header (λ h. contents m (after_header h (last_at 2 m 4))) (λ r. refl) 12 m legal.hint legal.read)

done-brings-none : {m : List ℕ} → LegalServerHelloDone m → brings_hint m ≡ false
done-brings-none {m} legal =
    let kind = read-header (λ h. contents m (after_header h (filled_by 0 m))) (λ r. refl) 14 m legal.body legal.read in
    ne_eqb (get_or m 0 0) 12 (λ e. absurd (omega (arith, kind, e)))

-- what the connection is then, by whether a ServerKeyExchange came
module _ {s : Settings} {calls : List Call} where
  abbrev pub awaiting_done : HintOrNone s calls → Connection
  awaiting_done (no_hint came) = helloed s came.legal
  awaiting_done (hinted came) = after_hint (helloed s came.came.legal) came.exchange

  pub going : (came : HintOrNone s calls) → is_over (awaiting_done came).phase ≡ false
  going (no_hint came) = refl
  going (hinted came) = refl

  -- it has what its answer is made of
  pub ready : (came : HintOrNone s calls) → Ready s (awaiting_done came) (hello_in came).1.fields.random (messages_in came)
  unfolding started
  ready (no_hint came) = record { setup = refl; random-is = refl; transcript = sym (absorb-append fresh (hello s.random) came.hello) }
  ready (hinted came) =
      let first = hello s.random in
      let second = came.came.hello in
      record {
        setup = refl;
        random-is = refl;
        transcript = sym (absorb-append fresh first (second ++ came.exchange) ∙ absorb-append (absorb fresh first) second came.exchange);
      }

-- a ServerHello's random has 32 bytes, and each of the server's messages is within the limit
abbrev random_length : Option ServerHello → ℕ
random_length None = 0
random_length (Some f) = length f.random

abbrev RandomWhole : List ℕ → Option Server → Type 0
RandomWhole m server = (f : ServerHello) → server_fields m server ≡ Some f → length f.random ≡ 32

hello-random : {m : List ℕ} (legal : LegalServerHello m) → length legal.fields.random ≡ 32
hello-random {m} legal =
    by-header m (RandomWhole m) (λ f e. absurd (none-some f e))
    (λ a x n b parts f e. sym (ap random_length e) ∙ length-take-le 32 (drop 6 m) (simp length-drop (omega (arith, parts.room)))) legal.fields legal.read

hello-size : {m : List ℕ} → LegalServerHello m → length m ≤ message_limit
hello-size {m} legal = read-size (λ h. server_fields m (server_header m h)) (λ r. refl) 2 m legal.fields legal.read

hint-size : {m : List ℕ} → LegalServerKeyExchange m → length m ≤ message_limit
hint-size {m} legal = read-size (λ h. contents m (after_header h (last_at 2 m 4))) (λ r. refl) 12 m legal.hint legal.read

done-size : {m : List ℕ} → LegalServerHelloDone m → length m ≤ message_limit
done-size {m} legal = read-size (λ h. contents m (after_header h (filled_by 0 m))) (λ r. refl) 14 m legal.body legal.read

messages-size : {s : Settings} {calls : List Call} (came : HintOrNone s calls) → length (messages_in came) ≤ 32768
messages-size (no_hint came) = omega (arith, hello-size came.legal)
messages-size (hinted came) =
    rw (length-append came.came.hello came.exchange) (omega (arith, hello-size came.came.legal, hint-size came.legal))

pub few : {s : Settings} {calls : List Call} (came : HintOrNone s calls) {m : List ℕ} → LegalServerHelloDone m → length (messages_in came ++ m) ≤ 65536
few came {m} legal = rw (length-append (messages_in came) m) (omega (arith, messages-size came, done-size legal))

pub random-size : {s : Settings} {calls : List Call} (came : HintOrNone s calls) → length (hello_in came).1.fields.random ≡ 32
random-size (no_hint came) = hello-random came.legal
random-size (hinted came) = hello-random came.came.legal

-- ---- what every call makes of it

pub record HintComes (x : Call) : Type 0 where
  pub exchange : List ℕ
  pub out : List ℕ
  pub is : x ≡ message exchange out
  pub legal : LegalServerKeyExchange exchange

pub record DoneComes (s : Settings) (x : Call) : Type 0 where
  pub done : List ℕ
  pub out : List ℕ
  pub is : x ≡ message done out
  pub legal : LegalServerHelloDone done
  pub room : answer_length s ≤ length out

-- the phase in which a ServerHelloDone is awaited, and its step there
module _ (c : Connection) (m : List ℕ) where
  done-read : message_step c m Phase.Done ≡ or_refuse (unread 14 m) (λ b. exchanged c m) (read_fixed 14 0 m)
  done-read = step-read (λ h. contents m (after_header h (filled_by 0 m))) (λ r. refl) (done_step c m) refl (header 14 m)

  -- the step where both may come, by whether the message brings a hint
  abbrev either_step : Bool → Step
  either_step brings =
      after_tests (header (cond brings 12 14) m) (cond brings (hint_step c m (contents m (last_at 2 m 4))) (done_step c m (contents m (filled_by 0 m))))

  no-hint-read : brings_hint m ≡ false → message_step c m Phase.KeyExchange ≡ or_refuse (unread 14 m) (λ b. exchanged c m) (read_fixed 14 0 m)
  no-hint-read hintless = ap either_step hintless ∙ done-read

  hint-read : brings_hint m ≡ true → message_step c m Phase.KeyExchange ≡ or_refuse (unread 12 m) (λ hint. accept silence (after_hint c m)) (read_vector 12 m)
  hint-read brings =
      ap either_step brings ∙ step-read (λ h. contents m (after_header h (last_at 2 m 4))) (λ r. refl) (hint_step c m) refl (header 12 m)

-- a legal ServerKeyExchange where one may come
pub hint-legal : (c : Connection) {m : List ℕ} → LegalServerKeyExchange m → message_step c m Phase.KeyExchange ≡ accept silence (after_hint c m)
hint-legal c {m} legal = hint-read c m (hint-brings legal) ∙ rw legal.read

module _ (s : Settings) (ok : acceptable s ≡ true) {calls : List Call} (came : HintOrNone s calls) where
  abbrev c : Connection
  c = awaiting_done came

  abbrev step_of : List ℕ → Step
  step_of m = message_step c m c.phase

  -- the step of a message that brings no hint
  done-step : (m : List ℕ) → brings_hint m ≡ false → step_of m ≡ or_refuse (unread 14 m) (λ b. exchanged c m) (read_fixed 14 0 m)
  done-step m hintless = go came
    where
      go : (k : HintOrNone s calls) → message_step (awaiting_done k) m (awaiting_done k).phase ≡ or_refuse (unread 14 m) (λ b. exchanged (awaiting_done k) m) (read_fixed 14 0 m)
      go (no_hint k) = no-hint-read (awaiting_done (no_hint k)) m hintless
      go (hinted k) = done-read (awaiting_done (hinted k)) m

  module _ {m : List ℕ} (legal : LegalServerHelloDone m) where
    abbrev pub made : Secrets s (hello_in came).1.fields.random (messages_in came ++ m)
    made = secrets s ok (hello_in came).1.fields.random (random-size came) (messages_in came ++ m)

    -- what the connection is after a legal ServerHelloDone
    abbrev pub answered : Connection
    answered = after_done c m made.master made.own

    pub done-legal : step_of m ≡ accept (answer_with (exchange_of s) made.own) answered
    done-legal =
        done-step m (done-brings-none legal)
        ∙ rw legal.read (done-answered s ok (hello_in came).1.fields.random (random-size came) (messages_in came) m (few came legal) (ready came))

    pub answer-sized : length (flight_bytes (answer_with (exchange_of s) made.own)) ≡ answer_length s
    answer-sized = answer-length s ok (hello_in came).1.fields.random (random-size came) (messages_in came) m (few came legal) (ready came)

  pub done-stays : (x : Call) → Aside (ShortDone s) x → (call c x).next ≡ c
  done-stays x (inl warning) = warning-stays c (going came) x warning
  done-stays x (inr short) =
      rw short.is
      (short-stays (ended Phase.Closed) c short.out _ _ _ (done-legal short.legal) (rw (answer-sized short.legal) short.short))

  pub done-comes : (x : Call) (comes : DoneComes s x) → (call c x).next ≡ answered comes.legal
  done-comes x comes =
      rw comes.is
      (accepted-next (ended Phase.Closed) c comes.out _ _ _ (done-legal comes.legal) (rw (answer-sized comes.legal) comes.room))

  -- a message that brings no hint
  done-fate : (Hint : Call → Type 0) (m out : List ℕ) → brings_hint m ≡ false
      → Fate c (Aside (ShortDone s)) (λ x. Hint x ⊎ DoneComes s x) (message m out)
  done-fate Hint m out hintless = of-read (read_fixed 14 0 m) refl
    where
      legally : (legal : LegalServerHelloDone m) → Dec (answer_length s ≤ length out)
          → Fate c (Aside (ShortDone s)) (λ x. Hint x ⊎ DoneComes s x) (message m out)
      legally legal (yes room) = inr (inl (inr (record { done = m; out = out; is = refl; legal = legal; room = room })))
      legally legal (no short) = inl (inr (record { done = m; out = out; is = refl; legal = legal; short = omega arith }))

      of-read : (o : Option (List ℕ)) → read_fixed 14 0 m ≡ o → Fate c (Aside (ShortDone s)) (λ x. Hint x ⊎ DoneComes s x) (message m out)
      of-read None read =
          inr (inr (refused-closes (ended Phase.Closed) c out (step_of m) (unread 14 m) (done-step m hintless ∙ rw read) (unread-alerts 14 m)))
      of-read (Some body) read = legally (record { body = body; read = read }) (dec_le (answer_length s) (length out))

-- where a ServerKeyExchange may come too
module _ (s : Settings) (ok : acceptable s ≡ true) {calls : List Call} (came : ServerHelloCame calls) where
  abbrev either : HintOrNone s calls
  either = no_hint came

  pub hint-comes : (x : Call) (comes : HintComes x) → (call (awaiting_done either) x).next ≡ after_hint (awaiting_done either) comes.exchange
  hint-comes x comes =
      rw comes.is
      (accepted-next (ended Phase.Closed) (awaiting_done either) comes.out _ silence _
      (hint-legal (awaiting_done either) comes.legal) (omega arith))

  pub either-fate : (x : Call) → Fate (awaiting_done either) (Aside (ShortDone s)) (λ y. HintComes y ⊎ DoneComes s y) x
  either-fate (message m out) = go (brings_hint m) refl
    where
      of-read : brings_hint m ≡ true → (o : Option (List ℕ)) → read_vector 12 m ≡ o
          → Fate (awaiting_done either) (Aside (ShortDone s)) (λ y. HintComes y ⊎ DoneComes s y) (message m out)
      of-read brings None read =
          inr (inr (refused-closes (ended Phase.Closed) (awaiting_done either) out _ (unread 12 m) (hint-read (awaiting_done either) m brings ∙ rw read)
          (unread-alerts 12 m)))
      of-read brings (Some hint) read = inr (inl (inl (record { exchange = m; out = out; is = refl; legal = record { hint = hint; read = read } })))

      go : (b : Bool) → brings_hint m ≡ b → Fate (awaiting_done either) (Aside (ShortDone s)) (λ y. HintComes y ⊎ DoneComes s y) (message m out)
      go true brings = of-read brings (read_vector 12 m) refl
      go false hintless = done-fate s ok either HintComes m out hintless
  either-fate change_of_cipher = inr (inr refl)
  either-fate (alert level description) =
      alert-fate (awaiting_done either) refl (Aside (ShortDone s)) (λ y. HintComes y ⊎ DoneComes s y) (λ x. inl) level description

-- behind a ServerKeyExchange there is no second: it would have to be a ServerHelloDone
module _ (s : Settings) (ok : acceptable s ≡ true) {calls : List Call} (came : ServerKeyExchangeCame s calls) where
  abbrev behind : HintOrNone s calls
  behind = hinted came

  pub behind-fate : (x : Call) → Fate (awaiting_done behind) (Aside (ShortDone s)) (DoneComes s) x
  behind-fate (message m out) = of-read (read_fixed 14 0 m) refl
    where
      legally : (legal : LegalServerHelloDone m) → Dec (answer_length s ≤ length out)
          → Fate (awaiting_done behind) (Aside (ShortDone s)) (DoneComes s) (message m out)
      legally legal (yes room) = inr (inl (record { done = m; out = out; is = refl; legal = legal; room = room }))
      legally legal (no short) = inl (inr (record { done = m; out = out; is = refl; legal = legal; short = omega arith }))

      of-read : (o : Option (List ℕ)) → read_fixed 14 0 m ≡ o → Fate (awaiting_done behind) (Aside (ShortDone s)) (DoneComes s) (message m out)
      of-read None read =
          inr (inr (refused-closes (ended Phase.Closed) (awaiting_done behind) out _ (unread 14 m) (done-read (awaiting_done behind) m ∙ rw read)
          (unread-alerts 14 m)))
      of-read (Some body) read = legally (record { body = body; read = read }) (dec_le (answer_length s) (length out))
  behind-fate change_of_cipher = inr (inr refl)
  behind-fate (alert level description) =
      alert-fate (awaiting_done behind) refl (Aside (ShortDone s)) (DoneComes s) (λ x. inl) level description
