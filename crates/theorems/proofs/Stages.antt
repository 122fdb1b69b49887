-- The stages of a connection, from a start on, as far as the change of cipher, and those where it is over: what it is there, and what every call
-- makes of it. Finishing.antt has the stage between.
-- Assumes nothing.
use mathlib.Core.Path.{◌≡◌, refl, ap, ◌∙◌}
use mathlib.Core.Logic.{◌⊎◌, inl, inr}
use Prim.Native.Nat.{ℕ, ◌-◌, ◌≤◌}
use native.Mathlib.Omega.{arith}
use native.Mathlib.Decide.{dec_le}
use mathlib.Core.Bool.{Bool, true, false, cond}
use mathlib.Core.List.{List}
use lib.ListN.{length, replicate}
use lib.Seq.{take-append_seam}
use lib.Dec.{ltb}
use Rattle.std.specs.Prelude.{Result, Ok, Err, Option, None, Some}
use Rattle.refusal.specs.declared.Refusal.{Refusal}
use Rattle.refusal.specs.Table.{to_peer}
use Rattle.refusal.specs.declared.Refusal.TheVariants.{UnexpectedMessage, HandshakeFailure, IllegalParameter, DecodeError, ProtocolVersion}
use Rattle.refusal.specs.declared.Refusal.TheVariants.{UnknownPskIdentity}
use Rattle.layout.specs.Header.{header}
use Rattle.layout.specs.Place.{last_at, after_header, contents}
use Rattle.hellos.specs.ClientHello.{ClientHello, client_header, client_fields, read_client_hello}
use Rattle.messages.specs.KeyExchange.{read_vector}
use Rattle.handshake.specs.Flight.{silence}
use Rattle.handshake.specs.Series.{Call, message, change_of_cipher, alert, IgnoredWarning}
use Rattle.handshake.specs.Step.{refuse, accept}
use Rattle.server.specs.declared.Rule.{Rule}
use Rattle.server.specs.declared.Phase.{Phase}
use Rattle.server.specs.declared.Connection.{Connection}
use Rattle.server.specs.Connection.{Settings, rule_of, started, ended, hint_of}
use Rattle.server.specs.Step.{Step, settled}
use Rattle.server.specs.KeyExchange.{View, after_keys, key_found, key_identity}
use Rattle.server.specs.Hello.{chosen, offers_null, flight, flight_for, after_hello, hello_chosen, hello_fields}
use Rattle.server.specs.Message.{message_step}
use Rattle.server.specs.Change.{after_change}
use Rattle.handshake.proofs.Settling.{refused-closes, refused-stays, accepted-next, short-stays, Alerts, Tested, header-tested, unread, unread-alerts}
use Rattle.handshake.proofs.Settling.{or_refuse, step-read}
use Rattle.server.proofs.Hellos.{version-old, null-missing, null-there}
use Rattle.theorems.specs.Series.{call}
use Rattle.theorems.specs.Terms.{LegalHello, LegalKeyExchange, answer_to, flight_to, Aside, ShortHello, BadTableCall}
use Rattle.theorems.proofs.Settling.{Fate, warning-stays, alert-fate}

-- ---- awaiting the ClientHello

-- what the connection is after a legal ClientHello
abbrev pub helloed : (s : Settings) → {hello : List ℕ} → LegalHello s.suites hello → Connection
helloed s {hello} legal = after_hello (started s) hello legal.fields legal.suite

hint-kept : (s : Settings) → hint_of (started s).setup ≡ s.hint
unfolding started
hint-kept s = take-append_seam s.hint (replicate (128 - length s.hint) 0)

pub flight-is : (s : Settings) (suite : ℕ) → flight_for (started s) suite ≡ flight s.random s.hint suite
unfolding started
flight-is s suite = ap (λ (hint : List ℕ). flight s.random hint suite) (hint-kept s)

-- a legal ClientHello with room for its answer
pub record HelloComes (s : Settings) (x : Call) : Type 0 where
  pub hello : List ℕ
  pub out : List ℕ
  pub is : x ≡ message hello out
  pub legal : LegalHello s.suites hello
  pub room : length (flight_to s legal) ≤ length out

module _ (s : Settings) (v : View) where
  abbrev hello_step : List ℕ → Step
  hello_step m = message_step v (started s) m Phase.Hello

  pub hello-read : (m : List ℕ) → hello_step m ≡ or_refuse (unread 1 m) (λ f. hello_fields (started s) m (Some f)) (read_client_hello m)
  hello-read m = step-read (λ h. client_fields m (client_header m h)) (λ r. refl) (hello_fields (started s) m) refl (header 1 m)

  pub hello-legal : {m : List ℕ} (legal : LegalHello s.suites m) → hello_step m ≡ accept (answer_to s legal) (helloed s legal)
  unfolding started
  hello-legal {m} legal =
      hello-read m ∙ rw legal.read (null-there (started s) m legal.fields legal.version legal.null)
      ∙ ap (hello_chosen (started s) m legal.fields) legal.common ∙ rw (flight-is s legal.suite)

  pub hello-other : (m : List ℕ) → LegalHello s.suites m ⊎ Alerts (hello_step m)
  unfolding started
  hello-other m = of-read (read_client_hello m) refl
    where
      step : (f : ClientHello) → read_client_hello m ≡ Some f → hello_step m ≡ hello_fields (started s) m (Some f)
      step f read = hello-read m ∙ rw read

      of_fields : (f : ClientHello) → read_client_hello m ≡ Some f → Dec (0x0303 ≤ f.version) → (b : Bool) → offers_null f.methods ≡ b
          → (o : Option ℕ) → chosen (started s).setup.suites f.suites ≡ o → LegalHello s.suites m ⊎ Alerts (hello_step m)
      of_fields f read (no old) b null o common = inr (ProtocolVersion, step f read ∙ version-old (started s) m f (omega arith), refl)
      of_fields f read (yes version) false null o common = inr (IllegalParameter, step f read ∙ null-missing (started s) m f version null, refl)
      of_fields f read (yes version) true null None common =
          inr (HandshakeFailure, step f read ∙ null-there (started s) m f version null ∙ ap (hello_chosen (started s) m f) common, refl)
      of_fields f read (yes version) true null (Some suite) common =
          inl (record { fields = f; read = read; version = version; null = null; suite = suite; common = common })

      of-read : (o : Option ClientHello) → read_client_hello m ≡ o → LegalHello s.suites m ⊎ Alerts (hello_step m)
      of-read None read = inr (unread 1 m, hello-read m ∙ rw read, unread-alerts 1 m)
      of-read (Some f) read =
          of_fields f read (dec_le 0x0303 f.version) (offers_null f.methods) refl (chosen (started s).setup.suites f.suites) refl

  pub hello-stays : (x : Call) → Aside (ShortHello s) x → (call v (started s) x).next ≡ started s
  unfolding started
  hello-stays x (inl warning) = warning-stays v (started s) refl x warning
  hello-stays x (inr short) =
      rw short.is (short-stays (ended Phase.Closed) (started s) short.out _ (answer_to s short.legal) (helloed s short.legal) (hello-legal short.legal)
      short.short)

  pub hello-comes : (x : Call) (comes : HelloComes s x) → (call v (started s) x).next ≡ helloed s comes.legal
  unfolding started
  hello-comes x comes =
      rw comes.is
      (accepted-next (ended Phase.Closed) (started s) comes.out _ (answer_to s comes.legal) (helloed s comes.legal) (hello-legal comes.legal) comes.room)

  pub hello-fate : (x : Call) → Fate v (started s) (Aside (ShortHello s)) (HelloComes s) x
  unfolding started
  hello-fate (message m out) = go (hello-other m)
    where
      legally : (legal : LegalHello s.suites m) → Dec (length (flight_to s legal) ≤ length out)
          → Fate v (started s) (Aside (ShortHello s)) (HelloComes s) (message m out)
      legally legal (yes room) = inr (inl (record { hello = m; out = out; is = refl; legal = legal; room = room }))
      legally legal (no short) = inl (inr (record { hello = m; out = out; is = refl; legal = legal; short = omega arith }))

      go : LegalHello s.suites m ⊎ Alerts (hello_step m) → Fate v (started s) (Aside (ShortHello s)) (HelloComes s) (message m out)
      go (inl legal) = legally legal (dec_le (length (flight_to s legal)) (length out))
      go (inr alerts) = inr (inr (refused-closes (ended Phase.Closed) (started s) out (hello_step m) alerts.0 alerts.1 alerts.2))
  hello-fate change_of_cipher = inr (inr refl)
  hello-fate (alert level description) = alert-fate v (started s) refl (Aside (ShortHello s)) (HelloComes s) (λ x. inl) level description

-- ---- awaiting the ClientKeyExchange

-- the key that the master secret is made of, by what the table has for the identity
abbrev key_used : Settings → Option (List ℕ) → List ℕ
key_used s None = (started s).setup.stand_in
key_used s (Some key) = key

abbrev is_listed : Option (List ℕ) → Bool
is_listed None = false
is_listed (Some key) = true

-- what the connection is after a legal ClientKeyExchange that was accepted, by what the table has for its identity
abbrev pub keyed : (s : Settings) → {hello : List ℕ} → LegalHello s.suites hello → List ℕ → Option (List ℕ) → Connection
keyed s legal exchange found = after_keys (helloed s legal) exchange (key_used s found) (is_listed found)

-- "Under tell, an unlisted identity is 115."
abbrev pub unknown : Rule → Option (List ℕ) → Bool
unknown Rule.Tell None = true
unknown Rule.Tell (Some key) = false
unknown Rule.Hide found = false

-- a legal ClientKeyExchange, with a table that is well formed
pub record ExchangeComes (v : View) (x : Call) : Type 0 where
  pub exchange : List ℕ
  pub out : List ℕ
  pub is : x ≡ message exchange out
  pub good : v.refusal ≡ None
  pub legal : LegalKeyExchange exchange

module _ (s : Settings) (v : View) {hello : List ℕ} (legal : LegalHello s.suites hello) where
  abbrev exchange_step : List ℕ → Step
  exchange_step m = message_step v (helloed s legal) m Phase.KeyExchange

  pub exchange-read : (m : List ℕ) → v.refusal ≡ None
      → exchange_step m ≡ or_refuse (unread 16 m) (λ identity. key_found (helloed s legal) m (v.lookup identity)) (read_vector 16 m)
  exchange-read m good =
      rw good (step-read (λ h. contents m (after_header h (last_at 2 m 4))) (λ r. refl) (key_identity v.lookup (helloed s legal) m) refl
      (header 16 m))

  found-step : (m : List ℕ) (found : Option (List ℕ)) → key_found (helloed s legal) m found
      ≡ cond (unknown (rule_of s.named) found) (refuse UnknownPskIdentity) (accept silence (keyed s legal m found))
  unfolding started
  found-step m found = go (rule_of s.named) refl found
    where
      go : (rule : Rule) → (started s).setup.rule ≡ rule → (o : Option (List ℕ))
          → key_found (helloed s legal) m o ≡ cond (unknown rule o) (refuse UnknownPskIdentity) (accept silence (keyed s legal m o))
      go Rule.Tell e None = rw e
      go Rule.Tell e (Some key) = refl
      go Rule.Hide e None = rw e
      go Rule.Hide e (Some key) = refl

  pub exchange-legal : {m : List ℕ} → v.refusal ≡ None → (exchange : LegalKeyExchange m) → exchange_step m
      ≡ cond (unknown (rule_of s.named) (v.lookup exchange.identity)) (refuse UnknownPskIdentity)
      (accept silence (keyed s legal m (v.lookup exchange.identity)))
  exchange-legal {m} good exchange = exchange-read m good ∙ rw exchange.read (found-step m (v.lookup exchange.identity))

  pub exchange-stays : (x : Call) → Aside (BadTableCall v) x → (call v (helloed s legal) x).next ≡ helloed s legal
  exchange-stays x (inl warning) = warning-stays v (helloed s legal) refl x warning
  exchange-stays x (inr bad) =
      rw bad.is (refused-stays (ended Phase.Closed) (helloed s legal) bad.out (exchange_step bad.exchange) bad.refusal (rw (bad.fits, bad.bad)) bad.to_host)

  pub exchange-comes : (x : Call) (comes : ExchangeComes v x) → (call v (helloed s legal) x).next
      ≡ cond (unknown (rule_of s.named) (v.lookup comes.legal.identity)) (ended Phase.Closed)
      (keyed s legal comes.exchange (v.lookup comes.legal.identity))
  exchange-comes x comes =
      rw (comes.is, exchange-legal comes.good comes.legal)
      (go (unknown (rule_of s.named) (v.lookup comes.legal.identity)) (keyed s legal comes.exchange (v.lookup comes.legal.identity)))
    where
      go : (b : Bool) (next : Connection)
          → (settled (helloed s legal) comes.out (cond b (refuse UnknownPskIdentity) (accept silence next))).next ≡ cond b (ended Phase.Closed) next
      go true next = refl
      go false next = accepted-next (ended Phase.Closed) (helloed s legal) comes.out (accept silence next) silence next refl (omega arith)

  pub exchange-fate : (x : Call) → Fate v (helloed s legal) (Aside (BadTableCall v)) (ExchangeComes v) x
  exchange-fate (message m out) = of-table v.refusal refl
    where
      refused : Alerts (exchange_step m) → Fate v (helloed s legal) (Aside (BadTableCall v)) (ExchangeComes v) (message m out)
      refused alerts = inr (inr (refused-closes (ended Phase.Closed) (helloed s legal) out (exchange_step m) alerts.0 alerts.1 alerts.2))

      of-read : v.refusal ≡ None → (o : Option (List ℕ)) → read_vector 16 m ≡ o
          → Fate v (helloed s legal) (Aside (BadTableCall v)) (ExchangeComes v) (message m out)
      of-read good None read = refused (unread 16 m, exchange-read m good ∙ rw read, unread-alerts 16 m)
      of-read good (Some identity) read =
          inr (inl (record { exchange = m; out = out; is = refl; good = good; legal = record { identity = identity; read = read } }))

      of-header : (r : Refusal) → v.refusal ≡ Some r → to_peer r ≡ false → (h : Result Unit Refusal) → header 16 m ≡ h → Tested m h
          → Fate v (helloed s legal) (Aside (BadTableCall v)) (ExchangeComes v) (message m out)
      of-header r bad host (Ok tt) fits t =
          inl (inr (record { exchange = m; out = out; is = refl; fits = fits; refusal = r; bad = bad; to_host = host }))
      of-header r bad host (Err q) refuses t = refused (q, rw refuses, t)

      -- a table that refused with an alert would close the connection; none does
      alerting : (r : Refusal) → v.refusal ≡ Some r → to_peer r ≡ true → (h : Result Unit Refusal) → header 16 m ≡ h → Tested m h → Alerts (exchange_step m)
      alerting r bad told (Ok tt) fits t = (r, rw (fits, bad), told)
      alerting r bad told (Err q) refuses t = (q, rw refuses, t)

      of-refusal : (r : Refusal) → v.refusal ≡ Some r → (b : Bool) → to_peer r ≡ b
          → Fate v (helloed s legal) (Aside (BadTableCall v)) (ExchangeComes v) (message m out)
      of-refusal r bad true told = refused (alerting r bad told (header 16 m) refl (header-tested 16 m))
      of-refusal r bad false host = of-header r bad host (header 16 m) refl (header-tested 16 m)

      of-table : (o : Option Refusal) → v.refusal ≡ o → Fate v (helloed s legal) (Aside (BadTableCall v)) (ExchangeComes v) (message m out)
      of-table None good = of-read good (read_vector 16 m) refl
      of-table (Some r) bad = of-refusal r bad (to_peer r) refl
  exchange-fate change_of_cipher = inr (inr refl)
  exchange-fate (alert level description) =
      alert-fate v (helloed s legal) refl (Aside (BadTableCall v)) (ExchangeComes v) (λ x. inl) level description

-- ---- awaiting the change of cipher

-- what the connection is after the change of cipher
abbrev pub changed : (s : Settings) → {hello : List ℕ} → LegalHello s.suites hello → List ℕ → Option (List ℕ) → Connection
changed s legal exchange found = after_change (keyed s legal exchange found)

module _ (s : Settings) (v : View) {hello : List ℕ} (legal : LegalHello s.suites hello) (exchange : List ℕ) (found : Option (List ℕ)) where
  pub change-stays : (x : Call) → IgnoredWarning x → (call v (keyed s legal exchange found) x).next ≡ keyed s legal exchange found
  change-stays = warning-stays v (keyed s legal exchange found) refl

  pub change-comes : (call v (keyed s legal exchange found) change_of_cipher).next ≡ changed s legal exchange found
  change-comes = refl

  pub change-fate : (x : Call) → Fate v (keyed s legal exchange found) IgnoredWarning (λ y. y ≡ change_of_cipher) x
  change-fate (message m out) = inr (inr (go (ltb (length m) 4)))
    where
      go : (b : Bool) → (settled (keyed s legal exchange found) out (refuse (cond b DecodeError UnexpectedMessage))).next ≡ ended Phase.Closed
      go true = refl
      go false = refl
  change-fate change_of_cipher = inr (inl refl)
  change-fate (alert level description) =
      alert-fate v (keyed s legal exchange found) refl IgnoredWarning (λ y. y ≡ change_of_cipher) (λ x h. h) level description

-- ---- over

pub closed-stays : (v : View) (x : Call) → (call v (ended Phase.Closed) x).next ≡ ended Phase.Closed
closed-stays v (message m out) = refl
closed-stays v change_of_cipher = refl
closed-stays v (alert level description) = refl

pub complete-stays : (v : View) (x : Call) → (call v (ended Phase.Complete) x).next ≡ ended Phase.Complete
complete-stays v (message m out) = refl
complete-stays v change_of_cipher = refl
complete-stays v (alert level description) = refl
