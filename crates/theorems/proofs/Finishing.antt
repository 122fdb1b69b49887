-- The last stage of a connection: it awaits the Finished. What every call makes of it, and that a Finished is accepted exactly where it is right.
-- Assumes nothing.
use mathlib.Core.Path.{◌≡◌, refl, sym, ap, ◌∙◌}
use mathlib.Core.Logic.{◌⊎◌, inl, inr}
use Prim.Native.Nat.{ℕ, ◌+◌, ◌≤◌, ◌<◌}
use native.Mathlib.Omega.{arith}
use native.Mathlib.Decide.{dec_le}
use mathlib.Core.Bool.{Bool, true, false, and-eq-true_iff}
use mathlib.Core.List.{List, ◌++◌, append-nil}
use lib.ListN.{length, length-append}
use lib.Dec.{leb, eqb}
use borrow.Author.Tests.{leb-true, eqb-true}
use Rattle.std.specs.Prelude.{Option, None, Some}
use Rattle.refusal.specs.Lent.{gives}
use Rattle.refusal.specs.Table.{to_peer}
use Rattle.refusal.specs.declared.Refusal.{Refusal}
use Rattle.refusal.specs.declared.Refusal.TheVariants.{DecryptError}
use Rattle.sha256.specs.State.{fresh, absorb}
use Rattle.sha256.proofs.Absorb.{absorb-append}
use Rattle.keys.specs.declared.Side.TheVariants.{Client}
use Rattle.utf8.specs.Utf8.{valid_utf8}
use Rattle.layout.specs.Layout.{bytes}
use Rattle.layout.specs.Types.{message_limit}
use Rattle.layout.specs.Header.{header}
use Rattle.layout.specs.Place.{last_at, filled_by, after_header, contents}
use Rattle.hellos.specs.ClientHello.{client_header, client_fields}
use Rattle.messages.specs.Fixed as Fixed
use Rattle.messages.specs.Fixed.{read_fixed}
use Rattle.handshake.specs.Finished.{is_value}
use Rattle.handshake.specs.Flight.{Flight, flight_bytes}
use Rattle.handshake.specs.Series.{Call, message, change_of_cipher, alert}
use Rattle.handshake.specs.Step.{refuse, accept}
use Rattle.server.specs.declared.Phase.{Phase}
use Rattle.server.specs.declared.Connection.{Connection}
use Rattle.server.specs.Connection.{Settings, acceptable, started, ended}
use Rattle.server.specs.Step.{Step}
use Rattle.server.specs.KeyExchange.{View}
use Rattle.keys.specs.Secrets.{master_under}
use Rattle.server.specs.Hello.{flight}
use Rattle.server.specs.Finished.{judged, finished_value, finished_flight}
use Rattle.keys.specs.Secrets.{finished_of}
use Rattle.server.specs.Message.{message_step}
use Rattle.handshake.proofs.Settling.{refused-closes, accepted-next, short-stays, unread, unread-alerts, or_refuse, step-read, read-size}
use Rattle.server.proofs.Hellos.{flight-most}
use Rattle.theorems.specs.Series.{call}
use Rattle.theorems.specs.Terms.{LegalHello, LegalKeyExchange, LegalFinished, flight_to, value_under, Aside, ChangeCame, named}
use Rattle.theorems.specs.Terms.{RightFinished, ShortFinished}
use Rattle.theorems.proofs.Values.{is-value, value-is, compared, servers-value}
use Rattle.theorems.proofs.Settling.{Fate, warning-stays, alert-fate}
use Rattle.theorems.proofs.Stages.{helloed, keyed, changed, flight-is}

-- a legal Finished that is right under the key that was found
pub record Right (s : Settings) {hello : List ℕ} (legal : LegalHello s.suites hello) (exchange : List ℕ) (found : Option (List ℕ))
    (m : List ℕ) : Type 0 where
  pub finished : LegalFinished m
  pub key : List ℕ
  pub listed : found ≡ Some key
  pub right : value_under s legal exchange key ≡ gives finished.value

-- what a Finished is refused with that isn't right
abbrev wrong_of : Refusal → Option (List ℕ) → Refusal
wrong_of r None = r
wrong_of r (Some value) = DecryptError

abbrev pub wrong : List ℕ → Refusal
wrong m = wrong_of (unread 20 m) (read_fixed 20 12 m)

pub wrong-alerts : (m : List ℕ) → to_peer (wrong m) ≡ true
wrong-alerts m = go (read_fixed 20 12 m)
  where
    go : (o : Option (List ℕ)) → to_peer (wrong_of (unread 20 m) o) ≡ true
    go None = unread-alerts 20 m
    go (Some value) = refl

flight-short : (s : Settings) → acceptable s ≡ true → (suite : ℕ) → length (flight_bytes (flight s.random s.hint suite)) ≤ 180
flight-short s ok suite =
    let first = (and-eq-true_iff (eqb (length s.random) 32) (leb (length s.hint) 128)).0
    ((and-eq-true_iff _ (valid_utf8 s.hint)).0 ((and-eq-true_iff _ (eqb (length s.stand_in) 32)).0 ok).0).0 in
    flight-most s.random s.hint suite (eqb-true _ _ first.0) (leb-true _ _ first.1)

module _ (s : Settings) (v : View) {hello : List ℕ} (legal : LegalHello s.suites hello) (exchange : List ℕ) where
  abbrev messages : List ℕ
  messages = hello ++ (flight_to s legal ++ exchange)

  transcript-is : absorb (helloed s legal).transcript exchange ≡ absorb fresh messages
  unfolding started
  transcript-is =
      ap (λ (f : Flight). absorb (absorb (absorb fresh hello) (flight_bytes f)) exchange) (flight-is s legal.suite)
      ∙ sym (absorb-append fresh hello (flight_to s legal ++ exchange) ∙ absorb-append (absorb fresh hello) (flight_to s legal) exchange)

  value-compared : (key value : List ℕ)
      → is_value value (finished_of Client (keyed s legal exchange (Some key)).secrets.master (keyed s legal exchange (Some key)).transcript)
      ≡ is_value value (value_under s legal exchange key)
  unfolding started
  value-compared key value =
      compared (master_under key legal.fields.random s.random) (keyed s legal exchange (Some key)).transcript messages transcript-is value

  judged-other : (found : Option (List ℕ)) (m value : List ℕ)
      → ((key : List ℕ) × (found ≡ Some key) × (value_under s legal exchange key ≡ gives value))
      ⊎ (judged (changed s legal exchange found) m value ≡ refuse DecryptError)
  judged-other None m value = inr refl
  judged-other (Some key) m value = go (is_value value (value_under s legal exchange key)) refl
    where
      go : (b : Bool) → is_value value (value_under s legal exchange key) ≡ b
          → ((k : List ℕ) × (Some key ≡ Some k) × (value_under s legal exchange k ≡ gives value))
          ⊎ (judged (changed s legal exchange (Some key)) m value ≡ refuse DecryptError)
      go true e = inl (key, refl, is-value value (value_under s legal exchange key) e)
      go false e = inr (rw (value-compared key value, e))

  judged-right : acceptable s ≡ true → LegalKeyExchange exchange → (m key value : List ℕ) → length m ≤ message_limit
      → value_under s legal exchange key ≡ gives value
      → (own : List ℕ) × (length own ≡ 12)
      × (judged (changed s legal exchange (Some key)) m value ≡ accept (finished_flight own) (ended Phase.Complete))
  unfolding started
  judged-right ok legal-exchange m key value fits right =
      let last : length exchange ≤ message_limit =
      read-size (λ h. contents exchange (after_header h (last_at 2 exchange 4))) (λ r. refl) 16 exchange legal-exchange.identity
      legal-exchange.read in
      let first : length hello ≤ message_limit =
      read-size (λ h. client_fields hello (client_header hello h)) (λ r. refl) 1 hello legal.fields legal.read in
      let middle : length (flight_to s legal) ≤ 180 = flight-short s ok legal.suite in
      let few : length messages + length m ≤ 65536 =
      rw (length-append hello (flight_to s legal ++ exchange), length-append (flight_to s legal) exchange) (omega arith) in
      let secret = master_under key legal.fields.random s.random in
      let own = servers-value secret (keyed s legal exchange (Some key)).transcript messages transcript-is value m few right in
      let same : is_value value (finished_of Client (keyed s legal exchange (Some key)).secrets.master
      (keyed s legal exchange (Some key)).transcript) ≡ true =
      value-compared key value ∙ value-is value (value_under s legal exchange key) right in
      (own.0, own.1, rw (same, own.2))

  module _ (found : Option (List ℕ)) where
    abbrev finished_step : List ℕ → Step
    finished_step m = message_step v (changed s legal exchange found) m Phase.Finished

    pub finished-read : (m : List ℕ) → finished_step m ≡ or_refuse (unread 20 m) (judged (changed s legal exchange found) m) (read_fixed 20 12 m)
    finished-read m =
        step-read (λ h. contents m (after_header h (filled_by 12 m))) (λ r. refl) (finished_value (changed s legal exchange found) m) refl (header 20 m)

    -- what is said of a Finished that isn't right depends on its bytes alone
    pub finished-other : (m : List ℕ) → Right s legal exchange found m ⊎ (finished_step m ≡ refuse (wrong m))
    finished-other m = of-read (read_fixed 20 12 m) refl
      where
        of-value : (value : List ℕ) → read_fixed 20 12 m ≡ Some value
            → ((key : List ℕ) × (found ≡ Some key) × (value_under s legal exchange key ≡ gives value))
            ⊎ (judged (changed s legal exchange found) m value ≡ refuse DecryptError)
            → Right s legal exchange found m ⊎ (finished_step m ≡ refuse (wrong m))
        of-value value read (inl right) =
            inl (record { finished = record { value = value; read = read }; key = right.0; listed = right.1; right = right.2 })
        of-value value read (inr refused) = inr (finished-read m ∙ rw read refused)

        of-read : (o : Option (List ℕ)) → read_fixed 20 12 m ≡ o → Right s legal exchange found m ⊎ (finished_step m ≡ refuse (wrong m))
        of-read None read = inr (finished-read m ∙ rw read)
        of-read (Some value) read = of-value value read (judged-other found m value)

    pub finished-right : acceptable s ≡ true → LegalKeyExchange exchange → (m : List ℕ) → Right s legal exchange found m
        → (own : List ℕ) × (length own ≡ 12) × (finished_step m ≡ accept (finished_flight own) (ended Phase.Complete))
    finished-right ok legal-exchange m r =
        let fits : length m ≤ message_limit =
        read-size (λ h. contents m (after_header h (filled_by 12 m))) (λ r. refl) 20 m r.finished.value r.finished.read in
        let own = judged-right ok legal-exchange m r.key r.finished.value fits r.right in
        (own.0, own.1, finished-read m ∙ rw (r.finished.read, r.listed) own.2)

-- the server's Finished has 16 bytes
finished-size : (value : List ℕ) → length value ≡ 12 → length (flight_bytes (finished_flight value)) ≡ 16
finished-size value h = ap length (append-nil (bytes Fixed.finished value)) ∙ omega arith

-- what the connection is when it awaits the Finished of a series
abbrev pub awaiting : (s : Settings) (v : View) {calls : List Call} → ChangeCame s v calls → Connection
awaiting s v came = changed s came.came.came.legal came.came.exchange (v.lookup (named s v came))

-- a Finished that is right, with room for the server's
pub record FinishedComes (s : Settings) (v : View) {calls : List Call} (came : ChangeCame s v calls) (x : Call) : Type 0 where
  pub finished : List ℕ
  pub out : List ℕ
  pub is : x ≡ message finished out
  pub right : RightFinished s v came finished
  pub room : 16 ≤ length out

module _ (s : Settings) (v : View) (ok : acceptable s ≡ true) {calls : List Call} (came : ChangeCame s v calls) where
  abbrev finish_step : List ℕ → Step
  finish_step m = message_step v (awaiting s v came) m Phase.Finished

  finished-accepted : (m : List ℕ) → RightFinished s v came m
      → (own : List ℕ) × (length (flight_bytes (finished_flight own)) ≡ 16) × (finish_step m ≡ accept (finished_flight own) (ended Phase.Complete))
  finished-accepted m right =
      let own = finished-right s v came.came.came.legal came.came.exchange (v.lookup (named s v came)) ok came.came.legal m
      (record { finished = right.legal; key = right.key; listed = right.listed; right = right.right }) in
      (own.0, finished-size own.0 own.1, own.2)

  pub finished-stays : (x : Call) → Aside (ShortFinished s v came) x → (call v (awaiting s v came) x).next ≡ awaiting s v came
  finished-stays x (inl warning) = warning-stays v (awaiting s v came) refl x warning
  finished-stays x (inr short) =
      let own = finished-accepted short.finished short.right in
      let less : length short.out < length (flight_bytes (finished_flight own.0)) = rw own.1 short.short in
      rw short.is (short-stays (ended Phase.Closed) (awaiting s v came) short.out _ (finished_flight own.0) (ended Phase.Complete) own.2 less)

  pub finished-comes : (x : Call) → FinishedComes s v came x → (call v (awaiting s v came) x).next ≡ ended Phase.Complete
  finished-comes x comes =
      let own = finished-accepted comes.finished comes.right in
      let room : length (flight_bytes (finished_flight own.0)) ≤ length comes.out = rw own.1 comes.room in
      rw comes.is (accepted-next (ended Phase.Closed) (awaiting s v came) comes.out _ (finished_flight own.0) (ended Phase.Complete) own.2 room)

  pub finished-fate : (x : Call) → Fate v (awaiting s v came) (Aside (ShortFinished s v came)) (FinishedComes s v came) x
  finished-fate (message m out) = go (finished-other s v came.came.came.legal came.came.exchange (v.lookup (named s v came)) m)
    where
      rightly : RightFinished s v came m → Dec (16 ≤ length out)
          → Fate v (awaiting s v came) (Aside (ShortFinished s v came)) (FinishedComes s v came) (message m out)
      rightly right (yes room) = inr (inl (record { finished = m; out = out; is = refl; right = right; room = room }))
      rightly right (no short) = inl (inr (record { finished = m; out = out; is = refl; right = right; short = omega arith }))

      go : Right s came.came.came.legal came.came.exchange (v.lookup (named s v came)) m ⊎ (finish_step m ≡ refuse (wrong m))
          → Fate v (awaiting s v came) (Aside (ShortFinished s v came)) (FinishedComes s v came) (message m out)
      go (inl r) = rightly (record { legal = r.finished; key = r.key; listed = r.listed; right = r.right }) (dec_le 16 (length out))
      go (inr refused) = inr (inr (refused-closes (ended Phase.Closed) (awaiting s v came) out (finish_step m) (wrong m) refused (wrong-alerts m)))
  finished-fate change_of_cipher = inr (inr refl)
  finished-fate (alert level description) =
      alert-fate v (awaiting s v came) refl (Aside (ShortFinished s v came)) (FinishedComes s v came) (λ x. inl) level description
