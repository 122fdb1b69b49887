-- What a client's connection holds when it awaits the ServerHelloDone, and what that message comes to: the secrets are there, and the answer is made of them.
-- Assumes nothing.
use mathlib.Core.Path.{◌≡◌, sym, ap, ap₂, ◌∙◌}
use Prim.Native.Nat.{ℕ, ◌+◌, ◌≤◌}
use native.Mathlib.Omega.{arith}
use mathlib.Core.Bool.{true}
use mathlib.Core.List.{List, ◌++◌, append-nil, append_assoc}
use lib.ListN.{length, length-append}
use Rattle.refusal.specs.Lent.{gives}
use Rattle.sha256.specs.declared.Sha256.{Sha256}
use Rattle.sha256.specs.Hash.{digest}
use Rattle.sha256.specs.State.{fresh, absorb}
use Rattle.sha256.proofs.Absorb.{absorb-append}
use Rattle.sha256.proofs.Finish.{finished-within, length-digest, sha256-within}
use Rattle.keys.specs.declared.Side.TheVariants.{Client, Server}
use Rattle.keys.specs.Secrets.{master_under, verify_data, finished_of}
use Rattle.keys.proofs.Lengths.{master-under-given, value-given}
use Rattle.layout.specs.Layout.{bytes}
use Rattle.messages.specs.KeyExchange.{client_key_exchange}
use Rattle.messages.specs.Fixed as Fixed
use Rattle.handshake.specs.Flight.{flight_bytes}
use Rattle.handshake.specs.Step.{accept}
use Rattle.client.specs.declared.Setup.{Setup}
use Rattle.client.specs.declared.Connection.{Connection}
use Rattle.client.specs.Connection.{Settings, acceptable, hello, setup_of, identity_of, key_of}
use Rattle.client.specs.Exchange as Steps
use Rattle.client.specs.Exchange.{answer_with, before_finished, after_done, finished_with, exchange_with, exchanged}
use Rattle.client.proofs.Hellos.{hello-length}
use Rattle.client.proofs.Starts.{allowed}
use Rattle.client_theorems.specs.Terms.{exchange_of, answer_length, messages_before, right_value}
use lib.Seq.{take-append_seam}

-- how long the answer to a ServerHelloDone is
pub answer-has : (s : Settings) → answer_length s ≡ 22 + length s.identity
answer-has s = omega arith

-- a connection that has the settings, this random of the server's and the server's messages so far
pub record Ready (s : Settings) (c : Connection) (random from : List ℕ) : Type 0 where
  pub setup : c.setup ≡ setup_of s
  pub random-is : c.server.random ≡ random
  pub transcript : c.transcript ≡ absorb fresh (hello s.random ++ from)

-- what was kept at the front of a field
identity-kept : (s : Settings) → identity_of (setup_of s) ≡ s.identity
identity-kept s = take-append_seam s.identity _

key-kept : (s : Settings) → key_of (setup_of s) ≡ s.key
key-kept s = take-append_seam s.key _

-- the secrets of a connection that was answered with its ServerHelloDone
pub record Secrets (s : Settings) (random from : List ℕ) : Type 0 where
  pub master : List ℕ
  pub master-is : master_under s.key s.random random ≡ gives master
  pub long : length master ≡ 48
  pub own : List ℕ
  pub own_is : verify_data Client master (digest (messages_before s from)) ≡ gives own
  pub twelve : length own ≡ 12
  pub servers : List ℕ
  pub servers-is : verify_data Server master (digest (messages_before s from ++ bytes Fixed.finished own)) ≡ gives servers
  pub servers-twelve : length servers ≡ 12

module _ (s : Settings) (ok : acceptable s ≡ true) (random : List ℕ) (size : length random ≡ 32) (from : List ℕ) where
  pub secrets : Secrets s random from
  secrets =
      let a = allowed s ok in
      let m = master-under-given s.key s.random random a.some_key a.few a.random size in
      let own = value-given Client m.0 (digest (messages_before s from)) m.1 (length-digest (messages_before s from)) in
      let all = messages_before s from ++ bytes Fixed.finished own.0 in
      let servers = value-given Server m.0 (digest all) m.1 (length-digest all) in
      record {
        master = m.0;
        master-is = m.2;
        long = m.1;
        own = own.0;
        own_is = own.2;
        twelve = own.1;
        servers = servers.0;
        servers-is = servers.2;
        servers-twelve = servers.1;
      }

  -- messages of so many bytes are far below the hash's limit
  module _ (few : length from ≤ 65536) where
    pub before-length : length (messages_before s from) ≤ 131072
    before-length =
        let a = allowed s ok in
        rw (length-append (hello s.random) (from ++ exchange_of s), length-append from (exchange_of s))
        (omega (arith, hello-length s.random a.random, a.identity))

    -- the value that is right
    pub right_is : (w : Secrets s random from) → right_value s random from ≡ gives w.servers
    right_is w =
        let all = messages_before s from ++ bytes Fixed.finished w.own in
        let fits : length all ≤ 262144 = rw (length-append (messages_before s from) (bytes Fixed.finished w.own)) (omega (arith, before-length, w.twelve)) in
        rw (w.master-is, sha256-within (messages_before s from) (omega (arith, before-length)), w.own_is, sha256-within all (omega (arith, fits))) w.servers-is

-- the answer, and the connection behind it
module _ (s : Settings) (ok : acceptable s ≡ true) (random : List ℕ) (size : length random ≡ 32) (from m : List ℕ) (few : length (from ++ m) ≤ 65536)
    {c : Connection} (ready : Ready s c random from) where
  abbrev made : Secrets s random (from ++ m)
  made = secrets s ok random size (from ++ m)

  before-is : before_finished c m ≡ absorb fresh (messages_before s (from ++ m))
  before-is =
      let exchange = exchange_of s in
      rw (ready.setup, identity-kept s, ready.transcript)
      (sym (absorb-append (absorb fresh (hello s.random ++ from)) m exchange) ∙ sym (absorb-append fresh (hello s.random ++ from) (m ++ exchange))
      ∙ ap (absorb fresh) (append_assoc (hello s.random) from (m ++ exchange) ∙ ap (λ (l : List ℕ). hello s.random ++ l) (sym (append_assoc from m exchange))))

  own-made : finished_of Client made.master (before_finished c m) ≡ gives made.own
  own-made =
      rw (finished-within (before_finished c m) (messages_before s (from ++ m)) before-is (omega (arith, before-length s ok random size (from ++ m) few))) made.own_is

  master-made : master_under (key_of c.setup) c.setup.random c.server.random ≡ gives made.master
  master-made = rw (ready.setup, key-kept s, ready.random-is) made.master-is

  exchange-is : Steps.exchange_of c ≡ exchange_of s
  exchange-is = ap (λ (setup : Setup). bytes client_key_exchange (identity_of setup)) ready.setup ∙ ap (bytes client_key_exchange) (identity-kept s)

  pub done-answered : exchanged c m ≡ accept (answer_with (exchange_of s) made.own) (after_done c m made.master made.own)
  done-answered =
      ap (exchange_with c m) master-made ∙ ap (finished_with c m made.master) own-made
      ∙ ap (λ (e : List ℕ). accept (answer_with e made.own) (after_done c m made.master made.own)) exchange-is

  -- how long the answer is
  pub answer-length : length (flight_bytes (answer_with (exchange_of s) made.own)) ≡ answer_length s
  answer-length =
      let message = bytes Fixed.finished made.own in
      let both : flight_bytes (answer_with (exchange_of s) made.own) ≡ exchange_of s ++ message = ap₂ ◌++◌ (append-nil (exchange_of s)) (append-nil message) in
      ap length both ∙ length-append (exchange_of s) message ∙ omega (arith, made.twelve)

  -- the server's value, which is compared with
  pub servers-made : finished_of Server made.master (after_done c m made.master made.own).transcript ≡ gives made.servers
  servers-made =
      let message = bytes Fixed.finished made.own in
      let before = messages_before s (from ++ m) in
      let all : absorb (before_finished c m) message ≡ absorb fresh (before ++ message) =
      ap (λ (t : Sha256). absorb t message) before-is ∙ sym (absorb-append fresh before message) in
      let fits : length (before ++ message) ≤ 262144 =
      rw (length-append before message) (omega (arith, before-length s ok random size (from ++ m) few, made.twelve)) in
      rw (finished-within (absorb (before_finished c m) message) (before ++ message) all (omega (arith, fits))) made.servers-is
