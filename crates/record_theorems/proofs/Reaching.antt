-- What handshake bytes from the start on come to, before the client's protection begins: how far they are a legal ClientHello and a legal
-- ClientKeyExchange.
-- Assumes nothing.
use mathlib.Core.Path.{◌≡◌, refl, sym, ap, ◌∙◌}
use mathlib.Core.Logic.{◌⊎◌, inl, inr}
use Prim.Native.Nat.{ℕ}
use native.Mathlib.Omega.{arith}
use mathlib.Core.Bool.{Bool, true, false, cond}
use mathlib.Core.List.{List, ◌++◌, append-nil}
use lib.ListN.{length}
use lib.Dec.{ltb}
use Rattle.std.specs.Prelude.{Result, Ok, Err, Option, None, Some}
use Rattle.refusal.specs.declared.Refusal.{Refusal}
use Rattle.refusal.specs.declared.Refusal.TheVariants.{UnexpectedMessage, UnknownPskIdentity}
use Rattle.layout.specs.Header.{header}
use Rattle.layout.specs.Place.{last_at, after_header, contents}
use Rattle.hellos.specs.ClientHello.{client_header, client_fields}
use Rattle.messages.specs.KeyExchange.{read_vector}
use Rattle.handshake.specs.Flight.{Flight, silence}
use Rattle.handshake.specs.Step as Shared
use Rattle.server.specs.declared.Phase.{Phase}
use Rattle.server.specs.declared.Connection.{Connection}
use Rattle.server.specs.Connection.{Settings, rule_of, started}
use Rattle.server.specs.Step as Server
use Rattle.server.specs.KeyExchange.{View, key_used, blocks_under, identity_blocks}
use Rattle.server.specs.Message.{message_step}
use Rattle.record_server.specs.Joining.{Progress, refuse, goes_on, judged}
use Rattle.theorems.specs.Terms.{LegalHello, LegalKeyExchange, answer_to}
use Rattle.handshake.proofs.Settling.{Alerts, unread}
use Rattle.theorems.proofs.Stages.{helloed, keyed, unknown, hello-legal, hello-other, exchange-read, exchange-legal}
use Rattle.record_theorems.specs.Cutting.{judge_all}
use Rattle.record_theorems.proofs.Headers.{HeaderPassed, read-passed}
use Rattle.record_theorems.proofs.Cutting.{taken, refused-on, all_first, First, is-refused, is-left, is-taken, first, message-first}
use Rattle.record_theorems.proofs.Cutting.{message-refused}

never_both : {step : Server.Step} {flight : Flight} {next : Connection} → step ≡ Shared.accept flight next → (r : Refusal) → step ≡ Shared.refuse r
    → ⊥
never_both e r f = let z : ◌≡◌ {A = ℕ} 0 1 = cc in omega arith

-- ---- the two messages

module _ (s : Settings) (v : View) where
  abbrev hello_step : List ℕ → Server.Step
  hello_step m = message_step v (started s) m Phase.Hello

  -- a message that is accepted where the ClientHello is awaited
  pub hello-accepted : (m : List ℕ) (flight : Flight) (next : Connection) → hello_step m ≡ Shared.accept flight next → LegalHello s.suites m
  hello-accepted m flight next e = go (hello-other s v m)
    where
      go : LegalHello s.suites m ⊎ Alerts (hello_step m) → LegalHello s.suites m
      go (inl legal) = legal
      go (inr alerts) = absurd (never_both e alerts.0 alerts.1)

  module _ {hello : List ℕ} (legal : LegalHello s.suites hello) where
    abbrev exchange_step : List ℕ → Server.Step
    exchange_step m = message_step v (helloed s legal) m Phase.KeyExchange

    -- a message that is accepted where the ClientKeyExchange is awaited
    record Accepts (m : List ℕ) : Type 0 where
      good : v.refusal ≡ None
      exchange : LegalKeyExchange m
      known : unknown (rule_of s.named) (v.lookup exchange.identity) ≡ false

    exchange-accepted : (m : List ℕ) (flight : Flight) (next : Connection) → exchange_step m ≡ Shared.accept flight next → Accepts m
    exchange-accepted m flight next e = of-table v.refusal refl
      where
        of-known : v.refusal ≡ None → (exchange : LegalKeyExchange m) → (b : Bool) → unknown (rule_of s.named) (v.lookup exchange.identity) ≡ b
            → Accepts m
        of-known good exchange true not_known =
            absurd (never_both e UnknownPskIdentity (exchange-legal s v legal good exchange ∙ rw not_known))
        of-known good exchange false known = record { good = good; exchange = exchange; known = known }

        of-read : v.refusal ≡ None → (o : Option (List ℕ)) → read_vector 16 m ≡ o → Accepts m
        of-read good None read = absurd (never_both e (unread 16 m) (exchange-read s v legal m good ∙ rw read))
        of-read good (Some identity) read =
            let exchange : LegalKeyExchange m = record { identity = identity; read = read } in
            of-known good exchange (unknown (rule_of s.named) (v.lookup identity)) refl

        of-header : (r : Refusal) → v.refusal ≡ Some r → (h : Result Unit Refusal) → header 16 m ≡ h → Accepts m
        of-header r bad (Ok tt) passed = absurd (never_both e r (rw (passed, bad)))
        of-header r bad (Err q) refuses = absurd (never_both e q (rw refuses))

        of-table : (o : Option Refusal) → v.refusal ≡ o → Accepts m
        of-table None good = of-read good (read_vector 16 m) refl
        of-table (Some r) bad = of-header r bad (header 16 m) refl

    exchange-accepts : {m : List ℕ} (a : Accepts m) → exchange_step m ≡ Shared.accept silence (keyed s legal m (v.lookup a.exchange.identity))
    exchange-accepts a = exchange-legal s v legal a.good a.exchange ∙ rw a.known

exchange-passed : {m : List ℕ} → LegalKeyExchange m → HeaderPassed 16 m
exchange-passed {m} legal = read-passed (λ h. contents m (after_header h (last_at 2 m 4))) (λ r. refl) 16 m legal.identity legal.read

-- ---- how far the bytes go

-- where the change of cipher is awaited fewer than four bytes wait, and more are refused
pub change-judged : (v : View) (p : Progress) → p.connection.phase ≡ Phase.Change
    → judge_all v p ≡ cond (ltb (length p.left) 4) (goes_on p) (refuse UnexpectedMessage)
change-judged v p awaits = all_first v p ∙ rw awaits

pub change-waits : (v : View) (p q : Progress) → p.connection.phase ≡ Phase.Change → judge_all v p ≡ goes_on q → q ≡ p
change-waits v p q awaits e = go (ltb (length p.left) 4) (sym (change-judged v p awaits) ∙ e)
  where
    go : (b : Bool) → cond b (goes_on p) (refuse UnexpectedMessage) ≡ goes_on q → q ≡ p
    go true f = cc
    go false f = absurd (refused-on f)

abbrev pub from : Settings → List ℕ → Progress
from s bytes = record { connection = started s; flight = silence; master = None; left = bytes }

module _ (s : Settings) {hello : List ℕ} (legal : LegalHello s.suites hello) where
  abbrev pub hello_read : (left : List ℕ) → Progress
  hello_read left = record { connection = helloed s legal; flight = answer_to s legal; master = None; left = left }

  abbrev pub keys_made : (exchange : List ℕ) (found : Option (List ℕ)) (left : List ℕ) → Progress
  keys_made exchange found left =
      record {
        connection = keyed s legal exchange found;
        flight = answer_to s legal;
        master =
            Some (record {
              master = (keyed s legal exchange found).secrets.master;
              blocks = blocks_under (helloed s legal) (key_used (helloed s legal) found);
            });
        left = left;
      }

-- what the bytes are that are judged to go on with p
pub data Reached (s : Settings) (v : View) (bytes : List ℕ) (p : Progress) : Type 0 where
  awaits-hello : p ≡ from s bytes → Reached s v bytes p
  awaits-exchange : (hello left : List ℕ) (legal : LegalHello s.suites hello) → bytes ≡ hello ++ left → p ≡ hello_read s legal left
      → Reached s v bytes p
  awaits-change : (hello exchange left : List ℕ) (legal : LegalHello s.suites hello) (legal-exchange : LegalKeyExchange exchange)
      → bytes ≡ hello ++ (exchange ++ left) → v.refusal ≡ None → unknown (rule_of s.named) (v.lookup legal-exchange.identity) ≡ false
      → p ≡ keys_made s legal exchange (v.lookup legal-exchange.identity) left → Reached s v bytes p

module _ (s : Settings) (v : View) where
  exchange-taken : {hello : List ℕ} (legal : LegalHello s.suites hello) (exchange : List ℕ) (found : Option (List ℕ)) (bytes left : List ℕ)
      → {n : ℕ} → n ≡ blocks_under (helloed s legal) (key_used (helloed s legal) found)
      → taken (hello_read s legal bytes) left n silence (keyed s legal exchange found) ≡ keys_made s legal exchange found left
  exchange-taken legal exchange found bytes left same = rw (append-nil (answer_to s legal).plain, same)

  -- ---- forwards

  hello-judged : {hello : List ℕ} (legal : LegalHello s.suites hello) (left : List ℕ)
      → judged v (started s) (hello ++ left) ≡ judge_all v (hello_read s legal left)
  unfolding started
  hello-judged {hello} legal left =
      message-first v (from s (hello ++ left)) hello left refl refl
      (read-passed (λ h. client_fields hello (client_header hello h)) (λ r. refl) 1 hello legal.fields legal.read)
      (answer_to s legal) (helloed s legal) (hello-legal s v legal)

  pub exchange-judged : {hello exchange : List ℕ} (legal : LegalHello s.suites hello) (legal-exchange : LegalKeyExchange exchange) (left : List ℕ)
      → v.refusal ≡ None → unknown (rule_of s.named) (v.lookup legal-exchange.identity) ≡ false
      → judged v (started s) (hello ++ (exchange ++ left)) ≡ judge_all v (keys_made s legal exchange (v.lookup legal-exchange.identity) left)
  exchange-judged {exchange = exchange} legal legal-exchange left good known =
      let found = v.lookup legal-exchange.identity in
      let named = rw (exchange-passed legal-exchange).accepted at legal-exchange.read in
      let blocks = ap (identity_blocks v.lookup (helloed s legal)) named in
      hello-judged legal (exchange ++ left)
      ∙ message-first v (hello_read s legal (exchange ++ left)) exchange left refl refl (exchange-passed legal-exchange)
      silence (keyed s legal exchange found) (exchange-accepts s v legal (record { good = good; exchange = legal-exchange; known = known }))
      ∙ ap (judge_all v) (exchange-taken legal exchange found (exchange ++ left) left blocks)

  -- with a table that is refused
  pub exchange-refused : {hello exchange : List ℕ} (legal : LegalHello s.suites hello) (legal-exchange : LegalKeyExchange exchange) (left : List ℕ)
      (r : Refusal) → v.refusal ≡ Some r → judged v (started s) (hello ++ (exchange ++ left)) ≡ refuse r
  exchange-refused {exchange = exchange} legal legal-exchange left r bad =
      let passed = exchange-passed legal-exchange in
      hello-judged legal (exchange ++ left)
      ∙ message-refused v (hello_read s legal (exchange ++ left)) exchange left refl refl passed r (rw (passed.accepted, bad))

  -- ---- backwards

  reached-exchange : {hello : List ℕ} (legal : LegalHello s.suites hello) (bytes left : List ℕ) (p : Progress) → bytes ≡ hello ++ left
      → judge_all v (hello_read s legal left) ≡ goes_on p → Reached s v bytes p
  reached-exchange {hello} legal bytes left p split e = go (first v (hello_read s legal left))
    where
      go : First v (hello_read s legal left) → Reached s v bytes p
      go (is-refused r f) = absurd (refused-on (sym f ∙ e))
      go (is-left f) = awaits-exchange hello left legal split (cc)
      go (is-taken m rest flight next is step f) =
          let a = exchange-accepted s v legal m flight next step in
          let found = v.lookup a.exchange.identity in
          let behind : judge_all v (keys_made s legal m found rest) ≡ goes_on p =
          sym (exchange-judged legal a.exchange rest a.good a.known) ∙ ap (λ (l : List ℕ). judged v (started s) (hello ++ l)) (sym is)
          ∙ hello-judged legal left ∙ e in
          awaits-change hello m rest legal a.exchange (split ∙ ap (λ (l : List ℕ). hello ++ l) is) a.good a.known
          (change-waits v (keys_made s legal m found rest) p refl behind)

  pub reached : (bytes : List ℕ) (p : Progress) → judged v (started s) bytes ≡ goes_on p → Reached s v bytes p
  unfolding started
  reached bytes p e = go (first v (from s bytes))
    where
      go : First v (from s bytes) → Reached s v bytes p
      go (is-refused r f) = absurd (refused-on (sym f ∙ e))
      go (is-left f) = awaits-hello (cc)
      go (is-taken m rest flight next is step f) =
          let legal = hello-accepted s v m flight next step in
          reached-exchange legal bytes rest p is (sym (hello-judged legal rest) ∙ ap (judged v (started s)) (sym is) ∙ e)
