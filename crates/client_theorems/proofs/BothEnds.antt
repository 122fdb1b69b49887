-- Both ends complete: each arrow of the full handshake, on the side that takes it. The two transcripts are of the same messages, so that the secrets are the same.
-- Assumes nothing.
use mathlib.Core.Path.{◌≡◌, refl, sym, ap, ap₂, ◌∙◌}
use Prim.Native.Nat.{ℕ, ◌≤◌}
use native.Mathlib.Omega.{arith}
use mathlib.Core.Bool.{true, false, and-eq-true_iff}
use mathlib.Core.List.{List, [], ◌∷◌, ◌++◌, append-nil, append_assoc}
use lib.ListN.{length, drop, replicate, length-append, length-replicate}
use lib.Dec.{eqb, leb}
use borrow.Author.Tests.{le-leb, eqb-true, leb-true}
use Rattle.std.specs.Prelude.{Ok, None, Some}
use Rattle.refusal.specs.Lent.{gives, bytes_of}
use Rattle.lists.proofs.Equal.{same_refl}
use Rattle.sha256.specs.declared.Sha256.{Sha256}
use Rattle.sha256.specs.State.{fresh, absorb}
use Rattle.sha256.proofs.Absorb.{absorb-append}
use Rattle.sha256.proofs.Finish.{finished-within}
use Rattle.keys.specs.declared.Side.TheVariants.{Client, Server}
use Rattle.keys.specs.Secrets.{master_under, finished_of}
use Rattle.keys.proofs.Lengths.{key-block-given}
use Rattle.utf8.specs.Utf8.{valid_utf8}
use Rattle.keytable.specs.Starts.{is_list}
use Rattle.keytable.specs.Table.{well_formed, key_of}
use Rattle.layout.specs.Layout.{bytes}
use Rattle.hellos.specs.ServerHello as Hellos
use Rattle.hellos.specs.ServerHello.{server_hello}
use Rattle.hellos.proofs.ClientHellos.{client-inverse}
use Rattle.hellos.proofs.ServerHellos.{server-inverse}
use Rattle.messages.specs.KeyExchange.{server_key_exchange}
use Rattle.messages.specs.Fixed as Fixed
use Rattle.messages.specs.Fixed.{server_hello_done}
use Rattle.messages.proofs.KeyExchanges.{vector-valid, vector-inverse}
use Rattle.messages.proofs.FixedMessages.{fixed-valid, fixed-inverse}
use Rattle.handshake.specs.Flight.{Flight, joined, flight_bytes, silence}
use Rattle.handshake.specs.Protocol.{suites}
use Rattle.handshake.specs.Series.{Call, message, change_of_cipher}
use Rattle.handshake.specs.Step.{Step, accept, settled}
use Rattle.handshake.proofs.Flights.{joined-append}
use Rattle.client.specs.declared.Phase as ClientPhase
use Rattle.client.specs.declared.Connection as Client
use Rattle.client.specs.Connection as ClientStart
use Rattle.client.specs.Connection.{hello, hello_fields}
use Rattle.client.specs.Change.{after_change}
use Rattle.client.specs.Exchange.{after_hint}
use Rattle.client.proofs.Hellos.{hello-valid}
use Rattle.client.proofs.Starts.{allowed}
use Rattle.server.specs.declared.Rule.{Rule}
use Rattle.server.specs.declared.Phase as ServerPhase
use Rattle.server.specs.declared.Connection as Server
use Rattle.server.specs.Connection as ServerStart
use Rattle.server.specs.Hello as ServerHello
use Rattle.server.specs.Hello.{hint_message, flight}
use Rattle.server.specs.KeyExchange.{View, view_of}
use Rattle.server.specs.Finished.{finished_flight}
use Rattle.server.specs.Message as ServerMessage
use Rattle.server.proofs.Hellos as ServerHellos
use Rattle.theorems.specs.Series as ServerSeries
use Rattle.theorems.specs.Terms.{LegalHello, LegalKeyExchange, LegalFinished}
use Rattle.theorems.proofs.Stages as ServerStages
use Rattle.theorems.proofs.Finishing as ServerFinishing
use Rattle.client_theorems.specs.Series as ClientSeries
use Rattle.client_theorems.specs.Terms.{LegalServerHello, LegalServerKeyExchange, LegalServerHelloDone, exchange_of, answer_length, messages_before}
use Rattle.client_theorems.specs.Terms.{ServerHelloCame, HintOrNone, no_hint, hinted, hello_in, messages_in}
use Rattle.client_theorems.specs.Terms.{ServerHelloDoneCame, ChangeCame}
use Rattle.client_theorems.specs.Exchange.{Takes, TakesAll, Starts, FullHandshake, BothEndsComplete}
use Rattle.client_theorems.proofs.Ready.{Secrets, before-length, right_is}
use Rattle.client_theorems.proofs.Stages as Stages
use Rattle.client_theorems.proofs.Finishing as Finishing

-- a step that is accepted, whole
accepted-whole : {C : Type 0} (over c : C) (out : List ℕ) (step : Step C) (f : Flight) (next : C) (answer : List ℕ) → step ≡ accept f next
    → flight_bytes f ≡ answer → length answer ≤ length out
    → settled over c out step ≡ record { said = Ok (length answer); out = answer ++ drop (length answer) out; next = next }
accepted-whole over c out step f next answer e b room = rw (e, b, le-leb (length answer) (length out) room)

module _ (client : ClientStart.Settings) (server : ServerStart.Settings) (okClient : ClientStart.acceptable client ≡ true)
    (okServer : ServerStart.acceptable server ≡ true) (ours : server.suites ≡ suites) where
  -- ---- the hellos

  sends-hello : Starts client (hello client.random) (ClientStart.started client)
  sends-hello out room = rw (okClient, le-leb (length (hello client.random)) (length out) room)

  random-whole : length server.random ≡ 32
  random-whole =
      let one = (and-eq-true_iff _ (eqb (length server.stand_in) 32)).0 okServer in
      let two = (and-eq-true_iff _ (valid_utf8 server.hint)).0 one.0 in
      eqb-true _ _ ((and-eq-true_iff (eqb (length server.random) 32) (leb (length server.hint) 128)).0 two.0).0

  hint-few : length server.hint ≤ 128
  hint-few =
      let one = (and-eq-true_iff _ (eqb (length server.stand_in) 32)).0 okServer in
      let two = (and-eq-true_iff _ (valid_utf8 server.hint)).0 one.0 in
      leb-true _ _ ((and-eq-true_iff (eqb (length server.random) 32) (leb (length server.hint) 128)).0 two.0).1

  -- the ClientHello is legal, and the first of the suites is chosen
  abbrev legal-hello : LegalHello server.suites (hello client.random)
  legal-hello = record {
    fields = hello_fields client.random;
    read = client-inverse.reads-written (hello_fields client.random) (hello-valid client.random (allowed client okClient).random);
    version = omega arith;
    null = refl;
    suite = 0x00AE;
    common = rw ours;
  }

  abbrev fields : Hellos.ServerHello
  fields = ServerHellos.hello server.random 0x00AE

  abbrev first_message : List ℕ
  first_message = bytes server_hello fields

  abbrev legal-answer : LegalServerHello first_message
  legal-answer = record {
    fields = fields;
    read = server-inverse.reads-written fields (ServerHellos.hello-valid server.random 0x00AE random-whole (omega arith));
    suite = refl;
    version = refl;
    compression = refl;
    extensions = refl;
  }

  abbrev done : List ℕ
  done = bytes server_hello_done []

  abbrev legal-done : LegalServerHelloDone done
  legal-done = record { body = []; read = (fixed-inverse 14 0).reads-written [] refl }

  -- the server's answer, message by message
  answer-bytes : flight_bytes (flight server.random server.hint 0x00AE) ≡ first_message ++ (joined (hint_message server.hint) ++ done)
  answer-bytes =
      append-nil _ ∙ ap (λ (l : List ℕ). first_message ++ l) (joined-append (hint_message server.hint) (done ∷ []) ∙ ap (λ (l : List ℕ). joined (hint_message server.hint) ++ l) (append-nil done))

  answers-hello : (v : View) → Takes (ServerSeries.call v) (ServerStart.started server) (hello client.random)
      (first_message ++ (joined (hint_message server.hint) ++ done)) (ServerStages.helloed server legal-hello)
  unfolding ServerStart.started
  answers-hello v out room =
      accepted-whole (ServerStart.ended ServerPhase.Phase.Closed) (ServerStart.started server) out _ _ _ _ (ServerStages.hello-legal server v legal-hello) answer-bytes room

  -- ---- the client reads the answer

  abbrev came-hello : ServerHelloCame (message first_message [] ∷ [])
  came-hello = record { before = []; hello = first_message; out = []; is = refl; aside = tt; legal = legal-answer }

  takes-hello : Takes ClientSeries.call (ClientStart.started client) first_message [] (Stages.helloed client legal-answer)
  unfolding ClientStart.started
  takes-hello out room =
      accepted-whole (ClientStart.ended ClientPhase.Phase.Closed) (ClientStart.started client) out _ silence _ [] (Stages.hello-legal client legal-answer) refl room

  takes-hint : {m : List ℕ} (legal : LegalServerKeyExchange m)
      → Takes ClientSeries.call (Stages.helloed client legal-answer) m [] (after_hint (Stages.helloed client legal-answer) m)
  takes-hint {m} legal out room =
      accepted-whole (ClientStart.ended ClientPhase.Phase.Closed) (Stages.helloed client legal-answer) out _ silence _ []
      (Stages.hint-legal (Stages.helloed client legal-answer) legal) refl room

  -- the calls so far, by whether there is a hint
  record Hinted : Type 0 where
    pub calls : List Call
    pub came : HintOrNone client calls
    pub takes : TakesAll ClientSeries.call (Stages.helloed client legal-answer) (hint_message server.hint) (Stages.awaiting_done came)
    pub random-is : (hello_in came).1.fields.random ≡ server.random
    pub messages-are : messages_in came ++ done ≡ first_message ++ (joined (hint_message server.hint) ++ done)

  hints-read : Hinted
  hints-read = go server.hint refl
    where
      go : (hint : List ℕ) → server.hint ≡ hint → Hinted
      go [] e = record {
        calls = message first_message [] ∷ [];
        came = no_hint came-hello;
        takes = rw e refl;
        random-is = refl;
        messages-are = rw e refl;
      }
      go (b ∷ hint) e =
          let second : List ℕ = bytes server_key_exchange (b ∷ hint) in
          let size : length (b ∷ hint) ≤ 128 = rw e at hint-few in
          let legal : LegalServerKeyExchange second =
          record { hint = b ∷ hint; read = (vector-inverse 12).reads-written (b ∷ hint) (vector-valid 12 (b ∷ hint) (omega arith)) } in
          record {
            calls = message first_message [] ∷ message second [] ∷ [];
            came = hinted (record {
              first = message first_message [] ∷ [];
              came = came-hello;
              between = [];
              exchange = second;
              out = [];
              is = refl;
              aside = tt;
              legal = legal;
            });
            takes = rw e (after_hint (Stages.helloed client legal-answer) second, takes-hint legal, refl);
            random-is = refl;
            messages-are = rw e (append_assoc first_message second done ∙ ap (λ (l : List ℕ). first_message ++ (l ++ done)) (sym (append-nil second)));
          }

  -- ---- the client's answer

  module _ (read : Hinted) where
    abbrev came : HintOrNone client read.calls
    came = read.came

    -- the secrets that both ends make
    abbrev shared : Secrets client (hello_in came).1.fields.random (messages_in came ++ done)
    shared = Stages.made client okClient came legal-done

    abbrev exchange : List ℕ
    exchange = exchange_of client

    abbrev clients : List ℕ
    clients = bytes Fixed.finished shared.own

    abbrev servers : List ℕ
    servers = bytes Fixed.finished shared.servers

    abbrev answered : Client.Connection
    answered = Stages.answered client okClient came legal-done

    answers-done : Takes ClientSeries.call (Stages.awaiting_done came) done (exchange ++ clients) answered
    answers-done out room =
        accepted-whole (ClientStart.ended ClientPhase.Phase.Closed) (Stages.awaiting_done came) out _ _ _ _ (Stages.done-legal client okClient came legal-done)
        (ap₂ ◌++◌ (append-nil exchange) (append-nil clients)) room

    abbrev came-done : ServerHelloDoneCame client (read.calls ++ (message done (replicate (answer_length client) 0) ∷ []))
    came-done = record {
      first = read.calls;
      came = came;
      between = [];
      done = done;
      out = replicate (answer_length client) 0;
      is = refl;
      aside = tt;
      legal = legal-done;
      room = omega (arith, length-replicate {A = ℕ} (answer_length client) 0);
    }

    abbrev came-change : ChangeCame client ((read.calls ++ (message done (replicate (answer_length client) 0) ∷ [])) ++ (change_of_cipher ∷ []))
    came-change = record { first = _; came = came-done; between = []; is = refl; aside = tt }

    -- the client judges the server's Finished
    takes-finished : Takes ClientSeries.call (after_change answered) servers [] (ClientStart.ended ClientPhase.Phase.Complete)
    takes-finished out room =
        let legal : LegalFinished servers = record {
          value = shared.servers;
          read = (fixed-inverse 20 12).reads-written shared.servers (fixed-valid 20 12 shared.servers shared.servers-twelve (omega arith));
        } in
        let fits = Stages.few came legal-done in
        let right = right_is client okClient (hello_in came).1.fields.random (Stages.random-size came) (messages_in came ++ done) fits shared in
        accepted-whole (ClientStart.ended ClientPhase.Phase.Closed) (after_change answered) out _ silence _ []
        (Finishing.judged client okClient came-change servers legal ∙ rw (right, same_refl shared.servers)) refl room

    -- ---- the server reads it

    abbrev legal-exchange : LegalKeyExchange exchange
    legal-exchange = record {
      identity = client.identity;
      read = (vector-inverse 16).reads-written client.identity (vector-valid 16 client.identity (omega (arith, (allowed client okClient).identity)));
    }

    known : (rule : Rule) → ServerStages.unknown rule (Some client.key) ≡ false
    known Rule.Tell = refl
    known Rule.Hide = refl

    abbrev keyed : Server.Connection
    keyed = ServerStages.keyed server legal-hello exchange (Some client.key)

    module _ (v : View) (good : v.refusal ≡ None) (listed : v.lookup client.identity ≡ Some client.key) where
      exchange-step : ServerMessage.message_step v (ServerStages.helloed server legal-hello) exchange ServerPhase.Phase.KeyExchange ≡ accept silence keyed
      exchange-step = ServerStages.exchange-legal server v legal-hello good legal-exchange ∙ rw (listed, known (ServerStart.rule_of server.named))

      takes-exchange : Takes (ServerSeries.call v) (ServerStages.helloed server legal-hello) exchange [] keyed
      takes-exchange out room =
          accepted-whole (ServerStart.ended ServerPhase.Phase.Closed) (ServerStages.helloed server legal-hello) out _ silence _ [] exchange-step refl room

      server-master : bytes_of (master_under client.key client.random server.random) ≡ shared.master
      server-master = ap bytes_of (ap (master_under client.key client.random) (sym read.random-is) ∙ shared.master-is)

      -- the server's transcript is of the same messages
      transcript-is : keyed.transcript ≡ absorb fresh (messages_before client (messages_in came ++ done))
      unfolding ServerStart.started
      transcript-is =
          let first = hello client.random in
          let answer = messages_in came ++ done in
          let sent : flight_bytes (ServerHello.flight_for (ServerStart.started server) 0x00AE) ≡ answer =
          ap flight_bytes (ServerStages.flight-is server 0x00AE) ∙ answer-bytes ∙ sym read.messages-are in
          ap (λ (l : List ℕ). absorb (absorb (absorb fresh first) l) exchange) sent
          ∙ sym (absorb-append fresh first (answer ++ exchange) ∙ absorb-append (absorb fresh first) answer exchange)

      -- both values, as the server makes them
      abbrev changed : Server.Connection
      changed = ServerStages.changed server legal-hello exchange (Some client.key)

      few : length (messages_before client (messages_in came ++ done)) ≤ 131072
      few = before-length client okClient (hello_in came).1.fields.random (Stages.random-size came) (messages_in came ++ done) (Stages.few came legal-done)

      clients-value : finished_of Client changed.secrets.master changed.transcript ≡ gives shared.own
      unfolding ServerStart.started
      clients-value =
          ap (λ (k : List ℕ). finished_of Client k changed.transcript) server-master
          ∙ rw (finished-within changed.transcript (messages_before client (messages_in came ++ done)) transcript-is (omega (arith, few))) shared.own_is

      servers-value : finished_of Server changed.secrets.master (absorb changed.transcript clients) ≡ gives shared.servers
      unfolding ServerStart.started
      servers-value =
          let before = messages_before client (messages_in came ++ done) in
          let all : absorb changed.transcript clients ≡ absorb fresh (before ++ clients) =
          ap (λ (t : Sha256). absorb t clients) transcript-is ∙ sym (absorb-append fresh before clients) in
          let fits : length (before ++ clients) ≤ 262144 = rw (length-append before clients) (omega (arith, few, shared.twelve)) in
          ap (λ (k : List ℕ). finished_of Server k (absorb changed.transcript clients)) server-master
          ∙ rw (finished-within (absorb changed.transcript clients) (before ++ clients) all (omega (arith, fits))) shared.servers-is

      finished-step : ServerMessage.message_step v changed clients ServerPhase.Phase.Finished
          ≡ accept (finished_flight shared.servers) (ServerStart.ended ServerPhase.Phase.Complete)
      unfolding ServerStart.started
      finished-step =
          let read-value = (fixed-inverse 20 12).reads-written shared.own (fixed-valid 20 12 shared.own shared.twelve (omega arith)) in
          ServerFinishing.finished-read server v legal-hello exchange (Some client.key) clients
          ∙ rw read-value (rw (clients-value, same_refl shared.own, servers-value))

      answers-finished : Takes (ServerSeries.call v) changed clients servers (ServerStart.ended ServerPhase.Phase.Complete)
      answers-finished out room =
          accepted-whole (ServerStart.ended ServerPhase.Phase.Closed) changed out _ (finished_flight shared.servers) _ servers finished-step
          (append-nil servers) room

  -- ---- all of it

  module _ (table starts : List ℕ) (count : ℕ) (formed : well_formed table ≡ true) (own : is_list table starts count ≡ true)
      (listed : key_of table client.identity ≡ Some client.key) where
    abbrev v : View
    v = view_of table starts count

    not-refused : v.refusal ≡ None
    not-refused = rw (formed, own)

    pub handshake-done : FullHandshake client server v
    unfolding ServerStart.started
    handshake-done =
        let w = shared hints-read in
        let block = key-block-given w.master server.random client.random 0x00AE w.long random-whole (allowed client okClient).random
        (omega arith) (omega arith) in
        record {
          client_hello = hello client.random;
          c₀ = ClientStart.started client;
          sends_hello = sends-hello;
          server_hello = first_message;
          hints = hint_message server.hint;
          server_hello_done = done;
          s₁ = ServerStages.helloed server legal-hello;
          answers_hello = answers-hello v;
          c₁ = Stages.helloed client legal-answer;
          takes_hello = takes-hello;
          c₂ = Stages.awaiting_done hints-read.came;
          takes_hints = hints-read.takes;
          client_key_exchange = exchange_of client;
          client_finished = clients hints-read;
          c₃ = answered hints-read;
          answers_done = answers-done hints-read;
          s₂ = keyed hints-read;
          takes_exchange = takes-exchange hints-read v not-refused listed;
          s₃ = changed hints-read v not-refused listed;
          takes_change = refl;
          server_finished = servers hints-read;
          s₄ = ServerStart.ended ServerPhase.Phase.Complete;
          answers_finished = answers-finished hints-read v not-refused listed;
          c₄ = after_change (answered hints-read);
          hears_change = refl;
          c₅ = ClientStart.ended ClientPhase.Phase.Complete;
          takes_finished = takes-finished hints-read;
          client_complete = refl;
          server_complete = refl;
          master = w.master;
          client_master = λ n. refl;
          server_master = ap (ServerMessage.handed_over ServerPhase.Phase.KeyExchange) (exchange-step hints-read v not-refused listed)
              ∙ ap Some (server-master hints-read v not-refused listed);
          client_suite = refl;
          server_suite = refl;
          key_block = block.0;
          client_key_block = block.2;
          server_key_block = block.2;
        }

pub both-ends-complete : BothEndsComplete
both-ends-complete client server okClient okServer ours table starts count formed own listed =
    handshake-done client server okClient okServer ours table starts count formed own listed
