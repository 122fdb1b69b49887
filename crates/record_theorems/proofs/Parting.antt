-- Where the judgement of handshake bytes under two tables parts: at a ClientKeyExchange that is accepted, and then only in what the keys are made of.
-- Assumes nothing.
use mathlib.Core.Path.{◌≡◌, refl, sym, ap, ◌∙◌}
use Prim.Native.Nat.{ℕ}
use mathlib.Core.Bool.{Bool, true, false, cond}
use mathlib.Core.List.{List}
use lib.ListN.{length}
use lib.Dec.{ltb}
use Rattle.std.specs.Prelude.{Option, None, Some}
use Rattle.refusal.specs.declared.Refusal.TheVariants.{UnexpectedMessage}
use Rattle.messages.specs.KeyExchange.{read_vector}
use Rattle.handshake.specs.Flight.{Flight, silence}
use Rattle.handshake.specs.declared.Derived.{Derived}
use Rattle.handshake.specs.Step as Shared
use Rattle.server.specs.declared.Rule.{Rule}
use Rattle.server.specs.declared.Phase.{Phase}
use Rattle.server.specs.Connection.{Settings, rule_of, started}
use Rattle.server.specs.KeyExchange.{View}
use Rattle.server.specs.Step as Server
use Rattle.server.specs.Message.{message_step}
use Rattle.record_server.specs.Joining.{Progress, Judged, refuse, goes_on, joined_flight, judged}
use Rattle.theorems.specs.Terms.{LegalHello, LegalKeyExchange, answer_to}
use Rattle.handshake.proofs.Settling.{unread}
use Rattle.theorems.proofs.Stages.{helloed, keyed, hello-legal, exchange-read, exchange-legal}
use Rattle.record_theorems.specs.Cutting.{judge_all}
use Rattle.record_theorems.proofs.Cutting.{taken, blocks_for, all_first}
use Rattle.record_theorems.proofs.Reaching.{Reached, awaits-hello, awaits-exchange, awaits-change, hello-accepted, change-judged}
use Rattle.record_theorems.proofs.Standing.{alone}
use Rattle.record_theorems.proofs.Beyond.{behind, turn-pair}

-- they are judged alike; or both go on to the change of cipher, with the same to send and the same left
pub data Pair (j j' : Judged) : Type 0 where
  equal : j ≡ j' → Pair j j'
  parted : (q q' : Progress) → j ≡ goes_on q → j' ≡ goes_on q' → q.connection.phase ≡ Phase.Change
      → q'.connection.phase ≡ Phase.Change → q.flight ≡ q'.flight → q.left ≡ q'.left → Pair j j'

pair-by : {j j' i i' : Judged} → j ≡ i → j' ≡ i' → Pair i i' → Pair j j'
pair-by e e' pair = rw (e, e') pair

module _ (s : Settings) (hide : rule_of s.named ≡ Rule.Hide) (v v' : View) (good : v.refusal ≡ None) (good' : v'.refusal ≡ None) where
  change-pair : (p p' : Progress) → p.connection.phase ≡ Phase.Change → p'.connection.phase ≡ Phase.Change → p.flight ≡ p'.flight
      → p.left ≡ p'.left
      → Pair (judge_all v p) (judge_all v' p')
  change-pair p p' awaits awaits' flight left =
      pair-by (change-judged v p awaits)
      (change-judged v' p' awaits' ∙ ap (λ (l : List ℕ). cond (ltb (length l) 4) (goes_on p') (refuse UnexpectedMessage)) (sym left))
      (go (ltb (length p.left) 4))
    where
      go : (few : Bool) → Pair (cond few (goes_on p) (refuse UnexpectedMessage)) (cond few (goes_on p') (refuse UnexpectedMessage))
      go true = parted p p' refl refl awaits awaits' flight left
      go false = equal refl

  exchange-pair : {hello : List ℕ} (legal : LegalHello s.suites hello) (flight : Flight) (master : Option Derived) (left : List ℕ) →
      let p : Progress = record { connection = helloed s legal; flight = flight; master = master; left = left } in
      Pair (judge_all v p) (judge_all v' p)
  exchange-pair legal flight master left =
      pair-by (all_first v p) (all_first v' p)
      (turn-pair v v' (judge_all v) (judge_all v') Pair p (λ r. equal refl) (equal refl) (λ m rest is. of-read m rest (read_vector 16 m) refl))
    where
      p : Progress
      p = record { connection = helloed s legal; flight = flight; master = master; left = left }

      of_steps : (rest : List ℕ) (n n' : ℕ) {step step' : Server.Step} (one other : Server.Step) → step ≡ one → step' ≡ other
          → Pair (behind (judge_all v) p rest n one) (behind (judge_all v') p rest n' other)
          → Pair (behind (judge_all v) p rest n step) (behind (judge_all v') p rest n' step')
      of_steps rest n n' one other e e' pair = rw (e, e') pair

      of-read : (m rest : List ℕ) (o : Option (List ℕ)) → read_vector 16 m ≡ o
          → Pair (behind (judge_all v) p rest (blocks_for v p m) (message_step v (helloed s legal) m Phase.KeyExchange))
          (behind (judge_all v') p rest (blocks_for v' p m) (message_step v' (helloed s legal) m Phase.KeyExchange))
      of-read m rest None read =
          of_steps rest _ _ (Shared.refuse (unread 16 m)) (Shared.refuse (unread 16 m))
          (exchange-read s v legal m good ∙ rw read) (exchange-read s v' legal m good' ∙ rw read) (equal refl)
      of-read m rest (Some identity) read =
          let exchange : LegalKeyExchange m = record { identity = identity; read = read } in
          of_steps rest (blocks_for v p m) (blocks_for v' p m) (Shared.accept silence (keyed s legal m (v.lookup identity))) (Shared.accept silence (keyed s legal m (v'.lookup identity)))
          (exchange-legal s v legal good exchange ∙ rw hide) (exchange-legal s v' legal good' exchange ∙ rw hide)
          (change-pair (taken p rest (blocks_for v p m) silence (keyed s legal m (v.lookup identity)))
          (taken p rest (blocks_for v' p m) silence (keyed s legal m (v'.lookup identity)))
          refl refl refl refl)

  hello-pair : (left : List ℕ) → Pair (judged v (started s) left) (judged v' (started s) left)
  unfolding started
  hello-pair left =
      pair-by (all_first v p) (all_first v' p)
      (turn-pair v v' (judge_all v) (judge_all v') Pair p (λ r. equal refl) (equal refl)
      (λ m rest is. of-step m rest (message_step v (started s) m Phase.Hello) refl))
    where
      p : Progress
      p = alone (started s) left

      of-step : (m rest : List ℕ) (step : Server.Step) → message_step v (started s) m Phase.Hello ≡ step
          → Pair (behind (judge_all v) p rest 0 (message_step v (started s) m Phase.Hello))
          (behind (judge_all v') p rest 0 (message_step v (started s) m Phase.Hello))
      of-step m rest (Shared.refuse r) e = rw e (equal refl)
      of-step m rest (Shared.accept flight next) e =
          let legal = hello-accepted s v m flight next e in
          rw (hello-legal s v legal) (exchange-pair legal (joined_flight silence (answer_to s legal)) None rest)

  -- at a stage before the change of cipher
  pub reached-pair : {bytes : List ℕ} {p : Progress} → Reached s v bytes p → (left : List ℕ)
      → Pair (judged v p.connection left) (judged v' p.connection left)
  reached-pair (awaits-hello is) left = rw is (hello-pair left)
  reached-pair (awaits-exchange hello rest legal split is) left = rw is (exchange-pair legal silence None left)
  reached-pair (awaits-change hello exchange rest legal legal-exchange split good known is) left =
      let p = alone (keyed s legal exchange (v.lookup legal-exchange.identity)) left in
      rw is (change-pair p p refl refl refl refl)
