-- Demand 3, second half: a connection completes exactly where the right messages came in order. One way, a series that ends complete stands at
-- `complete` (Progress.antt); the other way, each call of the record leaves the connection at its stage or takes it to the next.
-- Assumes nothing.
use mathlib.Core.Path.{◌≡◌, refl, ap, ◌∙◌}
use mathlib.Core.Logic.{◌↔◌}
use Prim.Native.Nat.{ℕ}
use mathlib.Core.Bool.{true, false}
use mathlib.Core.List.{List, [], ◌∷◌, ◌++◌, append-nil, append_assoc}
use Rattle.std.specs.Prelude.{Option, Some}
use Rattle.handshake.specs.Series.{Call, message, change_of_cipher, IgnoredWarning}
use Rattle.server.specs.declared.Rule.{Rule}
use Rattle.server.specs.declared.Phase.{Phase}
use Rattle.server.specs.declared.Connection.{Connection}
use Rattle.server.specs.Connection.{Settings, rule_of, acceptable, started, ended}
use Rattle.server.specs.KeyExchange.{View, view_of}
use Rattle.theorems.specs.Series.{call, run}
use Rattle.theorems.specs.Terms.{Aside, ShortHello, BadTableCall, HelloCame, KeyExchangeCame, ChangeCame, named, ShortFinished, AwaitsFinished}
use Rattle.theorems.specs.Demand3.{CameRight, CompletesExactly}
use Rattle.handshake.proofs.Series.{run-append, run-stays, run-comes}
use Rattle.theorems.proofs.Stages.{helloed, unknown, hello-stays, hello-comes, exchange-stays, exchange-comes, change-stays}
use Rattle.theorems.proofs.Stages.{change-comes, complete-stays}
use Rattle.theorems.proofs.Finishing.{awaiting, finished-stays, finished-comes}
use Rattle.theorems.proofs.Progress.{exchanged, Stands, awaits-hello, awaits-exchange, awaits-change, awaits-finished, complete}
use Rattle.theorems.proofs.Progress.{closed, stands_on}

abbrev IsComplete : Phase → Type 0
IsComplete Phase.Hello = ⊥
IsComplete Phase.KeyExchange = ⊥
IsComplete Phase.Change = ⊥
IsComplete Phase.Finished = ⊥
IsComplete Phase.Complete = Unit
IsComplete Phase.Closed = ⊥

listed-known : (rule : Rule) (found : Option (List ℕ)) (key : List ℕ) → found ≡ Some key → unknown rule found ≡ false
listed-known Rule.Tell found key e = rw e
listed-known Rule.Hide found key e = refl

module _ (s : Settings) (v : View) (ok : acceptable s ≡ true) where
  abbrev from_start : List Call → Connection
  from_start = run v (started s)

  -- ---- a series that came right ends complete

  hello-came : {calls : List Call} (came : HelloCame s calls) → from_start calls ≡ helloed s came.legal
  hello-came came =
      let x : Call = message came.hello came.out in
      ap from_start came.is
      ∙ run-comes (call v) (started s) (Aside (ShortHello s)) (hello-stays s v) came.before came.aside x
      ∙ hello-comes s v x (record { hello = came.hello; out = came.out; is = refl; legal = came.legal; room = came.room })

  exchange-came : {calls : List Call} (came : KeyExchangeCame s v calls) → unknown (rule_of s.named) (v.lookup came.legal.identity) ≡ false
      → from_start calls ≡ exchanged s v came
  exchange-came came known =
      let x : Call = message came.exchange came.out in
      let legal = came.came.legal in
      ap from_start came.is
      ∙ run-append (call v) (started s) came.first (came.between ++ (x ∷ []))
      ∙ rw (hello-came came.came)
      (run-comes (call v) (helloed s legal) (Aside (BadTableCall v)) (exchange-stays s v legal) came.between came.aside x
      ∙ exchange-comes s v legal x (record { exchange = came.exchange; out = came.out; is = refl; good = came.good; legal = came.legal })
      ∙ rw known)

  change-came : {calls : List Call} (came : ChangeCame s v calls) → unknown (rule_of s.named) (v.lookup (named s v came)) ≡ false
      → from_start calls ≡ awaiting s v came
  change-came came known =
      let legal = came.came.came.legal in
      let exchange = came.came.exchange in
      let found = v.lookup (named s v came) in
      ap from_start came.is
      ∙ run-append (call v) (started s) came.first (came.between ++ (change_of_cipher ∷ []))
      ∙ rw (exchange-came came.came known)
      (run-comes (call v) (exchanged s v came.came) IgnoredWarning (change-stays s v legal exchange found) came.between came.aside change_of_cipher
      ∙ change-comes s v legal exchange found)

  finished-awaited : {calls : List Call} (awaits : AwaitsFinished s v calls)
      → unknown (rule_of s.named) (v.lookup (named s v awaits.came)) ≡ false
      → from_start calls ≡ awaiting s v awaits.came
  finished-awaited awaits known =
      let came = awaits.came in
      ap from_start awaits.is
      ∙ run-append (call v) (started s) awaits.first awaits.between
      ∙ rw (change-came came known)
      (run-stays (call v) (awaiting s v came) (Aside (ShortFinished s v came)) (finished-stays s v ok came) awaits.between awaits.aside)

  complete-kept : (xs : List Call) → run v (ended Phase.Complete) xs ≡ ended Phase.Complete
  complete-kept [] = refl
  complete-kept (x ∷ xs) = rw (complete-stays v x) (complete-kept xs)

  came-right-completes : {calls : List Call} → CameRight s v calls → from_start calls ≡ ended Phase.Complete
  came-right-completes right =
      let x : Call = message right.finished right.out in
      let came = right.awaits.came in
      let known = listed-known (rule_of s.named) (v.lookup (named s v came)) right.right.key right.right.listed in
      let comes = finished-comes s v ok came x
      (record { finished = right.finished; out = right.out; is = refl; right = right.right; room = right.room }) in
      ap from_start right.is
      ∙ run-append (call v) (started s) right.before (x ∷ right.rest)
      ∙ rw (finished-awaited right.awaits known, comes) (complete-kept right.rest)

  -- ---- a series that ends complete came right

  run-stands : {c : Connection} (calls xs : List Call) → Stands s v calls c → Stands s v (calls ++ xs) (run v c xs)
  run-stands calls [] stands = rw append-nil stands
  run-stands {c = c} calls (x ∷ xs) stands =
      rw (append_assoc calls (x ∷ []) xs) at (run-stands {c = (call v c x).next} (calls ++ (x ∷ [])) xs (stands_on s v ok calls x stands))

  complete-came-right : {calls : List Call} {c : Connection} → Stands s v calls c → IsComplete c.phase → CameRight s v calls
  unfolding started
  complete-came-right (complete came is) e = came
  complete-came-right (awaits-hello aside is) e = absurd (rw is at e)
  complete-came-right (awaits-exchange first came between split aside is) e = absurd (rw is at e)
  complete-came-right (awaits-change first came between split aside is) e = absurd (rw is at e)
  complete-came-right (awaits-finished awaits is) e = absurd (rw is at e)
  complete-came-right (closed is) e = absurd (rw is at e)

  -- both, for a table of which only its view is known
  exactly : (calls : List Call) → ((from_start calls).phase ≡ Phase.Complete) ↔ CameRight s v calls
  exactly calls = (
    λ e. complete-came-right (run-stands [] calls (awaits-hello tt refl)) (rw e tt),
    λ came. rw (came-right-completes came),
  )

pub completes-exactly : CompletesExactly
completes-exactly s ok table starts count calls = rw ok (exactly s (view_of table starts count) ok calls)
