-- Where a series stands: whatever the calls, the connection is at one of the stages, and the records of specs/Terms.antt say what came until there.
-- Assumes nothing.
use mathlib.Core.Path.{◌≡◌, sym, ap, ◌∙◌}
use mathlib.Core.Logic.{inl, inr}
use mathlib.Core.Bool.{Bool, true, false, cond}
use mathlib.Core.List.{List, [], ◌∷◌, ◌++◌, append-nil, append_assoc}
use Rattle.lists.specs.Lists.{Each}
use Rattle.lists.proofs.Every.{every_append}
use Rattle.handshake.specs.Series.{Call, message, change_of_cipher, IgnoredWarning}
use Rattle.server.specs.declared.Phase.{Phase}
use Rattle.server.specs.declared.Connection.{Connection}
use Rattle.server.specs.Connection.{Settings, rule_of, acceptable, started, ended}
use Rattle.server.specs.KeyExchange.{View}
use Rattle.theorems.specs.Series.{call}
use Rattle.theorems.specs.Terms.{Aside, ShortHello, BadTableCall, HelloCame, KeyExchangeCame, ChangeCame, ShortFinished, AwaitsFinished}
use Rattle.theorems.specs.Demand3.{CameRight}
use Rattle.theorems.proofs.Settling.{Fate}
use Rattle.theorems.proofs.Stages.{helloed, keyed, unknown, HelloComes, hello-fate, hello-stays, hello-comes, ExchangeComes}
use Rattle.theorems.proofs.Stages.{exchange-fate, exchange-stays, exchange-comes, change-fate, change-stays, change-comes}
use Rattle.theorems.proofs.Stages.{closed-stays, complete-stays}
use Rattle.theorems.proofs.Finishing.{awaiting, FinishedComes, finished-fate, finished-stays, finished-comes}

-- what the connection is when it awaits the change of cipher of a series
abbrev pub exchanged : (s : Settings) (v : View) {calls : List Call} → KeyExchangeCame s v calls → Connection
exchanged s v came = keyed s came.came.legal came.exchange (v.lookup came.legal.identity)

-- after the calls the connection is c
pub data Stands (s : Settings) (v : View) (calls : List Call) (c : Connection) : Type 0 where
  awaits-hello : Each (Aside (ShortHello s)) calls → c ≡ started s → Stands s v calls c
  awaits-exchange : (first : List Call) (came : HelloCame s first) (between : List Call) → calls ≡ first ++ between
      → Each (Aside (BadTableCall v)) between → c ≡ helloed s came.legal → Stands s v calls c
  awaits-change : (first : List Call) (came : KeyExchangeCame s v first) (between : List Call) → calls ≡ first ++ between
      → Each IgnoredWarning between → c ≡ exchanged s v came → Stands s v calls c
  awaits-finished : (awaits : AwaitsFinished s v calls) → c ≡ awaiting s v awaits.came → Stands s v calls c
  complete : CameRight s v calls → c ≡ ended Phase.Complete → Stands s v calls c
  closed : c ≡ ended Phase.Closed → Stands s v calls c

-- one call more, behind what came first and what stood between
pub one-call-more : {calls : List Call} (first between : List Call) (x : Call) → calls ≡ first ++ between
    → calls ++ (x ∷ []) ≡ first ++ (between ++ (x ∷ []))
one-call-more first between x is = rw is (append_assoc first between (x ∷ []))

-- the awaited ClientKeyExchange or change of cipher is the last of the calls
abbrev pub exchange-now : (s : Settings) (v : View) {calls : List Call} (first : List Call) (came : HelloCame s first) (between : List Call)
    → calls ≡ first ++ between → Each (Aside (BadTableCall v)) between → {x : Call} → ExchangeComes v x → KeyExchangeCame s v (calls ++ (x ∷ []))
exchange-now s v first came between is aside {x} comes = record {
  first = first;
  came = came;
  between = between;
  exchange = comes.exchange;
  out = comes.out;
  is = one-call-more first between x is ∙ ap (λ (y : Call). first ++ (between ++ (y ∷ []))) comes.is;
  aside = aside;
  good = comes.good;
  legal = comes.legal;
}

abbrev pub change-now : (s : Settings) (v : View) {calls : List Call} (first : List Call) (came : KeyExchangeCame s v first) (between : List Call)
    → calls ≡ first ++ between → Each IgnoredWarning between → {x : Call} → x ≡ change_of_cipher → ChangeCame s v (calls ++ (x ∷ []))
change-now s v first came between is aside {x} comes = record {
  first = first;
  came = came;
  between = between;
  is = one-call-more first between x is ∙ ap (λ (y : Call). first ++ (between ++ (y ∷ []))) comes;
  aside = aside;
}

module _ (s : Settings) (v : View) (ok : acceptable s ≡ true) (calls : List Call) (x : Call) where
  abbrev then : List Call
  then = calls ++ (x ∷ [])

  -- the awaited call was the last one, and nothing stands behind it
  last : then ≡ then ++ []
  last = sym (append-nil then)

  after-hello : Each (Aside (ShortHello s)) calls → Fate v (started s) (Aside (ShortHello s)) (HelloComes s) x
      → Stands s v then (call v (started s) x).next
  after-hello aside (inl stays) = awaits-hello (every_append (Aside (ShortHello s)) calls (x ∷ []) aside (stays, tt)) (hello-stays s v x stays)
  after-hello aside (inr (inl comes)) =
      let came : HelloCame s then = record {
        before = calls;
        hello = comes.hello;
        out = comes.out;
        is = ap (λ (y : Call). calls ++ (y ∷ [])) comes.is;
        aside = aside;
        legal = comes.legal;
        room = comes.room;
      } in
      awaits-exchange then came [] last tt (hello-comes s v x comes)
  after-hello aside (inr (inr closes)) = closed closes

  after-exchange : (first : List Call) (came : HelloCame s first) (between : List Call) → calls ≡ first ++ between
      → Each (Aside (BadTableCall v)) between → Fate v (helloed s came.legal) (Aside (BadTableCall v)) (ExchangeComes v) x
      → Stands s v then (call v (helloed s came.legal) x).next
  after-exchange first came between is aside (inl stays) =
      awaits-exchange first came (between ++ (x ∷ [])) (one-call-more first between x is)
      (every_append (Aside (BadTableCall v)) between (x ∷ []) aside (stays, tt))
      (exchange-stays s v came.legal x stays)
  after-exchange first came between is aside (inr (inl comes)) =
      go (unknown (rule_of s.named) (v.lookup comes.legal.identity)) (exchange-comes s v came.legal x comes)
    where
      now : KeyExchangeCame s v then
      now = exchange-now s v first came between is aside comes

      go : (b : Bool) → (call v (helloed s came.legal) x).next ≡ cond b (ended Phase.Closed) (exchanged s v now)
          → Stands s v then (call v (helloed s came.legal) x).next
      go true e = closed e
      go false e = awaits-change then now [] last tt e
  after-exchange first came between is aside (inr (inr closes)) = closed closes

  after-change : (first : List Call) (came : KeyExchangeCame s v first) (between : List Call) → calls ≡ first ++ between
      → Each IgnoredWarning between → Fate v (exchanged s v came) IgnoredWarning (λ y. y ≡ change_of_cipher) x
      → Stands s v then (call v (exchanged s v came) x).next
  after-change first came between is aside (inl stays) =
      awaits-change first came (between ++ (x ∷ [])) (one-call-more first between x is)
      (every_append IgnoredWarning between (x ∷ []) aside (stays, tt))
      (change-stays s v came.came.legal came.exchange (v.lookup came.legal.identity) x stays)
  after-change first came between is aside (inr (inl comes)) =
      let now : ChangeCame s v then = change-now s v first came between is aside comes in
      awaits-finished (record { first = then; came = now; between = []; is = last; aside = tt })
      (rw comes (change-comes s v came.came.legal came.exchange (v.lookup came.legal.identity)))
  after-change first came between is aside (inr (inr closes)) = closed closes

  after-finished : (awaits : AwaitsFinished s v calls)
      → Fate v (awaiting s v awaits.came) (Aside (ShortFinished s v awaits.came)) (FinishedComes s v awaits.came) x
      → Stands s v then (call v (awaiting s v awaits.came) x).next
  after-finished awaits (inl stays) =
      let still : AwaitsFinished s v then = record {
        first = awaits.first;
        came = awaits.came;
        between = awaits.between ++ (x ∷ []);
        is = one-call-more awaits.first awaits.between x awaits.is;
        aside = every_append (Aside (ShortFinished s v awaits.came)) awaits.between (x ∷ []) awaits.aside (stays, tt);
      } in
      awaits-finished still (finished-stays s v ok awaits.came x stays)
  after-finished awaits (inr (inl comes)) =
      let came : CameRight s v then = record {
        before = calls;
        awaits = awaits;
        finished = comes.finished;
        out = comes.out;
        rest = [];
        is = ap (λ (y : Call). calls ++ (y ∷ [])) comes.is;
        right = comes.right;
        room = comes.room;
      } in
      complete came (finished-comes s v ok awaits.came x comes)
  after-finished awaits (inr (inr closes)) = closed closes

  after-complete : CameRight s v calls → CameRight s v then
  after-complete came = record {
    before = came.before;
    awaits = came.awaits;
    finished = came.finished;
    out = came.out;
    rest = came.rest ++ (x ∷ []);
    is = one-call-more came.before (message came.finished came.out ∷ came.rest) x came.is;
    right = came.right;
    room = came.room;
  }

  pub stands_on : {c : Connection} → Stands s v calls c → Stands s v then (call v c x).next
  stands_on (awaits-hello aside is) = rw is (after-hello aside (hello-fate s v x))
  stands_on (awaits-exchange first came between split aside is) =
      rw is (after-exchange first came between split aside (exchange-fate s v came.legal x))
  stands_on (awaits-change first came between split aside is) =
      rw is (after-change first came between split aside (change-fate s v came.came.legal came.exchange (v.lookup came.legal.identity) x))
  stands_on (awaits-finished awaits is) = rw is (after-finished awaits (finished-fate s v ok awaits.came x))
  stands_on (complete came is) = complete (after-complete came) (rw is (complete-stays v x))
  stands_on (closed is) = closed (rw is (closed-stays v x))
