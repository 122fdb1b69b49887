-- Where a series stands: whatever the calls, the connection is at one of the stages, and the records of specs/Terms.antt say what came until there.
-- Assumes nothing.
use mathlib.Core.Path.{◌≡◌, sym, ap, ◌∙◌}
use mathlib.Core.Logic.{◌⊎◌, inl, inr}
use mathlib.Core.Bool.{true}
use mathlib.Core.List.{List, [], ◌∷◌, ◌++◌, append-nil, append_assoc}
use Rattle.lists.specs.Lists.{Each}
use Rattle.lists.proofs.Every.{every_append}
use Rattle.handshake.specs.Series.{Call, message, change_of_cipher, IgnoredWarning}
use Rattle.client.specs.declared.Phase.{Phase}
use Rattle.client.specs.declared.Connection.{Connection}
use Rattle.client.specs.Connection.{Settings, acceptable, started, ended}
use Rattle.theorems.specs.Terms.{Aside}
use Rattle.theorems.proofs.Progress.{one-call-more}
use Rattle.client_theorems.specs.Series.{call}
use Rattle.client_theorems.specs.Terms.{ShortDone, ServerHelloCame, ServerKeyExchangeCame, HintOrNone, no_hint, hinted, ServerHelloDoneCame, ChangeCame}
use Rattle.client_theorems.specs.Completion.{CameRight}
use Rattle.client_theorems.proofs.Stages.{Fate, HelloComes, hello-fate, hello-stays, hello-comes, awaiting_done, HintComes, DoneComes, done-stays}
use Rattle.client_theorems.proofs.Stages.{done-comes, hint-comes, either-fate, behind-fate}
use Rattle.client_theorems.proofs.Finishing.{exchanged, change-fate, change-stays, change-comes, awaiting, FinishedComes, finished-fate}
use Rattle.client_theorems.proofs.Finishing.{finished-stays, finished-comes, closed-stays, complete-stays}

module _ (s : Settings) (ok : acceptable s ≡ true) where
  -- after the calls the connection is c
  pub data Stands (calls : List Call) (c : Connection) : Type 0 where
    awaits-hello : Each IgnoredWarning calls → c ≡ started s → Stands calls c
    awaits-done : (first : List Call) (came : HintOrNone s first) (between : List Call) → calls ≡ first ++ between
        → Each (Aside (ShortDone s)) between → c ≡ awaiting_done came → Stands calls c
    awaits-change : (first : List Call) (came : ServerHelloDoneCame s first) (between : List Call) → calls ≡ first ++ between
        → Each IgnoredWarning between → c ≡ exchanged s ok came → Stands calls c
    awaits-finished : (first : List Call) (came : ChangeCame s first) (between : List Call) → calls ≡ first ++ between
        → Each IgnoredWarning between → c ≡ awaiting s ok came → Stands calls c
    complete : CameRight s calls → c ≡ ended Phase.Complete → Stands calls c
    closed : c ≡ ended Phase.Closed → Stands calls c

  module _ (calls : List Call) (x : Call) where
    abbrev then : List Call
    then = calls ++ (x ∷ [])

    -- the awaited call was the last one, and nothing stands behind it
    last : then ≡ then ++ []
    last = sym (append-nil then)

    after-hello : Each IgnoredWarning calls → Fate (started s) IgnoredWarning HelloComes x → Stands then (call (started s) x).next
    after-hello aside (inl stays) = awaits-hello (every_append IgnoredWarning calls (x ∷ []) aside (stays, tt)) (hello-stays s x stays)
    after-hello aside (inr (inl comes)) =
        let came : ServerHelloCame then = record {
          before = calls;
          hello = comes.hello;
          out = comes.out;
          is = ap (λ (y : Call). calls ++ (y ∷ [])) comes.is;
          aside = aside;
          legal = comes.legal;
        } in
        awaits-done then (no_hint came) [] last tt (hello-comes s x comes)
    after-hello aside (inr (inr closes)) = closed closes

    module _ (first between : List Call) (is : calls ≡ first ++ between) where
      -- the awaited call, behind what came first and what stood between
      one_more : {y : Call} → x ≡ y → then ≡ first ++ (between ++ (y ∷ []))
      one_more e = one-call-more first between x is ∙ ap (λ (z : Call). first ++ (between ++ (z ∷ []))) e

      module _ (came : HintOrNone s first) (aside : Each (Aside (ShortDone s)) between) where
        still : Aside (ShortDone s) x → Stands then (call (awaiting_done came) x).next
        still stays =
            awaits-done first came (between ++ (x ∷ [])) (one-call-more first between x is)
            (every_append (Aside (ShortDone s)) between (x ∷ []) aside (stays, tt)) (done-stays s ok came x stays)

        done-now : DoneComes s x → Stands then (call (awaiting_done came) x).next
        done-now comes =
            let now : ServerHelloDoneCame s then = record {
              first = first;
              came = came;
              between = between;
              done = comes.done;
              out = comes.out;
              is = one_more comes.is;
              aside = aside;
              legal = comes.legal;
              room = comes.room;
            } in
            awaits-change then now [] last tt (done-comes s ok came x comes)

      after-either : (came : ServerHelloCame first) → Each (Aside (ShortDone s)) between
          → Fate (awaiting_done {s = s} (no_hint came)) (Aside (ShortDone s)) (λ y. HintComes y ⊎ DoneComes s y) x
          → Stands then (call (awaiting_done {s = s} (no_hint came)) x).next
      after-either came aside (inl stays) = still (no_hint came) aside stays
      after-either came aside (inr (inl (inl comes))) =
          let now : ServerKeyExchangeCame s then = record {
            first = first;
            came = came;
            between = between;
            exchange = comes.exchange;
            out = comes.out;
            is = one_more comes.is;
            aside = aside;
            legal = comes.legal;
          } in
          awaits-done then (hinted now) [] last tt (hint-comes s ok came x comes)
      after-either came aside (inr (inl (inr comes))) = done-now (no_hint came) aside comes
      after-either came aside (inr (inr closes)) = closed closes

      after-hint : (came : ServerKeyExchangeCame s first) → Each (Aside (ShortDone s)) between
          → Fate (awaiting_done (hinted came)) (Aside (ShortDone s)) (DoneComes s) x → Stands then (call (awaiting_done (hinted came)) x).next
      after-hint came aside (inl stays) = still (hinted came) aside stays
      after-hint came aside (inr (inl comes)) = done-now (hinted came) aside comes
      after-hint came aside (inr (inr closes)) = closed closes

      after-done : (came : HintOrNone s first) → Each (Aside (ShortDone s)) between → Stands then (call (awaiting_done came) x).next
      after-done (no_hint came) aside = after-either came aside (either-fate s ok came x)
      after-done (hinted came) aside = after-hint came aside (behind-fate s ok came x)

      after-change : (came : ServerHelloDoneCame s first) → Each IgnoredWarning between
          → Fate (exchanged s ok came) IgnoredWarning (λ y. y ≡ change_of_cipher) x → Stands then (call (exchanged s ok came) x).next
      after-change came aside (inl stays) =
          awaits-change first came (between ++ (x ∷ [])) (one-call-more first between x is)
          (every_append IgnoredWarning between (x ∷ []) aside (stays, tt)) (change-stays s ok came x stays)
      after-change came aside (inr (inl comes)) =
          let now : ChangeCame s then = record { first = first; came = came; between = between; is = one_more comes; aside = aside } in
          awaits-finished then now [] last tt (rw comes (change-comes s ok came))
      after-change came aside (inr (inr closes)) = closed closes

      after-finished : (came : ChangeCame s first) → Each IgnoredWarning between
          → Fate (awaiting s ok came) IgnoredWarning (FinishedComes s came) x → Stands then (call (awaiting s ok came) x).next
      after-finished came aside (inl stays) =
          awaits-finished first came (between ++ (x ∷ [])) (one-call-more first between x is)
          (every_append IgnoredWarning between (x ∷ []) aside (stays, tt)) (finished-stays s ok came x stays)
      after-finished came aside (inr (inl comes)) =
          let all : CameRight s then = record {
            first = first;
            came = came;
            between = between;
            finished = comes.finished;
            out = comes.out;
            rest = [];
            is = one_more comes.is;
            aside = aside;
            right = comes.right;
          } in
          complete all (finished-comes s ok came x comes)
      after-finished came aside (inr (inr closes)) = closed closes

    after-complete : CameRight s calls → CameRight s then
    after-complete came = record {
      first = came.first;
      came = came.came;
      between = came.between;
      finished = came.finished;
      out = came.out;
      rest = came.rest ++ (x ∷ []);
      is = one-call-more came.first (came.between ++ (message came.finished came.out ∷ came.rest)) x came.is
          ∙ ap (λ (l : List Call). came.first ++ l) (append_assoc came.between (message came.finished came.out ∷ came.rest) (x ∷ []));
      aside = came.aside;
      right = came.right;
    }

    pub stands_on : {c : Connection} → Stands calls c → Stands then (call c x).next
    stands_on (awaits-hello aside is) = rw is (after-hello aside (hello-fate s x))
    stands_on (awaits-done first came between split aside is) = rw is (after-done first between split came aside)
    stands_on (awaits-change first came between split aside is) = rw is (after-change first between split came aside (change-fate s ok came x))
    stands_on (awaits-finished first came between split aside is) = rw is (after-finished first between split came aside (finished-fate s ok came x))
    stands_on (complete came is) = complete (after-complete came) (rw is (complete-stays x))
    stands_on (closed is) = closed (rw is (closed-stays x))
