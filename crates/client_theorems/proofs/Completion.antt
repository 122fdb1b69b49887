-- A client completes exactly where the right messages came in order. One way, a series that ends complete stands at `complete` (Progress.antt); the other way, each
-- call of the record leaves the connection at its stage or takes it to the next.
-- Assumes nothing.
use mathlib.Core.Path.{◌≡◌, refl, ap, ◌∙◌}
use mathlib.Core.Logic.{◌↔◌}
use Prim.Native.Nat.{ℕ}
use native.Mathlib.Omega.{arith}
use mathlib.Core.Bool.{Bool, true, false}
use mathlib.Core.List.{List, [], ◌∷◌, ◌++◌, append-nil, append_assoc}
use lib.ListN.{length}
use lib.Dec.{leb}
use Rattle.std.specs.Prelude.{Ok, Err}
use Rattle.refusal.specs.declared.Refusal.{Refusal}
use Rattle.handshake.specs.Series.{Call, message, change_of_cipher, IgnoredWarning}
use Rattle.handshake.proofs.Series.{run-append, run-stays, run-comes}
use Rattle.client.specs.declared.Phase.{Phase}
use Rattle.client.specs.declared.Connection.{Connection}
use Rattle.client.specs.Connection.{Settings, acceptable, hello, started, ended, start_call}
use Rattle.theorems.specs.Terms.{Aside}
use Rattle.client_theorems.specs.Series.{call, run}
use Rattle.client_theorems.specs.Terms.{ShortDone, ServerHelloCame, ServerKeyExchangeCame, HintOrNone, no_hint, hinted, ServerHelloDoneCame, ChangeCame}
use Rattle.client_theorems.specs.Completion.{CameRight, ClientCompletesExactly}
use Rattle.client_theorems.proofs.Stages.{helloed, hello-stays, hello-comes, awaiting_done, done-stays, done-comes, hint-comes}
use Rattle.client_theorems.proofs.Finishing.{exchanged, change-stays, change-comes, awaiting, finished-stays, finished-comes, complete-stays}
use Rattle.client_theorems.proofs.Progress.{Stands, awaits-hello, awaits-done, awaits-change, awaits-finished, complete, closed, stands_on}

abbrev IsComplete : Phase → Type 0
IsComplete Phase.Hello = ⊥
IsComplete Phase.KeyExchange = ⊥
IsComplete Phase.Done = ⊥
IsComplete Phase.Change = ⊥
IsComplete Phase.Finished = ⊥
IsComplete Phase.Complete = Unit
IsComplete Phase.Closed = ⊥

module _ (s : Settings) (ok : acceptable s ≡ true) where
  abbrev from_start : List Call → Connection
  from_start = run (started s)

  -- ---- a series that came right ends complete

  hello-came : {calls : List Call} (came : ServerHelloCame calls) → from_start calls ≡ helloed s came.legal
  hello-came came =
      let x : Call = message came.hello came.out in
      ap from_start came.is
      ∙ run-comes call (started s) IgnoredWarning (hello-stays s) came.before came.aside x
      ∙ hello-comes s x (record { hello = came.hello; out = came.out; is = refl; legal = came.legal })

  hint-came : {calls : List Call} (came : ServerKeyExchangeCame s calls) → from_start calls ≡ awaiting_done (hinted came)
  hint-came came =
      let x : Call = message came.exchange came.out in
      let before : HintOrNone s came.first = no_hint came.came in
      ap from_start came.is
      ∙ run-append call (started s) came.first (came.between ++ (x ∷ []))
      ∙ rw (hello-came came.came)
      (run-comes call (awaiting_done before) (Aside (ShortDone s)) (done-stays s ok before) came.between came.aside x
      ∙ hint-comes s ok came.came x (record { exchange = came.exchange; out = came.out; is = refl; legal = came.legal }))

  either-came : {calls : List Call} (came : HintOrNone s calls) → from_start calls ≡ awaiting_done came
  either-came (no_hint came) = hello-came came
  either-came (hinted came) = hint-came came

  done-came : {calls : List Call} (came : ServerHelloDoneCame s calls) → from_start calls ≡ exchanged s ok came
  done-came came =
      let x : Call = message came.done came.out in
      ap from_start came.is
      ∙ run-append call (started s) came.first (came.between ++ (x ∷ []))
      ∙ rw (either-came came.came)
      (run-comes call (awaiting_done came.came) (Aside (ShortDone s)) (done-stays s ok came.came) came.between came.aside x
      ∙ done-comes s ok came.came x (record { done = came.done; out = came.out; is = refl; legal = came.legal; room = came.room }))

  change-came : {calls : List Call} (came : ChangeCame s calls) → from_start calls ≡ awaiting s ok came
  change-came came =
      ap from_start came.is
      ∙ run-append call (started s) came.first (came.between ++ (change_of_cipher ∷ []))
      ∙ rw (done-came came.came)
      (run-comes call (exchanged s ok came.came) IgnoredWarning (change-stays s ok came.came) came.between came.aside change_of_cipher
      ∙ change-comes s ok came.came)

  complete-kept : (xs : List Call) → run (ended Phase.Complete) xs ≡ ended Phase.Complete
  complete-kept [] = refl
  complete-kept (x ∷ xs) = rw (complete-stays x) (complete-kept xs)

  came-right-completes : {calls : List Call} → CameRight s calls → from_start calls ≡ ended Phase.Complete
  came-right-completes right =
      let x : Call = message right.finished right.out in
      let came = right.came in
      let comes = finished-comes s ok came x (record { finished = right.finished; out = right.out; is = refl; right = right.right }) in
      ap from_start right.is
      ∙ run-append call (started s) right.first (right.between ++ (x ∷ right.rest))
      ∙ rw (change-came came)
      (run-append call (awaiting s ok came) right.between (x ∷ right.rest)
      ∙ rw (run-stays call (awaiting s ok came) IgnoredWarning (finished-stays s ok came) right.between right.aside, comes) (complete-kept right.rest))

  -- ---- a series that ends complete came right

  run-stands : {c : Connection} (calls xs : List Call) → Stands s ok calls c → Stands s ok (calls ++ xs) (run c xs)
  run-stands calls [] stands = rw append-nil stands
  run-stands {c = c} calls (x ∷ xs) stands =
      rw (append_assoc calls (x ∷ []) xs) at (run-stands {c = (call c x).next} (calls ++ (x ∷ [])) xs (stands_on s ok calls x stands))

  complete-came-right : {calls : List Call} {c : Connection} → Stands s ok calls c → IsComplete c.phase → CameRight s calls
  unfolding started
  complete-came-right (complete came is) e = came
  complete-came-right (awaits-hello aside is) e = absurd (rw is at e)
  complete-came-right (awaits-done first (no_hint came) between split aside is) e = absurd (rw is at e)
  complete-came-right (awaits-done first (hinted came) between split aside is) e = absurd (rw is at e)
  complete-came-right (awaits-change first came between split aside is) e = absurd (rw is at e)
  complete-came-right (awaits-finished first came between split aside is) e = absurd (rw is at e)
  complete-came-right (closed is) e = absurd (rw is at e)

  exactly : (calls : List Call) → ((from_start calls).phase ≡ Phase.Complete) ↔ CameRight s calls
  exactly calls = (
    λ e. complete-came-right (run-stands [] calls (awaits-hello tt refl)) (rw e tt),
    λ came. rw (came-right-completes came),
  )

-- an accepted start: its settings are acceptable, and it gives the connection that awaits the ServerHello
refused-wrote : {n : ℕ} {r : Refusal} → Err r ≡ Ok n → ⊥
refused-wrote e = let z : ◌≡◌ {A = ℕ} 0 1 = cc in omega arith

pub completes-exactly : ClientCompletesExactly
completes-exactly s out n said calls = go (acceptable s) refl (leb (length (hello s.random)) (length out)) refl said
  where
    go : (a : Bool) → acceptable s ≡ a → (b : Bool) → leb (length (hello s.random)) (length out) ≡ b → (start_call s out).said ≡ Ok n
        → ((run (start_call s out).next calls).phase ≡ Phase.Complete) ↔ CameRight s calls
    go true ok true room e = rw (ok, room) (exactly s ok calls)
    go true ok false short e = absurd (refused-wrote (rw (ok, short) at e))
    go false bad b room e = absurd (refused-wrote (rw bad at e))
