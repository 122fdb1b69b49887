-- Calls that count as not come: such a call leaves what the host keeps as it was, so that a series comes to what the calls of it that came come to.
-- Assumes nothing.
use mathlib.Core.Path.{◌≡◌, refl, sym, ap, subst, ◌∙◌}
use Prim.Native.Nat.{ℕ}
use mathlib.Core.Bool.{Bool, true, false, cond, not, ◌&&◌, false≢true}
use mathlib.Core.List.{List, [], ◌∷◌, ◌++◌}
use lib.ListN.{length}
use lib.Dec.{leb, eqb}
use Rattle.std.specs.Prelude.{Ok, Err}
use Rattle.refusal.specs.declared.Refusal.{Refusal}
use Rattle.refusal.specs.declared.Refusal.TheVariants.{ShortOutput}
use Rattle.refusal.specs.Lent.{Outcome, gives, refuses, within, answer}
use Rattle.refusal.specs.Table.{number_of, to_peer}
use Rattle.server.specs.KeyExchange.{View}
use Rattle.record_server.specs.declared.RecordConnection.{RecordConnection}
use Rattle.record_server.specs.Connection.{after_refusal}
use Rattle.record_server.specs.Sending as Sending
use Rattle.record_server.specs.Sending.{data_record, after_sending}
use Rattle.record_server.specs.Taking.{Step, refuse, accept, Settled, refused, front, settled, take_step}
use Rattle.record_server.proofs.Settling.{alerts-close}
use Rattle.record_theorems.specs.Series.{Call, takes, sends, Kept, call, run, refused_to_host, came}

-- none of the calls is refused to the host
abbrev pub Come : View → Kept → List Call → Type 0
Come v k [] = Unit
Come v k (x ∷ xs) = (refused_to_host (call v k x).said ≡ false) × Come v (call v k x).kept xs

-- ---- one call

-- a refusal to the host is no alert
host-refused : (r : Refusal) → refused_to_host (Err r) ≡ true → to_peer r ≡ false
host-refused r h = go (to_peer r) (not (eqb (number_of r) 4)) h
  where
    go : (b e : Bool) → (not b && e) ≡ true → b ≡ false
    go true e h = absurd (false≢true h)
    go false e h = refl

host-stays : (r : Refusal) (c : RecordConnection) → refused_to_host (Err r) ≡ true → after_refusal r c ≡ c
host-stays r c h = alerts-close r c ∙ rw (host-refused r h)

taken-stays : (c : RecordConnection) (out memory : List ℕ) (step : Step) → refused_to_host (settled c out memory step).said ≡ true
    → ((settled c out memory step).next ≡ c) × ((settled c out memory step).memory ≡ memory)
taken-stays c out memory (refuse r) h = (host-stays r c h, refl)
taken-stays c out memory (accept a) h = go (leb (length a.answer) (length out) && leb (length a.held) (length memory)) h
  where
    given : Bool → Settled
    given b =
        cond b
        (record {
          said = Ok (length a.answer);
          next = a.next;
          out = front a.answer out;
          memory = front a.held memory;
          master = a.master;
          holds = a.holds;
        })
        (refused c out memory ShortOutput)

    go : (b : Bool) → refused_to_host (given b).said ≡ true → ((given b).next ≡ c) × ((given b).memory ≡ memory)
    go true h = absurd (false≢true h)
    go false h = (refl, refl)

sent-stays : (c next : RecordConnection) (o : Outcome) → refused_to_host (answer o) ≡ true → Sending.next_after c next o ≡ c
sent-stays c next (gives b) h = absurd (false≢true h)
sent-stays c next (refuses r) h = host-stays r c h

pub refused-stays : (v : View) (k : Kept) (x : Call) → refused_to_host (call v k x).said ≡ true → (call v k x).kept ≡ k
refused-stays v k (takes bytes out) refused =
    let kept = taken-stays k.connection out k.memory (take_step v k.connection k.memory bytes) refused in rw (kept.0, kept.1)
refused-stays v k (sends content out) refused =
    rw (sent-stays k.connection (after_sending k.connection) (within (length out) (data_record k.connection content)) refused)

-- ---- a series

pub came-come : (v : View) (k : Kept) (calls : List Call) → Come v k (came v k calls)
came-come v k [] = tt
came-come v k (x ∷ xs) = go (refused_to_host (call v k x).said) refl (came-come v (call v k x).kept xs)
  where
    go : (b : Bool) → refused_to_host (call v k x).said ≡ b → Come v (call v k x).kept (came v (call v k x).kept xs)
        → Come v k (cond b (came v (call v k x).kept xs) (x ∷ came v (call v k x).kept xs))
    go true e rest = subst (λ (l : Kept). Come v l (came v (call v k x).kept xs)) (refused-stays v k x e) rest
    go false e rest = (e, rest)

pub run-came : (v : View) (k : Kept) (calls : List Call) → run v k (came v k calls) ≡ run v k calls
run-came v k [] = refl
run-came v k (x ∷ xs) = go (refused_to_host (call v k x).said) refl (run-came v (call v k x).kept xs)
  where
    go : (b : Bool) → refused_to_host (call v k x).said ≡ b
        → run v (call v k x).kept (came v (call v k x).kept xs) ≡ run v (call v k x).kept xs
        → run v k (cond b (came v (call v k x).kept xs) (x ∷ came v (call v k x).kept xs)) ≡ run v (call v k x).kept xs
    go true e rest = ap (λ (l : Kept). run v l (came v (call v k x).kept xs)) (sym (refused-stays v k x e)) ∙ rest
    go false e rest = rest

pub run-append : (v : View) (k : Kept) (xs ys : List Call) → run v k (xs ++ ys) ≡ run v (run v k xs) ys
run-append v k [] ys = refl
run-append v k (x ∷ xs) ys = run-append v (call v k x).kept xs ys

pub come-append : (v : View) (k : Kept) (xs ys : List Call) → Come v k (xs ++ ys) → Come v k xs × Come v (run v k xs) ys
come-append v k [] ys comes = (tt, comes)
come-append v k (x ∷ xs) ys comes =
    let rest = come-append v (call v k x).kept xs ys comes.1 in ((comes.0, rest.0), rest.1)
