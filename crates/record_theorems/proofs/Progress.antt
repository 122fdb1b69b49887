-- Where a series stands: whatever the calls that came, the connection is at one of the stages, and the records of specs/Terms.antt say what came
-- until there.
-- Assumes nothing.
use mathlib.Core.Path.{◌≡◌, refl, sym, ap, ◌∙◌}
use Prim.Native.Nat.{ℕ}
use mathlib.Core.Bool.{true, false}
use mathlib.Core.List.{List, [], ◌∷◌, ◌++◌, append-nil, append_assoc}
use Rattle.std.specs.Prelude.{Option, None, Some}
use Rattle.refusal.specs.declared.Refusal.TheVariants.{ConnectionOver}
use Rattle.refusal.specs.Lent.{Outcome, gives, refuses}
use Rattle.server.specs.declared.Phase.{Phase}
use Rattle.server.specs.Connection.{Settings, acceptable}
use Rattle.server.specs.KeyExchange.{View}
use Rattle.record_server.specs.Connection.{keys_of}
use Rattle.record_server.specs.Sending as Sending
use Rattle.record_server.specs.Taking.{Step, refuse, settled, take_step}
use Rattle.theorems.proofs.Stages.{keyed}
use Rattle.theorems.proofs.Finishing.{Right}
use Rattle.record_theorems.specs.Series.{Call, takes, sends, Kept, call, run, refused_to_host}
use Rattle.record_theorems.specs.Terms.{Sealed, ChangeCame, named, client_key}
use Rattle.record_theorems.specs.Terms as Terms
use Rattle.record_theorems.specs.Demand3.{CameRight}
use Rattle.record_theorems.proofs.Coming.{Come}
use Rattle.record_theorems.proofs.Standing.{StandsPlain, AfterPlain, Proper, still, changes, closes}
use Rattle.record_theorems.proofs.Onward.{plain-on}
use Rattle.record_theorems.proofs.Sealing.{reads-under, key-given}
use Rattle.record_theorems.proofs.Under as Under
use Rattle.record_theorems.proofs.Under.{mac_key, Under, under-begins, AfterUnder, under-on}

-- ---- over

closed-stays : (v : View) (k : Kept) (x : Call) → k.connection.handshake.phase ≡ Phase.Closed
    → (call v k x).kept.connection.handshake.phase ≡ Phase.Closed
closed-stays v k (takes bytes out) closed =
    let e : take_step v k.connection k.memory bytes ≡ refuse ConnectionOver = rw closed in
    ap (λ (t : Step). (settled k.connection out k.memory t).next.handshake.phase) e ∙ closed
closed-stays v k (sends content out) closed =
    let e : Sending.data_record k.connection content ≡ refuses ConnectionOver = rw closed in
    ap (λ (o : Outcome). (Sending.settled k.connection (Sending.after_sending k.connection) out o).next.handshake.phase) e ∙ closed

-- ---- where a series stands

-- after the calls that came the host keeps k
pub data Stands (s : Settings) (v : View) (calls : List Call) (k : Kept) : Type 0 where
  plain : (bytes : List ℕ) → StandsPlain s v calls bytes k → Stands s v calls k
  protected : v.refusal ≡ None → (first : List Call) (began : ChangeCame s first) (sealed : List Call) → calls ≡ first ++ sealed
      → Under s v began sealed k → Stands s v calls k
  -- at some call; it may be closed since
  complete : CameRight s v calls → Stands s v calls k
  closed : k.connection.handshake.phase ≡ Phase.Closed → Stands s v calls k

pub right-behind : (s : Settings) (v : View) (calls more : List Call) → CameRight s v calls → CameRight s v (calls ++ more)
right-behind s v calls more right =
    record {
      first = right.first;
      began = right.began;
      key = right.key;
      listed = right.listed;
      mac_key = right.mac_key;
      under-key = right.under-key;
      sealed = right.sealed;
      finished = right.finished;
      protected = right.protected;
      legal = right.legal;
      right = right.right;
      rest = right.rest ++ more;
      is = rw (right.is, append_assoc right.first (right.sealed ++ right.rest) more, append_assoc right.sealed right.rest more);
    }

module _ (s : Settings) (v : View) {first : List Call} (began : ChangeCame s first) where
  -- the connection reads with the key that the identity's leads to
  pub reads : (key m : List ℕ) → v.lookup (named s began) ≡ Some key → client_key s began key ≡ gives m → mac_key s v began ≡ m
  reads key m listed under-key =
      ap (λ (found : Option (List ℕ)). (keys_of (keyed s began.legal_hello began.exchange found)).client) listed
      ∙ reads-under s began key m under-key

  came-right : (sealed : List Call) (finished : List ℕ) → Sealed (mac_key s v began) 0 sealed finished
      → Right s began.legal_hello began.exchange (v.lookup (named s began)) finished → CameRight s v (first ++ sealed)
  came-right sealed finished all right =
      let given = key-given s began right.key right.finished.value right.right in
      record {
        first = first;
        began = began;
        key = right.key;
        listed = right.listed;
        mac_key = given.0;
        under-key = given.1;
        sealed = sealed;
        finished = finished;
        protected = rw (reads right.key given.0 right.listed given.1) at all;
        legal = right.finished;
        right = right.right;
        rest = [];
        is = rw append-nil;
      }

module _ (s : Settings) (v : View) (ok : acceptable s ≡ true) (proper : Proper v) where
  stands_on : (calls : List Call) (k : Kept) (x : Call) → Stands s v calls k → refused_to_host (call v k x).said ≡ false
      → Stands s v (calls ++ (x ∷ [])) (call v k x).kept
  stands_on calls k x (plain bytes stands) comes = go (plain-on s v proper k x stands comes)
    where
      go : AfterPlain s v (calls ++ (x ∷ [])) (call v k x).kept → Stands s v (calls ++ (x ∷ [])) (call v k x).kept
      go (still more now) = plain more now
      go (changes began good known is) =
          protected good (calls ++ (x ∷ [])) began [] (sym (append-nil (calls ++ (x ∷ []))))
          (record { bytes = []; protected = Terms.none; at = under-begins s v began (call v k x).kept is; unlisted = λ unknown. refl })
      go (closes e) = closed e
  stands_on calls k x (protected good first began sealed is stands) comes = go (under-on s v ok good began sealed k x stands comes)
    where
      split : calls ++ (x ∷ []) ≡ first ++ (sealed ++ (x ∷ []))
      split = rw is (append_assoc first sealed (x ∷ []))

      go : AfterUnder s v began (sealed ++ (x ∷ [])) (call v k x).kept → Stands s v (calls ++ (x ∷ [])) (call v k x).kept
      go (Under.still now) = protected good first began (sealed ++ (x ∷ [])) split now
      go (Under.finishes finished all right) = complete (rw split (came-right s v began (sealed ++ (x ∷ [])) finished all right))
      go (Under.closes e) = closed e
  stands_on calls k x (complete right) comes = complete (right-behind s v calls (x ∷ []) right)
  stands_on calls k x (closed e) comes = closed (closed-stays v k x e)

  pub run-stands : (calls : List Call) (k : Kept) (xs : List Call) → Stands s v calls k → Come v k xs → Stands s v (calls ++ xs) (run v k xs)
  run-stands calls k [] stands all = rw append-nil stands
  run-stands calls k (x ∷ xs) stands all =
      rw (append_assoc calls (x ∷ []) xs) at
      (run-stands (calls ++ (x ∷ [])) (call v k x).kept xs (stands_on calls k x stands all.0) all.1)
