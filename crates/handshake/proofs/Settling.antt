-- What a step leaves behind, whatever the connection, on either side: by its answer and the room; by a received alert; by the
-- tests on a header and a reader.
-- Assumes nothing.
use mathlib.Core.Path.{◌≡◌, refl, sym, ◌∙◌}
use mathlib.Core.Logic.{◌⊎◌, inl, inr}
use Prim.Native.Nat.{ℕ, ◌-◌, ◌≤◌, ◌<◌}
use mathlib.Core.Bool.{Bool, true, false, cond}
use mathlib.Core.List.{List, []}
use lib.ListN.{length, get_or, drop}
use lib.Dec.{leb, ltb, eqb}
use borrow.Author.Tests.{leb-true, eqb-true, eqb-false, ne_eqb, le-leb, lt-leb}
use Rattle.std.proofs.lemmas.Option.{none-some}
use Rattle.std.specs.Prelude.{Result, Ok, Err, Option, None, Some}
use Rattle.endian.specs.Vector.{stated}
use Rattle.refusal.specs.Table.{to_peer}
use Rattle.refusal.specs.declared.Refusal.{Refusal}
use Rattle.refusal.specs.declared.Refusal.TheVariants.{UnexpectedMessage, DecodeError}
use Rattle.refusal.specs.Lent.{gives, Answers}
use Rattle.refusal.proofs.Laws.{wrote-all, refused-short}
use Rattle.layout.specs.Types.{message_limit}
use Rattle.layout.specs.Header.{header}
use Rattle.handshake.specs.Alert.{heard, heard_step}
use Rattle.handshake.specs.Flight.{Flight, flight_bytes}
use Rattle.handshake.specs.Series.{alert, IgnoredWarning}
use Rattle.handshake.specs.Step.{Step, refuse, accept, after_tests, settled}
use Rattle.handshake.proofs.Refusals.{alerts-close}

-- ---- what a step leaves behind

module _ {C : Type 0} (over c : C) (out : List ℕ) (step : Step C) where
  pub refused-closes : (r : Refusal) → step ≡ refuse r → to_peer r ≡ true → (settled over c out step).next ≡ over
  refused-closes r e alerts = rw e (alerts-close over r c ∙ rw alerts)

  pub refused-stays : (r : Refusal) → step ≡ refuse r → to_peer r ≡ false → (settled over c out step).next ≡ c
  refused-stays r e host = rw e (alerts-close over r c ∙ rw host)

  pub accepted-next : (answer : Flight) (next : C) → step ≡ accept answer next → length (flight_bytes answer) ≤ length out
      → (settled over c out step).next ≡ next
  accepted-next answer next e room = rw (e, le-leb (length (flight_bytes answer)) (length out) room)

  pub short-stays : (answer : Flight) (next : C) → step ≡ accept answer next → length out < length (flight_bytes answer)
      → (settled over c out step).next ≡ c
  short-stays answer next e short = rw (e, lt-leb (length (flight_bytes answer)) (length out) short)

-- the same, whole: what a call gives back for a flight that was put to the lent output, by what was said
module _ {C : Type 0} (over c : C) (flight : Flight) (next : C) {out left : List ℕ} {said : Result ℕ Refusal}
    (a : Answers (gives (flight_bytes flight)) out said left) where
  pub sent-settles : {n : ℕ} → said ≡ Ok n → settled over c out (accept flight next) ≡ record { said = said; out = left; next = next }
  sent-settles e = rw (a.told, a.left, le-leb (length (flight_bytes flight)) (length out) (wrote-all a e).0)

  pub short-settles : {r : Refusal} → said ≡ Err r → settled over c out (accept flight next) ≡ record { said = said; out = left; next = c }
  short-settles e = rw (a.told, a.left, lt-leb (length (flight_bytes flight)) (length out) (refused-short a e))

-- the step refuses with an alert
abbrev pub Alerts : {C : Type 0} → Step C → Type 0
Alerts step = (r : Refusal) × (step ≡ refuse r) × (to_peer r ≡ true)

-- ---- received alerts, where the connection is not over

module _ {C : Type 0} (over c : C) (level description : ℕ) where
  abbrev pub after_alert : C
  after_alert = (settled over c [] (heard_step over c (heard level description))).next

  pub ignored-stays : IgnoredWarning (alert level description) → after_alert ≡ c
  ignored-stays h = rw (h.0, ne_eqb description 0 h.1)

  -- any other alert closes the connection
  pub ignored-or-closes : IgnoredWarning (alert level description) ⊎ (after_alert ≡ over)
  ignored-or-closes = of-level (eqb level 1) refl
    where
      of-description : level ≡ 1 → (b : Bool) → eqb description 0 ≡ b → IgnoredWarning (alert level description) ⊎ (after_alert ≡ over)
      of-description one true e = inr (rw (one, e))
      of-description one false e = inl (one, eqb-false description 0 e)

      other : eqb level 1 ≡ false → (b : Bool) → eqb level 2 ≡ b → after_alert ≡ over
      other e true two = rw (e, two)
      other e false neither = rw (e, neither)

      of-level : (b : Bool) → eqb level 1 ≡ b → IgnoredWarning (alert level description) ⊎ (after_alert ≡ over)
      of-level true e = of-description (eqb-true level 1 e) (eqb description 0) refl
      of-level false e = inr (other e (eqb level 2) refl)

-- ---- the tests on a header, and the readers

abbrev pub Tested : List ℕ → Result Unit Refusal → Type 0
Tested m (Ok tt) = length m ≤ message_limit
Tested m (Err r) = to_peer r ≡ true

pub header-tested : (kind : ℕ) (m : List ℕ) → Tested m (header kind m)
header-tested kind m = go (ltb (length m) 4) (eqb (get_or m 0 0) kind) (eqb (stated 3 (drop 1 m)) (length m - 4)) (leb (length m) message_limit) refl
  where
    go : (a b d e : Bool) → leb (length m) message_limit ≡ e
        → Tested m (cond a (Err DecodeError)
        (cond b (cond d (cond e (Ok tt) (Err DecodeError)) (Err DecodeError)) (Err UnexpectedMessage)))
    go true b d e fits = refl
    go false false d e fits = refl
    go false true false e fits = refl
    go false true true false fits = refl
    go false true true true fits = leb-true (length m) message_limit fits

-- what a message is refused with that its reader refuses
abbrev refusal_of : Result Unit Refusal → Refusal
refusal_of (Ok tt) = DecodeError
refusal_of (Err r) = r

abbrev pub unread : ℕ → List ℕ → Refusal
unread kind m = refusal_of (header kind m)

pub unread-alerts : (kind : ℕ) (m : List ℕ) → to_peer (unread kind m) ≡ true
unread-alerts kind m = go (header kind m) (header-tested kind m)
  where
    go : (h : Result Unit Refusal) → Tested m h → to_peer (refusal_of h) ≡ true
    go (Ok tt) t = refl
    go (Err r) t = t

module _ {A C : Type 0} where
  abbrev pub or_refuse : Refusal → (A → Step C) → Option A → Step C
  or_refuse r step None = refuse r
  or_refuse r step (Some a) = step a

  -- a reader finds nothing behind a header that was refused
  module _ (read : Result Unit Refusal → Option A) (blind : (r : Refusal) → read (Err r) ≡ None) where
    -- a step that makes the header's tests and then the reader's does what its fields say, or refuses
    pub step-read : (step : Option A → Step C) → step None ≡ refuse DecodeError
        → (h : Result Unit Refusal) → after_tests h (step (read (Ok tt))) ≡ or_refuse (refusal_of h) (λ a. step (Some a)) (read h)
    step-read step refuses (Ok tt) = go (read (Ok tt))
      where
        go : (o : Option A) → step o ≡ or_refuse DecodeError (λ a. step (Some a)) o
        go None = refuses
        go (Some a) = refl
    step-read step refuses (Err r) = rw (blind r)

-- a message that its reader accepts is within the limit
pub read-size : {A : Type 0} (read : Result Unit Refusal → Option A) → ((r : Refusal) → read (Err r) ≡ None)
    → (kind : ℕ) (m : List ℕ) (a : A) → read (header kind m) ≡ Some a → length m ≤ message_limit
read-size {A} read blind kind m a e = go (header kind m) (header-tested kind m) e
  where
    go : (h : Result Unit Refusal) → Tested m h → read h ≡ Some a → length m ≤ message_limit
    go (Ok tt) t e = t
    go (Err r) t e = absurd (none-some a (sym (blind r) ∙ e))
