-- What a record that was taken leaves, whatever the connection: by what its step comes to, and by the tests on records.
-- Assumes nothing.
use mathlib.Core.Path.{◌≡◌, refl, ap, subst, ◌∙◌}
use Prim.Native.Nat.{ℕ, ◌+◌}
use native.Mathlib.Omega.{arith}
use mathlib.Core.Bool.{Bool, true, false, cond, not, ◌&&◌, ◌||◌, true≢false}
use mathlib.Core.List.{List, [], ◌∷◌}
use lib.ListN.{length, get_or, take, drop}
use lib.Seq.{take-append_seam}
use lib.Dec.{leb, eqb}
use borrow.Author.Tests.{eqb-true, eqb-false, ne_eqb}
use Rattle.std.specs.Prelude.{Result, Ok, Err, Option, None, Some}
use Rattle.refusal.specs.declared.Refusal.{Refusal}
use Rattle.refusal.specs.declared.Refusal.TheVariants.{UnexpectedMessage, RecordOverflow, DecodeError}
use Rattle.refusal.specs.Table.{to_peer}
use Rattle.handshake.specs.declared.Heard.{Heard}
use Rattle.handshake.specs.Alert.{heard}
use Rattle.server.specs.declared.Phase.{Phase}
use Rattle.server.specs.KeyExchange.{View}
use Rattle.records.specs.declared.ContentType.{ContentType}
use Rattle.records.specs.Record.{whole, fragment_of, type_of, type_read, record_read}
use Rattle.records.specs.Joining.{unfinished, held_in}
use Rattle.record_server.specs.Taking.{Accepted, Step, refuse, accept, front, settled, take_step}
use Rattle.record_server.proofs.Settling.{alerts-close}
use Rattle.record_theorems.specs.Series.{takes, Kept, Done, call, refused_to_host}
use Rattle.record_theorems.specs.Terms.{Warning}

-- what the call gives back for a step: `call` of a record is this, for `take_step`
abbrev pub took : Kept → (out : List ℕ) → Step → Done
took k out step =
    record {
      said = (settled k.connection out k.memory step).said;
      out = (settled k.connection out k.memory step).out;
      kept =
          record {
            connection = (settled k.connection out k.memory step).next;
            memory = (settled k.connection out k.memory step).memory;
          };
    }

module _ (v : View) (k : Kept) (bytes out : List ℕ) where
  abbrev step : Step
  step = take_step v k.connection k.memory bytes

  pub alerted : {r : Refusal} → step ≡ refuse r → to_peer r ≡ true → (call v k (takes bytes out)).kept.connection.handshake.phase ≡ Phase.Closed
  alerted {r} e told =
      ap (λ (t : Step). (settled k.connection out k.memory t).next.handshake.phase) e ∙ rw (alerts-close r k.connection, told)

  pub accepted : {a : Accepted} → step ≡ accept a → refused_to_host (call v k (takes bytes out)).said ≡ false
      → (call v k (takes bytes out)).kept ≡ record { connection = a.next; memory = front a.held k.memory }
  accepted {a} e comes =
      ap (λ (t : Step). (took k out t).kept) e
      ∙ go (leb (length a.answer) (length out) && leb (length a.held) (length k.memory)) refl
      (subst (λ (t : Step). refused_to_host (settled k.connection out k.memory t).said ≡ false) e comes)
    where
      go : (b : Bool) → (leb (length a.answer) (length out) && leb (length a.held) (length k.memory)) ≡ b
          → refused_to_host (settled k.connection out k.memory (accept a)).said ≡ false
          → (took k out (accept a)).kept ≡ record { connection = a.next; memory = front a.held k.memory }
      go true e comes = rw e
      go false e comes = absurd (true≢false (rw e at comes))

-- what is at the front of lent memory is held there
pub held-front : (bytes memory : List ℕ) → unfinished bytes ≡ true → held_in (front bytes memory) (length bytes) ≡ bytes
held-front bytes memory short = rw (take-append_seam bytes (drop (length bytes) memory), short)

-- what is held is less than a message
pub held-short : (memory : List ℕ) (n : ℕ) (bytes : List ℕ) → held_in memory n ≡ bytes → unfinished bytes ≡ true
held-short memory n bytes e = go (unfinished (take n memory)) refl e
  where
    go : (t : Bool) → unfinished (take n memory) ≡ t → cond t (take n memory) [] ≡ bytes → unfinished bytes ≡ true
    go true short f = rw (← f) short
    go false whole f = rw (← f)

-- ---- the tests on a record refuse with alerts

pub read-alerts : (added : ℕ) (b : List ℕ) {r : Refusal} → record_read added b ≡ Err r → to_peer r ≡ true
read-alerts added b {r} e = of-whole (whole b) (type_of (get_or b 0 0)) e
  where
    alike : (p : Refusal) → to_peer p ≡ true → ◌≡◌ {A = Result ContentType Refusal} (Err p) (Err r) → to_peer r ≡ true
    alike p told e = let is : p ≡ r = cc in rw (← is) told

    of_length : (t : Bool) (kind : ContentType) → cond {A = Result ContentType Refusal} t (Ok kind) (Err RecordOverflow) ≡ Err r → to_peer r ≡ true
    of_length true kind e = let z : ◌≡◌ {A = ℕ} 0 1 = cc in absurd (omega arith)
    of_length false kind e = alike RecordOverflow refl e

    of-whole : (t : Bool) (type : Option ContentType) → cond t (type_read added b type) (Err DecodeError) ≡ Err r → to_peer r ≡ true
    of-whole false type e = alike DecodeError refl e
    of-whole true None e = alike UnexpectedMessage refl e
    of-whole true (Some kind) e = of_length (leb (length (fragment_of b)) (16384 + added)) kind e

-- ---- the two bytes of an alert

two_bytes : (content : List ℕ) → length content ≡ 2 → content ≡ get_or content 0 0 ∷ get_or content 1 0 ∷ []
two_bytes [] h = absurd (omega arith)
two_bytes (a ∷ []) h = absurd (omega arith)
two_bytes (a ∷ b ∷ []) h = refl
two_bytes (a ∷ b ∷ d ∷ rest) h = absurd (omega arith)

-- one that is ignored is a warning, and not close_notify
pub ignored-warning : (content : List ℕ) → length content ≡ 2 → heard (get_or content 0 0) (get_or content 1 0) ≡ Heard.Ignored → Warning content
ignored-warning content two e =
    let both = go (eqb (get_or content 0 0) 1) refl (eqb (get_or content 0 0) 2) (eqb (get_or content 1 0) 0) refl e in
    (get_or content 1 0, two_bytes content two ∙ rw (eqb-true (get_or content 0 0) 1 both.0), eqb-false (get_or content 1 0) 0 both.1)
  where
    go : (one : Bool) → eqb (get_or content 0 0) 1 ≡ one → (fatal close : Bool) → eqb (get_or content 1 0) 0 ≡ close
        → cond (not (one || fatal)) Heard.Illegal (cond (fatal || close) Heard.Ends Heard.Ignored) ≡ Heard.Ignored
        → (eqb (get_or content 0 0) 1 ≡ true) × (eqb (get_or content 1 0) 0 ≡ false)
    go true h false false h' f = (h, h')
    go true h true close h' f = absurd (let z : ◌≡◌ {A = ℕ} 0 1 = cc in omega arith)
    go true h false true h' f = absurd (let z : ◌≡◌ {A = ℕ} 0 1 = cc in omega arith)
    go false h true close h' f = absurd (let z : ◌≡◌ {A = ℕ} 0 1 = cc in omega arith)
    go false h false close h' f = absurd (let z : ◌≡◌ {A = ℕ} 0 1 = cc in omega arith)

-- and the other way round
pub warning-ignored : (content : List ℕ) → Warning content → (length content ≡ 2) × (heard (get_or content 0 0) (get_or content 1 0) ≡ Heard.Ignored)
warning-ignored content w = (rw w.1, rw (w.1, ne_eqb w.0 0 w.2))
