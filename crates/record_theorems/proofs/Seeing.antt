-- What is seen of one call on two record connections that are alike in what they are lent, write with and have left to send: the same, where their
-- steps come to the same.
-- Assumes nothing.
use mathlib.Core.Path.{◌≡◌, refl, sym, ap, ap₂, ◌∙◌}
use Prim.Native.Nat.{ℕ}
use mathlib.Core.Bool.{Bool, true, false, cond, ◌&&◌}
use mathlib.Core.List.{List}
use lib.ListN.{length, take}
use lib.Dec.{leb, eqb}
use Rattle.std.specs.Prelude.{Err}
use Rattle.refusal.specs.declared.Refusal.{Refusal}
use Rattle.refusal.specs.declared.Refusal.TheVariants.{BadValue, SequenceSpent}
use Rattle.refusal.specs.Table.{to_peer, number_of}
use Rattle.server.specs.KeyExchange.{View}
use Rattle.records.specs.declared.State.{State}
use Rattle.records.specs.Protection.{last_sequence}
use Rattle.record_server.specs.declared.ClosingAlert.{ClosingAlert}
use Rattle.record_server.specs.Connection.{is_closed, is_complete, closed_with, closing_alert, alert_of, after_refusal}
use Rattle.record_server.specs.Taking.{Accepted, refuse, accept}
use Rattle.record_server.proofs.Settling.{alerts-close}
use Rattle.record_theorems.specs.Series.{sends, Kept, Seen, call, seen, refused_to_host}
use Rattle.record_theorems.proofs.Taking.{took}

pub record Near (k k' : Kept) : Type 0 where
  pub memory : k.memory ≡ k'.memory
  pub writing : k.connection.writing ≡ k'.connection.writing
  pub alert : k.connection.alert ≡ k'.connection.alert

pub near-self : (k : Kept) → Near k k
near-self k = record { memory = refl; writing = refl; alert = refl }

module _ {k k' : Kept} (near : Near k k') (out : List ℕ) where
  alert-alike : (r : Refusal) → alert_of (after_refusal r k.connection) ≡ alert_of (after_refusal r k'.connection)
  alert-alike r = rw (alerts-close r k.connection, alerts-close r k'.connection) (go (to_peer r))
    where
      go : (b : Bool) → alert_of (cond b (closed_with (closing_alert k.connection.writing (number_of r))) k.connection)
          ≡ alert_of (cond b (closed_with (closing_alert k'.connection.writing (number_of r))) k'.connection)
      go true = ap (λ (w : State). alert_of (closed_with (closing_alert w (number_of r)))) near.writing
      go false = rw near.alert

  pub refused-seen : (r : Refusal) → seen (took k out (refuse r)) ≡ seen (took k' out (refuse r))
  refused-seen r = ap (λ (l : List ℕ). record { said = Err r; out = out; alert = l }) (alert-alike r)

  -- an alert closes both alike
  pub refused-closed : (r : Refusal) → to_peer r ≡ true → (took k out (refuse r)).kept ≡ (took k' out (refuse r)).kept
  refused-closed r told = rw (alerts-close r k.connection, alerts-close r k'.connection, told, near.writing, near.memory)

  pub accepted-seen : (a a' : Accepted) → a.answer ≡ a'.answer → a.held ≡ a'.held → a.next.alert ≡ a'.next.alert
      → seen (took k out (accept a)) ≡ seen (took k' out (accept a'))
  accepted-seen a a' answer held alert =
      go (leb (length a.answer) (length out) && leb (length a.held) (length k.memory)) refl (rw (← answer, ← held, ← near.memory))
    where
      go : (room : Bool) → (leb (length a.answer) (length out) && leb (length a.held) (length k.memory)) ≡ room
          → (leb (length a'.answer) (length out) && leb (length a'.held) (length k'.memory)) ≡ room
          → seen (took k out (accept a)) ≡ seen (took k' out (accept a'))
      go true e e' = rw (e, e', answer, alert)
      go false e e' = rw (e, e', near.alert)

-- ---- data that cannot be sent yet

-- R9 or R5
abbrev unsent : State → Refusal
unsent writing = cond (eqb writing.sequence last_sequence) SequenceSpent BadValue

unsent-to-host : (writing : State) → refused_to_host (Err (unsent writing)) ≡ true
unsent-to-host writing = go (eqb writing.sequence last_sequence)
  where
    go : (b : Bool) → refused_to_host (Err (cond b SequenceSpent BadValue)) ≡ true
    go true = refl
    go false = refl

module _ (v : View) (k : Kept) (going : is_closed k.connection.handshake.phase ≡ false)
    (early : is_complete k.connection.handshake.phase ≡ false) (content out : List ℕ) where
  sends-nothing : seen (call v k (sends content out))
      ≡ record { said = Err (unsent k.connection.writing); out = out; alert = alert_of k.connection }
  sends-nothing = go (eqb k.connection.writing.sequence last_sequence) refl
    where
      go : (b : Bool) → eqb k.connection.writing.sequence last_sequence ≡ b
          → seen (call v k (sends content out))
          ≡ record { said = Err (unsent k.connection.writing); out = out; alert = alert_of k.connection }
      go true e = rw (going, e)
      go false e = rw (going, early, e)

pub unsent-seen : (v v' : View) {k k' : Kept} → Near k k' → is_closed k.connection.handshake.phase ≡ false
    → is_complete k.connection.handshake.phase ≡ false → is_closed k'.connection.handshake.phase ≡ false
    → is_complete k'.connection.handshake.phase ≡ false → (content out : List ℕ)
    → (seen (call v k (sends content out)) ≡ seen (call v' k' (sends content out))) × (refused_to_host (call v k (sends content out)).said ≡ true)
unsent-seen v v' {k} {k'} near going early going' early' content out =
    let is = sends-nothing v k going early content out in (
      is
          ∙ ap₂ (λ (w : State) (a : ClosingAlert). record { said = Err (unsent w); out = out; alert = take a.length a.bytes })
          near.writing near.alert
          ∙ sym (sends-nothing v' k' going' early' content out),
      ap (λ (seen-it : Seen). refused_to_host seen-it.said) is ∙ unsent-to-host k.connection.writing,
    )
