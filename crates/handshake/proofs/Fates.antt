-- What a call is at a stage of a connection, on either side: one that leaves the connection as it was, the awaited one, or one that closes the connection.
-- Assumes nothing.
use mathlib.Core.Path.{◌≡◌, ◌∙◌}
use mathlib.Core.Logic.{◌⊎◌, inl, inr}
use Prim.Native.Nat.{ℕ}
use Rattle.handshake.specs.Series.{Call, message, change_of_cipher, alert, IgnoredWarning}
use Rattle.handshake.specs.Step.{Settled}
use Rattle.handshake.proofs.Settling.{after_alert, ignored-stays, ignored-or-closes}

module _ {C : Type 0} (call : C → Call → Settled C) (over c : C) where
  abbrev pub Fate : (Stays Comes : Call → Type 0) → Call → Type 0
  Fate Stays Comes x = Stays x ⊎ (Comes x ⊎ ((call c x).next ≡ over))

  -- a received alert, by the rule that both sides share
  module _ (hears : (level description : ℕ) → (call c (alert level description)).next ≡ after_alert over c level description) where
    pub warning-stays : (x : Call) → IgnoredWarning x → (call c x).next ≡ c
    warning-stays (message m out) h = absurd h
    warning-stays change_of_cipher h = absurd h
    warning-stays (alert level description) h = hears level description ∙ ignored-stays over c level description h

    pub alert-fate : (Stays Comes : Call → Type 0) → ((x : Call) → IgnoredWarning x → Stays x)
        → (level description : ℕ) → Fate Stays Comes (alert level description)
    alert-fate Stays Comes aside level description = go (ignored-or-closes over c level description)
      where
        go : IgnoredWarning (alert level description) ⊎ (after_alert over c level description ≡ over) → Fate Stays Comes (alert level description)
        go (inl ignored) = inl (aside (alert level description) ignored)
        go (inr closes) = inr (inr (hears level description ∙ closes))
