-- What a call is at a stage of a server's connection (crates/handshake/proofs/Fates.antt), with one key table.
-- Assumes nothing.
use mathlib.Core.Path.{◌≡◌}
use Prim.Native.Nat.{ℕ}
use mathlib.Core.Bool.{false}
use Rattle.handshake.specs.Series.{Call, alert, IgnoredWarning}
use Rattle.handshake.proofs.Fates as Shared
use Rattle.server.specs.declared.Phase.{Phase}
use Rattle.server.specs.declared.Connection.{Connection}
use Rattle.server.specs.Connection.{ended, is_over}
use Rattle.server.specs.KeyExchange.{View}
use Rattle.theorems.specs.Series.{call}

-- the call closes the connection
abbrev pub Closes : View → Connection → Call → Type 0
Closes v c x = (call v c x).next ≡ ended Phase.Closed

abbrev pub Fate : View → Connection → (Call → Type 0) → (Call → Type 0) → Call → Type 0
Fate v c = Shared.Fate (call v) (ended Phase.Closed) c

module _ (v : View) (c : Connection) (going : is_over c.phase ≡ false) where
  pub warning-stays : (x : Call) → IgnoredWarning x → (call v c x).next ≡ c
  warning-stays = Shared.warning-stays (call v) (ended Phase.Closed) c (λ level description. rw going)

  pub alert-fate : (Stays Comes : Call → Type 0) → ((x : Call) → IgnoredWarning x → Stays x)
      → (level description : ℕ) → Fate v c Stays Comes (alert level description)
  alert-fate = Shared.alert-fate (call v) (ended Phase.Closed) c (λ level description. rw going)
