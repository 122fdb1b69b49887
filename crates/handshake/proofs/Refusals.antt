-- What a refusal does to a connection, by who is given it: an alert closes it, an R number leaves it as it was.
-- Assumes nothing.
use mathlib.Core.Path.{◌≡◌, refl}
use mathlib.Core.Bool.{cond}
use Rattle.refusal.specs.declared.Refusal.{Refusal}
use Rattle.refusal.specs.Table.{to_peer}
use Rattle.refusal.proofs.Effects.{by-receiver}
use Rattle.handshake.specs.Step.{after_effect, after_refusal}

pub alerts-close : {C : Type 0} (over : C) (r : Refusal) (c : C) → after_refusal over r c ≡ cond (to_peer r) over c
alerts-close over r c = by-receiver (λ e. after_effect over e c) refl refl refl refl r
