-- What is decided for a step, whatever the connection, on either side.
-- Assumes nothing.
use mathlib.Core.Path.{◌≡◌}
use Prim.Native.Nat.{ℕ}
use Rattle.std.specs.Prelude.{Result}
use Rattle.refusal.specs.declared.Refusal.{Refusal}
use Rattle.handshake.specs.declared.Decision.{Decision}
use Rattle.handshake.specs.Decision.{Decides}
use Rattle.handshake.specs.Step.{Step}

-- what is decided for one step is decided for the same step
pub same_step : {C : Type 0} {d : Result (Decision C) Refusal} {s t : Step C} {n : ℕ} → s ≡ t → Decides d t n → Decides d s n
same_step e h = rw e h
