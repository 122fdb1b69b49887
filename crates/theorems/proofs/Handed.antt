-- The master secret is handed over for a ClientKeyExchange and nowhere else.
-- Assumes nothing.
use mathlib.Core.Path.{◌≡◌, refl}
use Prim.Native.Nat.{ℕ}
use mathlib.Core.List.{List}
use Rattle.std.proofs.lemmas.Option.{none-some}
use Rattle.std.specs.Prelude.{Some}
use Rattle.server.specs.declared.Phase.{Phase}
use Rattle.server.specs.Step.{Step}
use Rattle.server.specs.Message.{handed_over}

pub handed-once : (phase : Phase) (step : Step) (secret : List ℕ) → handed_over phase step ≡ Some secret → phase ≡ Phase.KeyExchange
handed-once Phase.Hello step secret e = absurd (none-some secret e)
handed-once Phase.KeyExchange step secret e = refl
handed-once Phase.Change step secret e = absurd (none-some secret e)
handed-once Phase.Finished step secret e = absurd (none-some secret e)
handed-once Phase.Complete step secret e = absurd (none-some secret e)
handed-once Phase.Closed step secret e = absurd (none-some secret e)
