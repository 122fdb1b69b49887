-- The PRF's labels and the sides of a Finished as C names them, by numbers. A number that names none is R5.
use Rattle.std.specs.Prelude.{ℕ, cond, List, leb, eqb}
use Rattle.refusal.specs.declared.Refusal.TheVariants.{BadValue}
use Rattle.refusal.specs.Lent.{Outcome, refuses}
use Rattle.keys.specs.declared.Label.{Label}
use Rattle.keys.specs.declared.Label.TheVariants.{MasterSecret, KeyExpansion, ClientFinished, ServerFinished}
use Rattle.keys.specs.declared.Side.{Side}
use Rattle.keys.specs.declared.Side.TheVariants.{Client, Server}
use Rattle.keys.specs.Prf as Prf
use Rattle.keys.specs.Secrets as Secrets

abbrev pub label_of : ℕ → Label
label_of n = cond (eqb n 0) MasterSecret (cond (eqb n 1) KeyExpansion (cond (eqb n 2) ClientFinished ServerFinished))

abbrev pub prf : List ℕ → ℕ → List ℕ → ℕ → Outcome
prf secret label seed n = cond (leb label 3) (Prf.prf secret (label_of label) seed n) (refuses BadValue)

abbrev pub side_of : ℕ → Side
side_of n = cond (eqb n 0) Client Server

abbrev pub finished : ℕ → List ℕ → List ℕ → Outcome
finished side master hash = cond (leb side 1) (Secrets.verify_data (side_of side) master hash) (refuses BadValue)
