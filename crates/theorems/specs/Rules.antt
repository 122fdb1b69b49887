-- Which rule a start leads to: the one that is named (document 01, "The server's steps"), and hide where none is (document 02, P3). proofs/Rules.antt
-- proves it.
use Rattle.std.specs.Prelude.{◌≡◌, true, Option, None, Some}
use Rattle.server.specs.declared.Rule.{Rule}
use Rattle.server.specs.Connection.{Settings, acceptable, start_answer}

abbrev pub LeadsTo : Option Rule → Rule → Type 0
LeadsTo named rule = (s : Settings) → acceptable s ≡ true → s.named ≡ named → (start_answer s).next.setup.rule ≡ rule

pub record RulesApply : Type 0 where
  pub tell : LeadsTo (Some Rule.Tell) Rule.Tell
  pub hide : LeadsTo (Some Rule.Hide) Rule.Hide
  pub none : LeadsTo None Rule.Hide
