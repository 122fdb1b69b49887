-- `keys::p_sha256::labelled`: the message is absorbed in three parts.
use Rattle.std.proofs.Common.{◌∙◌}
use Rattle.keys.specs.Prf.{text}
use Rattle.keys.proofs.HmacSteps.{three-parts}
use Rattle.keys.proofs.p_sha256.labelled.Goals as goal

pub returns : goal.returns
returns c =
    let a = c.args in
    c.update-2.ensures ∙ rw (c.with_label.ensures, c.update.ensures) (three-parts a.hash a.front.now (text a.label) a.seed.now)
