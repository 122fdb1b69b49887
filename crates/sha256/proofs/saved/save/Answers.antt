-- `sha256::saved::save`: the three parts, and what they stand for.
use Rattle.std.proofs.Common.{◌≡◌, ◌∙◌, ap, rules, arith}
use Rattle.std.proofs.lemmas.Grind.{common_steps}
use Rattle.sha256.specs.Hash.{concatenated}
use Rattle.sha256.specs.Saved.{saved, restored}
use Rattle.sha256.proofs.Saving.{Fits, restored-saved}
use Rattle.sha256.proofs.saved.save.Goals as goal

whole : (c : goal.After-joined) → c.joined.result ≡ saved c.args.state
unfolding saved concatenated
whole c = c.joined.ensures.fills (grind (arith, common_steps)) ∙ rw (c.concatenation-words.ensures, c.bytes-count.ensures)

pub returns-clause-value : goal.returns-clause-value
returns-clause-value c = whole c

-- the fields fit, since each has its type
pub returns-clause-result_value : goal.returns-clause-result_value
returns-clause-result_value c =
    let fits : Fits c.args.state = record {
      a = search rules;
      b = search rules;
      c = search rules;
      d = search rules;
      e = search rules;
      f = search rules;
      g = search rules;
      h = search rules;
      size = search rules;
      count = search rules;
    } in
    ap restored (whole c) ∙ restored-saved c.args.state fits
