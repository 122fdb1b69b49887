-- `saved_client::save`: the parts, one behind the other, and what they stand for.
use Rattle.std.proofs.Common.{◌≡◌, ◌∙◌, ap, append-nil, rules, arith}
use Rattle.std.proofs.lemmas.Grind.{common_steps}
use Rattle.saved_client.specs.Saved.{saved, restored}
use Rattle.saved_client.proofs.Saving.{Fits, restored-saved}
use Rattle.saved_client.proofs.save.Goals as goal

whole : (c : goal.After-joined) → c.joined.result ≡ saved c.args.c
unfolding saved
whole c = c.joined.ensures.fills (grind (arith, common_steps)) ∙ rw (c.head-head.ensures, c.save-transcript.ensures.value, append-nil)

pub returns-clause-value : goal.returns-clause-value
returns-clause-value c = whole c

-- the fields fit, since each has its type
pub returns-clause-result_value : goal.returns-clause-result_value
returns-clause-result_value c =
    let fits : Fits c.args.c = record {
      suite = search rules;
      identity = search rules;
      key = search rules;
      own = search rules;
      server = search rules;
      master = search rules;
      transcript = search rules;
      kept = search rules;
    } in
    ap restored (whole c) ∙ restored-saved c.args.c fits
