-- `saved_records::save`: the parts, one behind the other, and what they stand for.
use Rattle.std.proofs.Common.{◌≡◌, ◌∙◌, ap, append-nil, rules, arith}
use Rattle.std.proofs.lemmas.Grind.{common_steps}
use Rattle.endian.specs.Number.{be}
use Rattle.saved_records.specs.Saved.{saved, restored}
use Rattle.saved_records.proofs.Saving.{Fits, restored-saved}
use Rattle.saved_records.proofs.save.Goals as goal

whole : (c : goal.After-joined) → c.joined.result ≡ saved c.args.c
unfolding saved
whole c =
    let held : c.to_be_bytes-held.result ≡ be 2 c.args.c.held = search rules in
    c.joined.ensures.fills (grind (arith, common_steps)) ∙ rw (c.save-inner.ensures.value, c.state_bytes-reading.ensures, c.state_bytes-writing.ensures, held, append-nil)

pub returns-clause-value : goal.returns-clause-value
returns-clause-value c = whole c

-- the fields fit, since each has its type
pub returns-clause-result_value : goal.returns-clause-result_value
returns-clause-result_value c =
    let fits : Fits c.args.c = record {
      inner = search rules;
      kept = search rules;
      reading = record { sequence = search rules; key = search rules };
      writing = record { sequence = search rules; key = search rules };
      client = search rules;
      server = search rules;
      held = search rules;
      alert = search rules;
    } in
    ap restored (whole c) ∙ restored-saved c.args.c fits
