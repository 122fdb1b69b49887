-- `sha256::Sha256::update`: each way through the tests is one law of absorbing.
use Rattle.std.proofs.Common.{sym, ◌∙◌, arith}
use Rattle.sha256.proofs.Absorb.{absorb-none, absorb-past}
use Rattle.sha256.proofs.Sha256.update.Goals as goal

pub returns-then-data-eq0 : goal.returns-then-data-eq0
returns-then-data-eq0 c = sym (absorb-none _ _ c.if-data-eq0.true)

pub returns-then-count-gt-LIMIT : goal.returns-then-count-gt-LIMIT
returns-then-count-gt-LIMIT c =
    let args = c.args in
    c.past_limit.ensures ∙ sym (absorb-past args.self args.«data».now (omega arith) (omega arith))

pub returns-then-count-data : goal.returns-then-count-data
returns-then-count-data c =
    let args = c.args in
    c.past_limit-then-count-data.ensures ∙ sym (absorb-past args.self args.«data».now (omega arith) (omega arith))
