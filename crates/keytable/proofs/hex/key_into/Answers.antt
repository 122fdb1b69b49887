-- `keytable::hex::key_into`: no room, or the decoded key.
use Rattle.std.proofs.Common.{sym, ◌∙◌}
use Rattle.refusal.proofs.Laws.{gives-answers, short-answers}
use Rattle.keytable.specs.Table.{decoded}
use Rattle.keytable.proofs.Pairs.{length-decoded}
use Rattle.keytable.proofs.hex.key_into.Goals as goal

pub returns-then-out-n : goal.returns-then-out-n
returns-then-out-n c =
    rw (sym c.valid_key.ensures ∙ c.if-not-valid_key.false) (short-answers _ _ (rw length-decoded c.if-out-n.true))

pub returns : goal.returns
returns c =
    let text = c.args.text.now in
    rw (sym c.valid_key.ensures ∙ c.if-not-valid_key.false, c.decode.ensures)
    (rw (length-decoded text) at (gives-answers (decoded text) c.args.out.now (rw (length-decoded text) c.if-out-n.false)))
