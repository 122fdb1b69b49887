-- `keys::master_under`: the premaster secret, and the master secret over it, with its blocks.
use Rattle.std.proofs.Common.{rules, ◌≡◌, sym, Err}
use Rattle.refusal.proofs.Laws.{wrote-gives, refused-refuses, refuses-answers}
use Rattle.keys.specs.Secrets.{premaster}
use Rattle.keys.proofs.Lengths.{premaster-most, premaster-is}
use Rattle.keys.proofs.master_under.Goals as goal

pub returns-in_err-n-clause-answers : goal.returns-in_err-n-clause-answers
returns-in_err-n-clause-answers c =
    let told : c.from_residual.result ≡ Err c.in_err-n.field-0.0 = search rules in
    rw (told, refused-refuses (premaster _) (premaster-most _) c.premaster.ensures c.in_err-n.was) (refuses-answers _ _)

pub returns-clause-blocks_value : goal.returns-clause-blocks_value
returns-clause-blocks_value c =
    let given = (wrote-gives (premaster _) c.premaster.ensures c.in_ok-n.was).1 in
    rw (sym (premaster-is c.args.key.now given)) c.master.ensures.blocks_value
