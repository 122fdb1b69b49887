-- `server::finished::complete`: the server's value over the client's Finished too, or none past the hash's limit.
use Rattle.std.proofs.Common.{◌∙◌, refl, sym, ap, arith}
use Rattle.refusal.proofs.Laws.{sized-gives, sized-refuses}
use Rattle.keys.specs.declared.Side.TheVariants.{Server}
use Rattle.keys.specs.Secrets.{finished_of}
use Rattle.keys.proofs.Lengths.{finished-of-sized}
use Rattle.server.specs.Finished.{completed}
use Rattle.handshake.proofs.Decisions.{same_step}
use Rattle.server.proofs.finished.complete.Goals as goal

pub returns-in-Ok : goal.returns-in-Ok
returns-in-Ok c =
    let master = c.args.c.secrets.master in
    let value = sized-gives _ (finished-of-sized Server master c.with_message-transcript.result) refl c.finished_of.ensures c.in-Ok.is in
    let sent = c.answer.ensures in
    same_step (ap completed (sym (ap (finished_of Server master) c.with_message-transcript.ensures) ∙ value))
    (record { means = rw (c.ended.ensures, sent.means); fits = sent.fits; counts = refl })

pub returns-in-Err : goal.returns-in-Err
returns-in-Err c =
    let master = c.args.c.secrets.master in
    let none = sized-refuses _ (finished-of-sized Server master c.with_message-transcript.result) refl c.finished_of.ensures c.in-Err.is in
    same_step (ap completed (sym (ap (finished_of Server master) c.with_message-transcript.ensures) ∙ none)) (record { means = refl; fits = omega arith; counts = refl })
