-- `client::exchange::answer`: the messages are those of the definition, and so are the transcripts that they join.
-- Assumes nothing.
use Rattle.std.proofs.Common.{arith, ◌∙◌, refl, ap, take}
use Rattle.refusal.proofs.Laws.{sized-gives, sized-refuses}
use Rattle.keys.specs.declared.Side.TheVariants.{Client}
use Rattle.keys.proofs.Lengths.{finished-of-sized}
use Rattle.sha256.specs.declared.Sha256.{Sha256}
use Rattle.sha256.specs.State.{absorb}
use Rattle.handshake.proofs.Decisions.{same_step}
use Rattle.client.specs.Inner.{after_done_with}
use Rattle.client.proofs.Exchanges.{answer-made, answer-refused}
use Rattle.client.proofs.exchange.answer.Goals as goal

pub returns-in-Ok : goal.returns-in-Ok
returns-in-Ok c =
    let a = c.args in
    let put = take c.put_exchange-n.result c.put_exchange-n.new.out in
    let before = c.with_message-before.ensures ∙ ap (λ (t : Sha256). absorb t put) c.with_message-with_done.ensures in
    let made = sized-gives _ (finished-of-sized Client a.master c.with_message-before.result) refl c.finished_of.ensures c.in-Ok.is in
    let next = c.after_done-next.ensures ∙ ap (after_done_with a.c a.master) c.with_message.ensures in
    same_step {n = a.blocks}
    (answer-made a.c a.m.now a.master c.put_exchange-n.ensures.2 before made c.finished-message.ensures c.two-outgoing.ensures.means next)
    (record { means = refl; fits = c.two-outgoing.ensures.fits; counts = refl })

pub returns-in-Err : goal.returns-in-Err
returns-in-Err c =
    let a = c.args in
    let put = take c.put_exchange-n.result c.put_exchange-n.new.out in
    let before = c.with_message-before.ensures ∙ ap (λ (t : Sha256). absorb t put) c.with_message-with_done.ensures in
    let none = sized-refuses _ (finished-of-sized Client a.master c.with_message-before.result) refl c.finished_of.ensures c.in-Err.is in
    same_step (answer-refused a.c a.m.now a.master c.put_exchange-n.ensures.2 before none) (record { means = refl; fits = omega arith; counts = refl })
