-- `server::calls::message`: what was decided, settled once, and the master secret where one is handed over.
use Rattle.std.proofs.Common.{◌≡◌, ◌∙◌, refl, ap, ℕ}
use Rattle.handshake.specs.Handed.{derived, step_blocks, with_master}
use Rattle.handshake.specs.Step.{refuse, accept, answered}
use Rattle.handshake.specs.declared.Answer.{Answer}
use Rattle.server.specs.declared.Phase.{Phase}
use Rattle.server.specs.declared.Connection.{Connection}
use Rattle.server.specs.Step.{Step, settled}
use Rattle.server.specs.KeyExchange.{view}
use Rattle.server.specs.Message.{message_step, handed_over, blocks_in}
use Rattle.server.proofs.calls.message.Goals as goal

-- the number that is handed over is the one that was reported
handed-as : (phase : Phase) (step : Step) (n : ℕ) → derived (handed_over phase step) (step_blocks step n) ≡ derived (handed_over phase step) n
handed-as Phase.Hello step n = refl
handed-as Phase.KeyExchange (refuse r) n = refl
handed-as Phase.KeyExchange (accept flight next) n = refl
handed-as Phase.Change step n = refl
handed-as Phase.Finished step n = refl
handed-as Phase.Complete step n = refl
handed-as Phase.Closed step n = refl

pub returns-clause-value : goal.returns-clause-value
returns-clause-value c =
    let a = c.args in
    let v = view a.table in
    let wanted = message_step v a.c a.m.now a.c.phase in
    let decides = c.decide-d.ensures in
    let handed = c.handed-handed.ensures ∙ rw (decides.means, decides.counts) (handed-as a.c.phase wanted (blocks_in v a.c a.m.now a.c.phase)) in
    let does = rw (decides.means, c.ended.ensures) at c.settle-answer.ensures in (
      ap (λ (x : Answer Connection). with_master x c.handed-handed.result) does.answers ∙ ap (with_master (answered (settled a.c a.out.now wanted))) handed,
      does.leaves,
    )
