-- `record_server::taking::settle`: by what was decided, and then by the room.
use Rattle.std.proofs.Common.{◌∙◌, ap, not, Ok}
use borrow.Author.Tests.{le-leb, lt-leb}
use Rattle.lists.proofs.Tests.{failed, passed}
use Rattle.refusal.proofs.Laws.{wrote-all, refused-short, answer-in-front}
use Rattle.record_server.specs.InnerTaking.{answered_by}
use Rattle.record_server.proofs.Holding.{held-room}
use Rattle.record_server.proofs.Outcomes.{refused-does, memory-short, output-short, settled-does}
use Rattle.record_server.proofs.taking.settle.Goals as goal

pub returns-then-not-has_room : goal.returns-then-not-has_room
returns-then-not-has_room c held h =
    let a = c.args in
    let room = c.has_room.ensures ∙ held-room c.in-Ok.d.keep a.memory.now held a.received.now (rw c.in-Ok.is at c.requires).1 h in
    memory-short a.c held a.received.now a.out.now a.memory.now c.in-Ok.is (failed c.has_room.result _ room (ap not c.if-not-has_room.true))
    (c.refuse.ensures a.out.now a.memory.now)

pub returns-in-Ok-said : goal.returns-in-Ok-said
returns-in-Ok-said c held h =
    let a = c.args in
    let room = c.has_room.ensures ∙ held-room c.in-Ok.d.keep a.memory.now held a.received.now (rw c.in-Ok.is at c.requires).1 h in
    let wrote = wrote-all c.put-said.ensures c.in-Ok-said.is in
    settled-does a.c held a.received.now a.out.now a.memory.now c.in-Ok.is (le-leb _ _ wrote.0) (passed c.has_room.result _ room (ap not c.if-not-has_room.false))
    (c.answered.ensures ∙ ap (answered_by c.in-Ok.d) (c.in-Ok-said.is ∙ ap Ok wrote.1))
    (answer-in-front c.put-said.ensures wrote.0)
    (c.put_held.ensures held h)

pub returns-in-Err-said : goal.returns-in-Err-said
returns-in-Err-said c held h =
    let a = c.args in
    let short = lt-leb _ _ (refused-short c.put-said.ensures c.in-Err-said.is) in
    output-short a.c held a.received.now a.out.now a.memory.now c.in-Ok.is short (c.refuse-in-Err-said.ensures a.out.now a.memory.now)
    (c.put-said.ensures.left ∙ rw short)

pub returns-in-Err : goal.returns-in-Err
returns-in-Err c held h =
    let a = c.args in
    refused-does a.c held a.received.now a.out.now a.memory.now c.in-Err.is (c.refuse-in-Err.ensures a.out.now a.memory.now)
