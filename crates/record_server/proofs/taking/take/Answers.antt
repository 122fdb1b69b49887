-- `record_server::taking::take`: what the record comes to, with what the memory held before it.
use Rattle.records.specs.Joining.{held_in}
use Rattle.record_server.proofs.Holding.{held-front}
use Rattle.record_server.proofs.Outcomes.{settled-brief}
use Rattle.record_server.proofs.taking.take.Goals as goal

pub returns-clause-takes : goal.returns-clause-takes
returns-clause-takes c =
    let memory = c.args.memory.now in
    let does = c.settle.ensures (held_in memory c.args.c.held) (held-front memory c.args.c.held) in
    rw (← c.decide-d.ensures.means) does

pub returns-clause-said_bound : goal.returns-clause-said_bound
returns-clause-said_bound c =
    let a = c.args in
    let held = held_in a.memory.now a.c.held in
    let does = c.settle.ensures held (held-front a.memory.now a.c.held) in
    rw does.gives (settled-brief a.c held a.received.now a.out.now a.memory.now c.decide-d.result c.decide-d.ensures.keeps)
