-- `client::starting::start`: the hello that was put, and the connection that has sent it.
-- Assumes nothing.
use Rattle.std.proofs.Common.{◌≡◌, ◌∙◌, sym, ap, true}
use Rattle.std.specs.Prelude.{not}
use borrow.Author.Tests.{not-false}
use Rattle.handshake.specs.Step.{answered}
use Rattle.client.specs.Connection.{Settings, acceptable, started}
use Rattle.client.proofs.Starts.{hello-sent}
use Rattle.client.proofs.starting.start.Goals as goal

pub returns-in-Ok : goal.returns-in-Ok
unfolding started
returns-in-Ok c =
    let a = c.args in
    let s : Settings = record { random = a.random.now; identity = a.identity.now; key = a.key.now } in
    let fine : acceptable s ≡ true = sym c.acceptable.ensures ∙ not-false c.acceptable.result (ap not c.if-not-acceptable.false) in
    let all = hello-sent s fine (rw (← c.hello-hello.ensures) c.put-said.ensures) c.in-Ok.is in
    (rw (c.started-next.ensures, c.setup.ensures) (sym (ap answered all)), sym (ap (λ s. s.out) all))
