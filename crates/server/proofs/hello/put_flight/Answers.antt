-- `server::hello::put_flight`: ServerHello is valid and has room, and the rest stands behind its 42 bytes.
-- Assumes nothing.
use Rattle.std.proofs.Common.{arith, ◌≡◌, ◌∙◌, sym, ap, ℕ, List}
use Rattle.layout.specs.Layout.{bytes}
use Rattle.hellos.specs.ServerHello.{server_hello}
use Rattle.server.specs.Inner.{front, rest_of}
use Rattle.layout.proofs.Layouts.{at_front}
use Rattle.layout.proofs.Puts.{put-behind}
use Rattle.server.proofs.Hellos.{hello, length-hello, hello-valid, flight-parts}
use Rattle.server.proofs.hello.put_flight.Goals as goal

pub returns : goal.returns
returns c =
    let a = c.args in
    let random = a.random.now in
    let out = a.out.now in
    let message = bytes server_hello (hello random a.suite) in
    let size = length-hello random a.suite c.requires.0 in
    let one : c.write.new.out ≡ front message out =
    at_front server_hello (hello random a.suite) (hello-valid random a.suite c.requires.0 (omega arith)) (omega (arith, size)) c.write.ensures in
    put-behind message (rest_of a.hint.now) out _ c.put_rest.new.out 42 one (sym size) c.put_rest.ensures
    ∙ sym (ap (λ (l : List ℕ). front l out) (flight-parts random a.hint.now a.suite))
