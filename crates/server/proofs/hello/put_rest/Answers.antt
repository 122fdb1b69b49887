-- `server::hello::put_rest`: each message is valid and has room, and the second stands behind the first.
-- Assumes nothing.
use Rattle.std.proofs.Common.{arith, ◌≡◌, ◌≤◌, ◌-◌, ◌+◌, [], refl, length, take, drop}
use lib.ListN.{length-drop}
use Rattle.lists.proofs.Parts.{part_to_end}
use Rattle.layout.specs.Layout.{bytes}
use Rattle.messages.specs.KeyExchange.{server_key_exchange}
use Rattle.messages.specs.Fixed.{server_hello_done}
use Rattle.server.specs.Inner.{front}
use Rattle.layout.proofs.Layouts.{at_front}
use Rattle.layout.proofs.Puts.{put-behind}
use Rattle.messages.proofs.KeyExchanges.{vector-valid}
use Rattle.server.proofs.Hellos.{hint-present, hint-size}
use Rattle.server.proofs.hello.put_rest.Goals as goal

pub returns : goal.returns
returns c =
    let hint = c.args.hint.now in
    let out = c.args.out.now in
    let mid = c.write_hint.new.out in
    let some = c.if-hint-eq0.false in
    let sized = hint-size hint some in
    let one : mid ≡ front (bytes server_key_exchange hint) out =
    at_front server_key_exchange hint (vector-valid 12 hint (omega arith)) (omega arith) c.write_hint.ensures in
    let room : 4 ≤ length (take (length mid - (6 + length hint)) (drop (6 + length hint) mid)) =
    rw (part_to_end mid (6 + length hint)) (simp length-drop (omega arith)) in
    rw (hint-present hint some)
    (put-behind (bytes server_key_exchange hint) (bytes server_hello_done []) out mid c.write_done-2.new.out (6 + length hint) one (omega arith)
    (at_front server_hello_done [] refl room c.write_done-2.ensures))
