-- `hellos::put::vector16`: the length and the contents one behind the other are the vector.
use Rattle.std.proofs.Common.{◌≡◌, ◌+◌, ◌≤◌, arith, length}
use Rattle.endian.specs.Number.{be}
use Rattle.layout.proofs.Puts.{put_two}
use Rattle.hellos.proofs.put.vector16.Goals as goal

pub returns-clause-out_after : goal.returns-clause-out_after
returns-clause-out_after c =
    let size = c.bytes-size.result in
    let two : size ≡ be 2 (length c.args.contents.now) = c.bytes-size.ensures in
    let room : c.args.place + length size ≤ length c.args.out.now = rw two (omega (arith, c.requires)) in
    let both = put_two c.args.out.now _ _ size c.args.contents.now c.args.place _ room c.at-next.ensures.out_after c.at-next.ensures.value c.at.ensures.out_after in
    rw two at both
