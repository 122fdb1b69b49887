-- `hellos::put::four`: each part stands behind those before it.
use Rattle.std.proofs.Common.{◌≡◌, ◌+◌, ◌++◌, arith, length, length-append}
use Rattle.layout.proofs.Puts.{put_two}
use Rattle.hellos.proofs.Hellos.{length-between}
use Rattle.hellos.proofs.put.four.Goals as goal

pub returns-clause-out_after : goal.returns-clause-out_after
returns-clause-out_after c =
    let p = c.args.place in
    let out = c.args.out.now in
    let a = c.args.a.now in
    let b = c.args.b.now in
    let x = c.args.c.now in
    let d = c.args.d.now in
    let second = c.at-second.ensures in
    let third = c.at-third.ensures in
    let last = c.at-last.ensures in
    let room = length-between a b x d in
    let ab = length-append a b in
    let abx = length-append (a ++ b) x in
    let place : c.at-third.result ≡ p + length (a ++ b) = omega (arith, ab, second.value, third.value) in
    let next : c.at-last.result ≡ p + length ((a ++ b) ++ x) = omega (arith, abx, place, last.value) in
    let both = put_two out _ _ a b p _ (omega (arith, c.requires)) second.out_after second.value third.out_after in
    let more = put_two out _ _ (a ++ b) x p _ (omega (arith, ab, c.requires)) both place last.out_after in
    put_two out _ _ ((a ++ b) ++ x) d p _ (omega (arith, abx, ab, c.requires)) more next c.at.ensures.out_after
