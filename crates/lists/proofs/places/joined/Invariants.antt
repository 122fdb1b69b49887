-- `lists::places::joined`: the parts so far stand at the front, as far as there is room, and zeros behind them.
use Rattle.std.proofs.Common.{◌≡◌, length, take}
use Rattle.std.specs.Prelude.{flat_map}
use Rattle.lists.specs.Lists.{field}
use Rattle.lists.proofs.places.joined.Given as goal

abbrev pub invariant-loop-part : goal.invariant-loop-part
invariant-loop-part g l =
    let so_far = take g.row.N (flat_map (λ part. part.now) (take l.part-index l.parts)) in
    (l.at ≡ length so_far) × (l.all ≡ field g.row.N so_far)
