-- `utf8::begins`: the first byte, and one byte more.
use Rattle.std.proofs.Common.{◌+◌, ◌-◌, ◌<◌, ◌∙◌, take, drop, sym, get_or, arith, length-take}
use Rattle.utf8.specs.Utf8.{leading_ones}
use Rattle.utf8.proofs.Characters.{most-first, most-more, left-start, left-more, size_small}
use Rattle.utf8.proofs.begins.Goals as goal

pub loop-b-init : goal.loop-b-init
loop-b-init c = (
  rw c.row_of-first.ensures (most-first c.args.n _ c.if-n-lt2.false),
  rw c.row_of-first.ensures (left-start c.args.s.now c.args.n c.requires.n_value c.if-s-n.false (omega arith)),
)

pub loop-b-preserved : goal.loop-b-preserved
loop-b-preserved c =
    let bytes = take (c.args.n - 1) (drop 1 c.args.s.now) in
    let i = c.loop-b.b-index in
    let four = size_small (leading_ones (get_or c.args.s.now 0 0)) in
    let early : i + 1 < 4 = omega (arith, c.loop-b-test.true, length-take (c.args.n - 1) (drop 1 c.args.s.now), c.requires.n_value, four) in
    rw c.from.ensures (
      most-more (i + 1) c.loop-b.v _ (omega arith) early c.loop-b.invariant.0,
      left-more _ _ c.loop-b.v bytes i c.loop-b-test.true (sym c.tail.ensures ∙ c.if-not-tail.false) c.loop-b.invariant.1,
    )
