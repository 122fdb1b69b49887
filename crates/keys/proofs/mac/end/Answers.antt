-- `keys::mac::end`: two digests, by `two-digests` and `two-counts`.
use Rattle.std.proofs.Common.{rules, ◌∙◌, refl, ap}
use Rattle.sha256.specs.declared.Sha256.{Sha256}
use Rattle.sha256.specs.State.{absorb}
use Rattle.keys.proofs.HmacSteps.{Counts, counts-of, two-digests, two-counts}
use Rattle.keys.proofs.mac.end.Goals as goal

pub returns-clause-by_index : goal.returns-clause-by_index
returns-clause-by_index c key text ei eo eb few =
    let outer = c.update.ensures ∙ ap (λ (s : Sha256). absorb s c.finish_counted.new.out) eo in
    let first : Counts c.args.inner c.finish_counted.result c.map_or-first.result =
    counts-of c.args.inner c.finish_counted.result c.map_or-first.result c.finish_counted.ensures.blocks_value (search rules) in
    let second : Counts c.update.result c.finish_counted-2.result c.map_or-second.result =
    counts-of c.update.result c.finish_counted-2.result c.map_or-second.result c.finish_counted-2.ensures.blocks_value (search rules) in
    record {
      value = two-digests key text few c.finish_counted.result c.finish_counted-2.result c.map_or-first.result c.map_or-second.result
          ei c.finish_counted.ensures.answers refl first outer c.finish_counted-2.ensures.answers refl second;
      blocks = rw eb (two-counts key text few c.finish_counted.result c.finish_counted-2.result c.map_or-first.result c.map_or-second.result
          ei c.finish_counted.ensures.answers refl first outer c.finish_counted-2.ensures.answers refl second);
    }
