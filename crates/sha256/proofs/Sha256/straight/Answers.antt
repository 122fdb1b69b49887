-- `sha256::Sha256::straight`: whole blocks from the front, then what is left, by `absorb-straight`.
use Rattle.std.proofs.Common.{◌≡◌, ◌-◌, ◌%◌, length, arith, rules}
use Rattle.sha256.proofs.Absorb.{absorb-straight}
use Rattle.lists.proofs.Parts.{part_to_end}
use Rattle.sha256.proofs.Sha256.straight.Goals as goal

pub returns : goal.returns
returns c =
    let s = c.args.self in
    let xs = c.args.«data».now in
    let n = length xs - length xs % 64 in
    let size : length s.block ≡ 64 = search (rules, c.well_formed) in
    rw (
      c.hold-2.ensures,
      part_to_end xs n,
      c.all_blocks-words.ensures,
      absorb-straight s xs n c.requires.data_bound c.requires.count_value size (omega arith) (omega arith) (omega arith),
    )
