-- `sha256::Sha256::hold`: the filled block is that of `absorb-held`.
use Rattle.std.proofs.Common.{◌≡◌, length, rules}
use Rattle.sha256.proofs.Absorb.{absorb-held, filled}
use Rattle.sha256.proofs.Sha256.hold.Goals as goal

pub returns : goal.returns
unfolding filled
returns c =
    let size : length c.args.self.block ≡ 64 = search (rules, c.well_formed) in
    rw (c.filled-block.ensures, absorb-held c.args.self c.args.«data».now c.requires.data_bound c.requires.data_bound_2 size)
