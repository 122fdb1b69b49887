-- `sha256::Sha256::complete_first`: the data is cut where the block is full, and absorbing in parts is absorbing the whole.
use Rattle.std.proofs.Common.{◌≡◌, ◌+◌, ◌-◌, ◌%◌, length, take, drop, arith}
use lib.ListN.{length-drop, take-append-drop}
use lib.Seq.{length-take-le}
use Rattle.sha256.proofs.Absorb.{absorb-append, absorb-count}
use Rattle.lists.proofs.Parts.{part_to_end}
use Rattle.sha256.proofs.Sha256.complete_first.Goals as goal

-- the count when the block is full
counted : (c : goal.After-straight-arg-1) → c.complete-next.result.count ≡ c.args.self.count + (64 - c.args.self.count % 64)
counted c =
    let xs = c.args.«data».now in
    let room = 64 - c.args.self.count % 64 in
    let size : length (take room xs) ≡ room = length-take-le room xs (omega (arith, c.requires.bound)) in
    rw (c.complete-next.ensures, absorb-count c.args.self (take room xs) (omega (arith, c.requires.data_bound)), size)

pub straight-requires-clause-data_bound : goal.straight-requires-clause-data_bound
straight-requires-clause-data_bound c =
    let xs = c.args.«data».now in
    let room = 64 - c.args.self.count % 64 in
    let left : length (drop room xs) ≡ length xs - room = length-drop room xs in
    rw (part_to_end xs room) (omega (arith, counted c, c.requires.data_bound, c.requires.bound))

pub straight-requires-clause-count_value : goal.straight-requires-clause-count_value
straight-requires-clause-count_value c = omega (arith, counted c)

pub returns : goal.returns
returns c =
    let args = c.args in
    let xs = args.«data».now in
    let room = 64 - args.self.count % 64 in
    rw (
      c.straight.ensures,
      part_to_end xs room,
      c.complete-next.ensures,
      ← absorb-append args.self (take room xs) (drop room xs),
      take-append-drop room xs,
    )
