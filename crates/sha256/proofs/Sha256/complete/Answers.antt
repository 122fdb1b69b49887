-- `sha256::Sha256::complete`: what the part and the block make is the block of `absorb-completes`.
use Rattle.std.proofs.Common.{◌≡◌, ◌+◌, ◌%◌, ◌++◌, length, take, drop, append-nil, arith, rules}
use lib.ListN.{drop_of_length-le, length-append}
use lib.Seq.{length-take-le}
use Rattle.sha256_block.proofs.Parse.{hash-one}
use Rattle.sha256.proofs.Absorb.{absorb-completes, completed}
use Rattle.sha256.proofs.Sha256.complete.Goals as goal

pub returns : goal.returns
unfolding completed
returns c =
    let s = c.args.self in
    let xs = c.args.«data».now in
    let size : length s.block ≡ 64 = search (rules, c.well_formed) in
    let full : xs ++ drop (s.count % 64 + length xs) s.block ≡ xs = rw (
      drop_of_length-le s.block {i = s.count % 64 + length xs} (omega (arith, c.requires.data_value)),
      append-nil xs,
    ) in
    let front = take (s.count % 64) s.block in
    let held : length front ≡ s.count % 64 = length-take-le (s.count % 64) s.block (omega arith) in
    let whole : length (front ++ xs) ≡ 64 = rw (length-append front xs, held) c.requires.data_value in
    rw (
      c.all_blocks-words.ensures,
      c.filled-block.ensures,
      full,
      hash-one s.words (front ++ xs) whole,
      absorb-completes s xs c.requires.data_bound c.requires.data_value size,
    )
