-- `keys::joined`: two copies, the second behind the first.
use Rattle.std.proofs.Common.{rules, ◌≡◌, ◌∙◌, sym, length, take}
use lib.Seq.{take_all}
use Rattle.keys.proofs.joined.Goals as goal

pub returns : goal.returns
returns c =
    let one : length c.args.first.now ≡ 32 = c.requires.first_len in
    let two : length c.args.second.now ≡ 32 = c.requires.second_len in
    let all : take 64 c.append-2.new.buffer ≡ c.append-2.new.buffer = search (rules, take_all) in
    sym all ∙ (rw two at c.append-2.ensures) ∙ rw (rw one at c.append.ensures)
