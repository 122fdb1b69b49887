-- `sha256::with_length`: a copy over the last eight bytes.
use Rattle.std.proofs.Common.{◌≡◌, ℕ, List, ◌++◌, length, take, ap, ◌∙◌, append-nil, arith, rules}
use lib.ListN.{drop_of_length-le}
use Rattle.lists.proofs.Copies.{copied-in}
use Rattle.sha256.proofs.with_length.Goals as goal

pub returns : goal.returns
returns c =
    let args = c.args in
    let src = c.bytes-bits.result in
    let eight : length src ≡ 8 = ap length c.bytes-bits.ensures in
    let size : length args.block ≡ 64 = search (rules, c.well_formed) in
    copied-in args.block src c.copy.new.dst 56 64 (omega arith) (omega arith) c.copy.ensures.1
    ∙ rw (drop_of_length-le args.block {i = 64} (omega arith), append-nil src)
    (ap (λ (bits : List ℕ). take 56 args.block ++ bits) c.bytes-bits.ensures)
