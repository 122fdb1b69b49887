-- `table_edits::hex::put_key`: two more digits with each byte of the key, until they fill the part.
-- Assumes nothing.
use Rattle.std.proofs.Common.{arith, ◌≡◌, ◌∙◌, ◌*◌, length, append-nil}
use lib.ListN.{drop_of_length-le}
use Rattle.lists.proofs.Copies.{filled-all}
use Rattle.table_edits.specs.Edits.{lower_hex}
use Rattle.table_edits.proofs.Digits.{length-hex, digits-turn}
use Rattle.table_edits.proofs.hex.put_key.Goals as goal

pub loop-i-preserved : goal.loop-i-preserved
loop-i-preserved c =
    rw (c.loop-i.invariant, c.lower_digit.ensures, c.lower_digit-in-loop-i.ensures) (digits-turn c.args.key.now c.args.out.now c.loop-i.i (omega arith) (omega arith))

pub returns : goal.returns
returns c =
    let key = c.args.key.now in
    let out = c.args.out.now in
    let end : 2 * c.loop-i.i ≡ 2 * length key = omega arith in
    c.loop-i.invariant ∙ filled-all (lower_hex key) out _ _ (length-hex key) end
    ∙ rw (drop_of_length-le out {i = 2 * length key} (omega arith)) (append-nil (lower_hex key))
