-- `utf8::valid_utf8`: no character, one character more, and no byte left.
use Rattle.std.proofs.Common.{◌∙◌, sym, arith}
use Rattle.std.proofs.lemmas.List.{nil_from_length}
use Rattle.lists.proofs.Parts.{part_to_end}
use Rattle.utf8.specs.Utf8.{valid_utf8}
use Rattle.utf8.proofs.Characters.{valid-next, valid-stop}
use Rattle.utf8.proofs.valid_utf8.Goals as goal

pub returns-then-not-begins : goal.returns-then-not-begins
unfolding valid_utf8
returns-then-not-begins c =
    let bad = sym c.begins.ensures ∙ c.if-not-begins.true in
    sym (valid-stop c.loop-rest.rest.now c.size-n.result (omega arith) c.size-n.ensures bad) ∙ c.loop-rest.invariant

pub loop-rest-preserved : goal.loop-rest-preserved
unfolding valid_utf8
loop-rest-preserved c =
    let left = c.loop-rest.rest.now in
    let good = sym c.begins.ensures ∙ c.if-not-begins.false in
    rw (part_to_end left c.size-n.result, ← valid-next left c.size-n.result (omega arith) c.size-n.ensures good) c.loop-rest.invariant

pub returns : goal.returns
unfolding valid_utf8
returns c = rw (nil_from_length c.loop-rest.rest.now (omega arith)) at c.loop-rest.invariant
