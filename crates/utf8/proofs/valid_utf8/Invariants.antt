-- `utf8::valid_utf8`: what is left of the text is as good as the whole, and each turn takes one character off.
use Rattle.std.proofs.Common.{◌≡◌, length}
use Rattle.utf8.specs.Utf8.{valid_utf8}
use Rattle.utf8.proofs.valid_utf8.Given as goal

abbrev pub invariant-loop-rest : goal.invariant-loop-rest
invariant-loop-rest l = valid_utf8 l.rest ≡ valid_utf8 l.s

abbrev pub decreases-loop-rest : goal.decreases-loop-rest
decreases-loop-rest l = length l.rest
