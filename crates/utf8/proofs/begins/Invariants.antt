-- `utf8::begins`: what is left of the character is as good as the whole, behind the number that was made of the bytes before it.
use Rattle.std.proofs.Common.{◌≤◌, ◌+◌, take, drop}
use Rattle.utf8.specs.Utf8.{character}
use Rattle.utf8.proofs.Characters.{most, Left}
use Rattle.utf8.proofs.begins.Given as goal

abbrev pub invariant-loop-b : goal.invariant-loop-b
invariant-loop-b l =
    (l.v ≤ most (l.b-index + 1)) × Left (character (take l.n l.s)) l.first.least l.v (drop l.b-index l.b-items)
