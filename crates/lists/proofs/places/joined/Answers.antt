-- `lists::places::joined`: one part more, as far as there is room.
use Rattle.std.proofs.Common.{◌≡◌, ℕ, List, Bor, [], ◌++◌, ◌+◌, ◌-◌, ◌≤◌, length, take, get_or, arith}
use Rattle.std.specs.Prelude.{flat_map}
use Rattle.std.proofs.Math.Seq.{take-suc}
use Rattle.std.proofs.lemmas.Grind.{common_steps}
use Rattle.lists.proofs.Joining.{joined-turn}
use Rattle.lists.proofs.places.joined.Goals as goal

pub loop-part-preserved : goal.loop-part-preserved
loop-part-preserved g c =
    let now : Bor (List ℕ) → List ℕ = λ p. p.now in
    let parts = c.args.parts.now in
    let i = c.loop-part.part-index in
    let none : Bor (List ℕ) = record { ref_ptr = (0, 0); now = [] } in
    let part : List ℕ = now (get_or parts i none) in
    let so_far : List ℕ = flat_map now (take i parts) in
    let more : flat_map now (take (i + 1) parts) ≡ so_far ++ part = grind (arith, common_steps, take-suc) in
    let room : c.min-n.result ≤ g.row.N - c.loop-part.at = grind (arith, c.min-n.ensures) in
    let inside : c.min-n.result ≤ length part = grind (arith, c.min-n.ensures) in
    rw more (joined-turn g.row.N c.loop-part.at c.min-n.result so_far part c.loop-part.all c.copy_from_slice.new.self
    c.loop-part.invariant.0 c.loop-part.invariant.1 room inside (λ less. grind (arith, c.min-n.ensures, less)) c.copy_from_slice.ensures.after)
