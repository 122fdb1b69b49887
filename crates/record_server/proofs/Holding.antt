-- What lent memory holds of a message: where it stands, and whether there is room for it.
-- Assumes nothing.
use mathlib.Core.Path.{◌≡◌, refl, sym, ap}
use Prim.Native.Nat.{ℕ, zero, suc, ◌≤◌}
use native.Mathlib.Omega.{arith}
use mathlib.Core.Bool.{Bool, true, false, cond}
use mathlib.Core.List.{List, [], ◌∷◌, ◌++◌}
use lib.ListN.{length, take, drop, length-append, length-take}
use lib.Seq.{length-take-le}
use lib.Dec.{leb}
use borrow.Author.Tests.{le-leb}
use Rattle.std.specs.Prelude.{Option, None, Some}
use Rattle.lists.specs.Lists.{part}
use Rattle.lists.proofs.Parts.{length_part}
use Rattle.records.specs.Joining.{unfinished, held_in}
use Rattle.record_server.specs.declared.taking.Put.{Put}
use Rattle.record_server.specs.InnerTaking.{held_by, Within, room_for}

-- the first bytes of a list stand at its front
pub front-take : (n : ℕ) (l : List ℕ) → take n l ++ drop (length (take n l)) l ≡ l
front-take zero l = refl
front-take (suc n) [] = refl
front-take (suc n) (b ∷ l) = ap (λ (m : List ℕ). b ∷ m) (front-take n l)

-- ---- what a call finds there

module _ (memory : List ℕ) (n : ℕ) where
  pub held-front : held_in memory n ++ drop (length (held_in memory n)) memory ≡ memory
  held-front = go (unfinished (take n memory))
    where
      go : (t : Bool) → cond t (take n memory) [] ++ drop (length (cond t (take n memory) [])) memory ≡ memory
      go true = front-take n memory
      go false = refl

  pub held-few : length (held_in memory n) ≤ n
  held-few = go (unfinished (take n memory))
    where
      go : (t : Bool) → length (cond t (take n memory) []) ≤ n
      go true = rw (length-take n memory) (omega arith)
      go false = omega arith

  pub held-unfinished : unfinished (held_in memory n) ≡ true
  held-unfinished = go (unfinished (take n memory)) refl
    where
      go : (t : Bool) → unfinished (take n memory) ≡ t → unfinished (cond t (take n memory) []) ≡ true
      go true e = e
      go false e = refl

-- ---- room for what is to be held

pub held-room : (keep : Option Put) (memory held bytes : List ℕ) → Within keep memory bytes → held ++ drop (length held) memory ≡ memory
    → room_for keep (length memory) ≡ leb (length (held_by keep memory held bytes)) (length memory)
held-room None memory held bytes within h = sym (le-leb (length held) (length memory) (omega (arith, simp length-append at (ap length h))))
held-room (Some k) memory held bytes within h =
    rw (length-append (take k.at memory) (part k.from k.len bytes), length-take-le k.at memory within.0, length_part bytes k.from k.len within.1)
