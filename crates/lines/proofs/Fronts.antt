-- Reading to the front of lent memory, and then behind what was read.
-- Assumes nothing.
use Rattle.std.proofs.Common.{◌≡◌, ℕ, ◌+◌, ◌-◌, ◌≤◌, List, ◌++◌, length, take, drop, sym, ◌∙◌, append-nil, arith, length-append, length-drop, length-take-le, drop-drop, drop_at}
use lib.Seq.{drop-length}
use borrow.Rule.Slice.PartMut.{mid_of, put_mid, Post-is}
use Rattle.lists.proofs.Parts.{part_to_end}
use Rattle.lines.specs.Front.{Front}

-- behind a front that was read stands another
front-more : (first out last : List ℕ) (at n : ℕ) → Front at first out → Front n (drop at out) last → Front (at + n) first (take at out ++ last)
front-more first out last at n before next =
    let front : length (take at out) ≡ at = length-take-le at out (rw before.size before.inside) in
    let size : length last ≡ length first - at = next.size ∙ length-drop at out ∙ rw before.size in
    let room : n ≤ length first - at = rw (← size, next.size) next.inside in
    let start : at ≤ length first = before.inside in
    record {
      inside = omega arith;
      size = rw (length-append (take at out) last, front, size) (omega arith);
      behind =
          sym (drop-drop n at (take at out ++ last))
          ∙ rw (drop_at (take at out) last at front, next.behind, drop-drop n at out)
          (rw (← drop-drop n at out, ← drop-drop n at first, before.behind));
    }

-- so where what stands behind the first front is lent, and comes back as it was left
pub front-lent : (first out last : List ℕ) (at n : ℕ) → Front at first out → Front n (mid_of at (length out - at) out) last
    → Front (at + n) first (put_mid at (length out - at) out last)
front-lent first out last at n before next =
    let inside : at ≤ length out = rw before.size before.inside in
    rw (Post-is at (length out) out inside, drop-length out, append-nil last)
    (front-more first out last at n before (rw (part_to_end out at) at next))
