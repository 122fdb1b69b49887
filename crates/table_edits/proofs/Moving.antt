-- Starts that were moved within their list, and then shifted where they stand. Assumes nothing.
use Rattle.std.proofs.Common.{arith, ◌≡◌, sym, ap, ap₂, ◌∙◌, ℕ, ◌+◌, ◌≤◌, List, ◌++◌, map, take, drop, length, append-nil, append_assoc, length-take-le, length-drop}
use Rattle.std.proofs.lemmas.List.{take-map, drop_all}
use lib.Seq.{paste, take_at, drop_at, drop-drop, drop-paste, take_all}
use borrow.Rule.Slice.PartMut.{put_mid}

-- the n starts from `from` on were moved to `to`, and all of them are shifted
pub moved-shifted : (f : ℕ → ℕ) (s ys : List ℕ) (from to n k i : ℕ) → to ≤ from → from + n ≤ length s → k ≡ n → n ≤ i
    → ys ≡ map f (take i (take k (drop to (paste s to (drop from s) n)))) ++ drop i (take k (drop to (paste s to (drop from s) n)))
    → put_mid to k (paste s to (drop from s) n) ys ≡ take to s ++ take n (map f (drop from s)) ++ drop (to + n) s
moved-shifted f s ys from to n k i h inside same done e =
    (λ j. front j ++ (shifted j ++ behind j)) ∙ sym (append_assoc (take to s) (take n (map f (drop from s))) (drop (to + n) s))
  where
    moved : List ℕ
    moved = take n (drop from s)

    long : length moved ≡ n
    long = length-take-le n (drop from s) (simp length-drop (omega arith))

    ahead : length (take to s) ≡ to
    ahead = length-take-le to s (omega arith)

    whole : paste s to (drop from s) n ≡ take to s ++ (moved ++ drop (to + n) s)
    whole = append_assoc (take to s) moved (drop (to + n) s)

    front : take to (paste s to (drop from s) n) ≡ take to s
    front = ap (take to) whole ∙ take_at (take to s) (moved ++ drop (to + n) s) to ahead

    part : take k (drop to (paste s to (drop from s) n)) ≡ moved
    part = ap (λ (l : List ℕ). take k (drop to l)) whole ∙ ap (take k) (drop_at (take to s) (moved ++ drop (to + n) s) to ahead) ∙ take_at moved (drop (to + n) s) k (omega (arith, long))

    shifted : ys ≡ take n (map f (drop from s))
    shifted =
        e ∙ (λ j. map f (take i (part j)) ++ drop i (part j))
        ∙ ap₂ (λ (a : List ℕ) (b : List ℕ). map f a ++ b) (take_all i moved (omega (arith, long))) (drop_all i moved (omega (arith, long)))
        ∙ append-nil (map f moved) ∙ sym (take-map f n (drop from s))

    behind : drop k (drop to (paste s to (drop from s) n)) ≡ drop (to + n) s
    behind =
        drop-drop k to (paste s to (drop from s) n) ∙ ap (λ (j : ℕ). drop (to + j) (paste s to (drop from s) n)) same
        ∙ drop-paste s to (drop from s) n (omega arith) (simp length-drop (omega arith))
