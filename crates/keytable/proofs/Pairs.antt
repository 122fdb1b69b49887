-- Keys as pairs of hex digits: their number and each of them.
-- Assumes nothing.
use mathlib.Core.Path.{◌≡◌, refl}
use Prim.Native.Nat.{ℕ, zero, suc, ◌+◌, ◌*◌, ◌/◌, ◌<◌}
use native.Mathlib.Omega.{arith}
use mathlib.Core.Bool.{true, ◌&&◌}
use mathlib.Core.List.{List, [], ◌∷◌}
use lib.ListN.{length, get_or}
use borrow.Author.Tests.{ltb-true}
use Rattle.lists.specs.Lists.{each}
use Rattle.keytable.specs.Table.{digit, hex_digit, decoded}
use Rattle.std.specs.Simd.{first_chunks}
use Rattle.lists.proofs.Tests.{and_left, and_right}

pub length-decoded : (s : List ℕ) → length (decoded s) ≡ length s / 2
length-decoded [] = refl
length-decoded (a ∷ []) = refl
length-decoded (a ∷ b ∷ s) = omega (arith, length-decoded s)

-- what a pair of digits stands for
pub record Pair (p : List ℕ) (byte : ℕ) : Type 0 where
  pub high : digit (get_or p 0 0) < 16
  pub low : digit (get_or p 1 0) < 16
  pub is : byte ≡ digit (get_or p 0 0) * 16 + digit (get_or p 1 0)

pair_at : (s : List ℕ) (i : ℕ) → i < length s / 2 → each hex_digit s ≡ true
    → Pair (get_or (first_chunks 2 (length s / 2) s) i []) (get_or (decoded s) i 0)
pair_at [] i h all = absurd (omega arith)
pair_at (a ∷ []) i h all = absurd (omega arith)
pair_at (a ∷ b ∷ s) i h all = rw half (go i (omega arith) (λ j k. pair_at s j k (and_right _ _ rest)))
  where
    half : suc (suc (length s)) / 2 ≡ suc (length s / 2)
    half = omega arith

    rest : (hex_digit b && each hex_digit s) ≡ true
    rest = and_right (hex_digit a) _ all

    go : (j : ℕ) → j < suc (length s / 2) → ((k : ℕ) → k < length s / 2 → Pair (get_or (first_chunks 2 (length s / 2) s) k []) (get_or (decoded s) k 0))
        → Pair (get_or ((a ∷ b ∷ []) ∷ first_chunks 2 (length s / 2) s) j []) (get_or ((digit a * 16 + digit b) ∷ decoded s) j 0)
    go zero h ih = record { high = ltb-true _ _ (and_left _ _ all); low = ltb-true _ _ (and_left _ _ rest); is = refl }
    go (suc k) h ih = ih k (omega arith)

pub pair_in : (s : List ℕ) {pairs : List (List ℕ)} (i : ℕ) → pairs ≡ first_chunks 2 (length s / 2) s → i < length s / 2 → each hex_digit s ≡ true
    → Pair (get_or pairs i []) (get_or (decoded s) i 0)
pair_in s i e h all = rw e (pair_at s i h all)
