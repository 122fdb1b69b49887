-- How many blocks a digest takes: by the length of the message alone, and the same whether a whole message is parsed or absorbed in parts.
-- Assumes nothing.
use mathlib.Core.Path.{◌≡◌, refl, ap, ◌∙◌}
use Prim.Native.Nat.{ℕ, zero, suc, ◌+◌, ◌/◌, ◌%◌, ◌≤◌}
use native.Mathlib.Omega.{arith}
use mathlib.Core.List.{List, ◌++◌}
use lib.ListN.{length, take, drop, length-append, length-replicate}
use lib.Seq.{length-take-le}
use Rattle.sha256_block.specs.Blocks.{blocks, parse}
use Rattle.sha256.specs.declared.Sha256.{Sha256}
use Rattle.sha256.specs.Message.{pad, padding, zeros}
use Rattle.sha256.specs.Hash.{limit}
use Rattle.sha256.specs.State.{absorb, fresh}
use Rattle.sha256.specs.Report.{blocks_of, compressed}
use Rattle.sha256.proofs.Absorb.{absorb-count}
use Rattle.sha256.proofs.Finish.{absorb-size}

length-blocks : (n : ℕ) (m : List ℕ) → length (blocks n m) ≡ n
unfolding blocks
length-blocks zero m = refl
length-blocks (suc n) m = ap suc (length-blocks n (drop 64 m))

length-parse : (m : List ℕ) → length (parse m) ≡ length m / 64
unfolding parse
length-parse m = length-blocks (length m / 64) m

length-padding : (n : ℕ) → length (padding n) ≡ 9 + zeros n
length-padding n = simp (length-append, length-replicate) (omega arith)

-- a message of n bytes: its own, the byte 80 and the eight bytes of its length, in whole blocks
pub blocks-of-length : (m : List ℕ) → blocks_of m ≡ (length m + 72) / 64
unfolding blocks_of pad
blocks-of-length m =
    length-parse (m ++ padding (length m)) ∙ rw (length-append m (padding (length m)), length-padding (length m)) (omega arith)

-- the same of a hash under way, by how much it has absorbed
pub compressed-count : (s : Sha256) → length s.block ≡ 64 → compressed s ≡ (s.count + 72) / 64
unfolding compressed
compressed-count s l =
    let front = take (s.count % 64) s.block in
    let held : length front ≡ s.count % 64 = length-take-le (s.count % 64) s.block (omega arith) in
    rw (length-parse (front ++ padding s.count), length-append front (padding s.count), held, length-padding s.count) (omega arith)

pub compressed-absorbed : (s : Sha256) (m : List ℕ) → s ≡ absorb fresh m → length m ≤ limit → compressed s ≡ blocks_of m
unfolding fresh
compressed-absorbed s m e h =
    let count : (absorb fresh m).count ≡ length m = absorb-count fresh m (omega arith) ∙ omega arith in
    rw (e, compressed-count (absorb fresh m) (absorb-size fresh m (omega arith) refl), count, blocks-of-length m)
