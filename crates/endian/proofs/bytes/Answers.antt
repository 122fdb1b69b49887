-- `endian::bytes`: one byte more, in front of those that are written.
use Rattle.std.proofs.Common.{◌≡◌, ℕ, ◌+◌, ◌-◌, ◌/◌, ◌%◌, ◌^◌, ◌<◌, List, length, drop, set, ◌∙◌, arith, mul_comm, add-one}
use Rattle.std.proofs.lemmas.List.{drop-set}
use Rattle.std.proofs.Math.Nat.{div-div-eq-div-mul}
use native.Mathlib.Nat.{pow-succ'}
use lib.ListN.{length-set}
use Rattle.endian.specs.Number.{be}
use Rattle.endian.proofs.bytes.Goals as goal

-- the byte at i, behind which the last w stand
one-more : (i j w v n left : ℕ) (bytes : List ℕ) → j ≡ i + 1 → v ≡ w + 1 → i < length bytes → drop j bytes ≡ be w n → left ≡ n / 256 ^ w
    → (drop i (set bytes i (left % 256)) ≡ be v n) × (left / 256 ≡ n / 256 ^ v)
one-more i j w v n left bytes ej ev inside written rest =
    let behind = rw ej at written in
    rw (ev, rest, add-one w) (
      rw (drop-set bytes i (n / 256 ^ w % 256) inside, behind),
      rw (pow-succ' 256 w, mul_comm 256 (256 ^ w), div-div-eq-div-mul n (256 ^ w) 256),
    )

pub loop-i-preserved : goal.loop-i-preserved
loop-i-preserved g c =
    let l = c.loop-i in
    let i = l.i - 1 in
    let more = one-more i l.i (g.row.N - l.i) (g.row.N - i) c.args.n l.left l.bytes (omega arith) (omega arith) (omega arith) l.invariant.1 l.invariant.2 in
    (length-set l.bytes i (l.left % 256) ∙ l.invariant.0, more.0, more.1)
