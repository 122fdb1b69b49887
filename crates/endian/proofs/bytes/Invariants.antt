-- `endian::bytes`: the last bytes are written, and what is left of the number has those in front.
use Rattle.std.proofs.Common.{◌≡◌, ◌-◌, ◌/◌, ◌^◌, drop, length}
use Rattle.endian.specs.Number.{be}
use Rattle.endian.proofs.bytes.Given as goal

abbrev pub invariant-loop-i : goal.invariant-loop-i
invariant-loop-i g l =
    (length l.bytes ≡ g.row.N) × (drop l.i l.bytes ≡ be (g.row.N - l.i) l.n) × (l.left ≡ l.n / 256 ^ (g.row.N - l.i))
