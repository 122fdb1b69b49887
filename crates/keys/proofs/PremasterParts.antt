-- The premaster secret, part behind part.
-- Assumes nothing.
use mathlib.Core.Path.{◌≡◌, ap, ◌∙◌}
use Prim.Native.Nat.{ℕ, ◌+◌, ◌*◌}
use native.Mathlib.Omega.{arith}
use mathlib.Core.List.{List, ◌++◌, append_assoc}
use lib.ListN.{length, take, replicate, length-replicate}
use Rattle.endian.specs.Number.{be}
use Rattle.keys.specs.Secrets.{premaster_bytes}

-- what four copies, each behind the last, leave at the front
pub premaster-parts : (psk size zeros a b c d : List ℕ) → size ≡ be 2 (length psk) → zeros ≡ replicate (length psk) 0
    → take (0 + length size) a ≡ size
    → take (2 + length zeros) b ≡ take 2 a ++ zeros
    → take (2 + length psk + length size) c ≡ take (2 + length psk) b ++ size
    → take (4 + length psk + length psk) d ≡ take (4 + length psk) c ++ psk
    → take (4 + 2 * length psk) d ≡ premaster_bytes psk
unfolding premaster_bytes
premaster-parts psk size zeros a b c d es ez ea eb ec ed =
    let n = length psk in
    let two : length size ≡ 2 = ap length es in
    let many : length zeros ≡ n = ap length ez ∙ length-replicate n 0 in
    let first : take 2 a ≡ size = rw two at ea in
    let second : take (2 + n) b ≡ take 2 a ++ zeros = rw many at eb in
    let four : 2 + n + 2 ≡ 4 + n = omega arith in
    let third : take (4 + n) c ≡ take (2 + n) b ++ size = rw (two, four) at ec in
    let all : 4 + 2 * n ≡ 4 + n + n = omega arith in
    rw (all, ed, third, second, first, ez, es)
    (append_assoc (be 2 n ++ replicate n 0) (be 2 n) psk ∙ append_assoc (be 2 n) (replicate n 0) (be 2 n ++ psk))
