-- `keys::p_sha256::expand_by`: the buffer holds the first i parts, a is A(i), and the blocks of both are counted.
use Rattle.std.proofs.Common.{◌≡◌, ◌*◌, ◌^◌, ◌≤◌, ◌<◌, ◌++◌, take}
use Rattle.keys.specs.Prf.{a_of, p_hash, text}
use Rattle.keys.specs.Counts.{p_hash_blocks}
use Rattle.keys.proofs.p_sha256.expand_by.Given as goal

abbrev pub invariant-loop-i : goal.invariant-loop-i
invariant-loop-i g l =
    let seed = text l.label ++ l.seed in
    (take (32 * l.i) l.buffer ≡ p_hash l.secret seed l.i)
    × (0 < l.i → l.a ≡ a_of l.secret seed l.i)
    × (l.blocks ≡ p_hash_blocks l.secret seed l.i)
    × (l.blocks ≤ l.i * 2 ^ 59)
