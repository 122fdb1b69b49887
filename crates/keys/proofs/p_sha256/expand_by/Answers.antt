-- `keys::p_sha256::expand_by`: the HMAC of A(i) is A(i + 1), that of A(i + 1) and the seed the next part, and the blocks of both come to the others.
use Rattle.std.proofs.Common.{rules, ◌≡◌, ◌+◌, ◌≤◌, ◌++◌, length, arith, refl, ◌∙◌}
use Rattle.keys.specs.Prf.{a_of, p_hash, text}
use Rattle.keys.specs.Counts.{p_hash_blocks}
use Rattle.keys.specs.Inner.{Macs}
use Rattle.keys.proofs.HmacSteps.{ends}
use Rattle.keys.proofs.Lengths.{length-mac, length-a_of}
use Rattle.keys.proofs.PrfSteps.{labelled-size, a-size, next-a, next-part, next-count, blocks-enough, counts-enough}
use Rattle.keys.proofs.p_sha256.expand_by.Goals as goal

pub loop-i-init : goal.loop-i-init
unfolding p_hash p_hash_blocks
loop-i-init g c = (refl, λ h. absurd (omega arith), refl, omega arith)

pub loop-i-preserved : goal.loop-i-preserved
loop-i-preserved g c =
    let secret = c.args.secret.now in
    let label = c.args.label in
    let seed = text label ++ c.args.seed.now in
    let i = c.loop-i.i in
    let made : Macs secret (a_of secret seed i) c.end-next.result =
    ends (c.requires.keys _ c.keyed-k.ensures).hashes (c.with_a.ensures secret c.loop-i.invariant.1)
    (a-size secret label c.args.seed.now i c.requires.seed_len_bound) c.end-next.ensures.by_index in
    let next = next-a secret seed i made in
    let front : length (a_of secret seed (i + 1)) ≤ 32 = rw (length-a_of secret seed i) (omega arith) in
    let part : Macs secret (a_of secret seed (i + 1) ++ seed) c.end-part.result =
    ends (c.requires.keys _ c.keyed-j.ensures).hashes (c.labelled.ensures ∙ rw next)
    (labelled-size (a_of secret seed (i + 1)) label c.args.seed.now front c.requires.seed_len_bound) c.end-part.ensures.by_index in
    let size : length c.end-part.result.value ≡ 32 = rw part.value (length-mac secret (a_of secret seed (i + 1) ++ seed)) in (
      next-part secret seed _ _ _ i c.loop-i.invariant.0 part.value (rw size at c.append.ensures),
      λ _. next,
      next-count secret seed i c.loop-i.invariant.2 (search rules) (search rules),
      omega arith,
    )

pub returns : goal.returns
returns g c =
    let whole = c.loop-i.invariant in record {
      buffer_after = blocks-enough _ _ _ _ _ (omega arith) (omega arith) whole.0;
      value = counts-enough _ _ _ _ _ (omega arith) (omega arith) whole.2;
    }
