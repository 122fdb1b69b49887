-- `keys::p_sha256::with_a`: A(0) is the label and the seed.
use Rattle.keys.specs.Prf as Prf
use Rattle.keys.proofs.p_sha256.with_a.Goals as goal

pub returns-then-i-eq0 : goal.returns-then-i-eq0
unfolding Prf.a_of
returns-then-i-eq0 c secret known = rw c.if-i-eq0.true c.labelled.ensures
