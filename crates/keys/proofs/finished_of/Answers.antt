-- `keys::finished_of`: the transcript's hash, and the value over it.
use Rattle.std.proofs.Common.{rules, ◌≡◌, Err, refl}
use Rattle.refusal.proofs.Laws.{refuses-answers, sized-gives, sized-refuses}
use Rattle.keys.proofs.Lengths.{hash-sized}
use Rattle.keys.proofs.finished_of.Goals as goal

pub returns-in_err-hash_of : goal.returns-in_err-hash_of
returns-in_err-hash_of c =
    let told : c.from_residual.result ≡ Err c.in_err-hash_of.field-0.0 = search rules in
    rw (told, sized-refuses _ (hash-sized _) refl c.hash_of.ensures c.in_err-hash_of.was) (refuses-answers _ _)

pub returns : goal.returns
returns c = rw (sized-gives _ (hash-sized _) refl c.hash_of.ensures c.in_ok-hash_of.was) c.finished.ensures
