-- `table_edits::add`: listed already, a line more, or what the tests refuse.
use Rattle.std.proofs.Common.{rules, ◌≡◌, ◌∙◌, sym, ap, Err, Ok}
use Rattle.table_edits.specs.Edits.{add}
use Rattle.table_edits.specs.Inner.{place_in}
use Rattle.table_edits.proofs.Both.{both-kept}
use Rattle.table_edits.proofs.Outcomes.{edit-refused}
use Rattle.table_edits.proofs.Results.{add-listed, absent-sizes, absent-texts, add-absent}
use Rattle.table_edits.proofs.add.Goals as goal

pub returns-in_err-found : goal.returns-in_err-found
returns-in_err-found c =
    let a = c.args in
    let told : c.from_residual.result ≡ Err c.in_err-found.field-0.0 = search rules in
    rw (told, edit-refused a.memory.now a.length a.starts.now a.count.now (add a.identity.now a.key.now) _ (ap (place_in a.memory.now a.length a.starts.now a.count.now a.identity.now) (sym c.valid_secret.ensures) ∙ sym c.locate.ensures ∙ c.in_err-found.was))
    (both-kept a.memory.now a.starts.now a.count.now _)

pub returns-in-Some : goal.returns-in-Some
returns-in-Some c =
    let a = c.args in
    rw (add-listed a.memory.now a.length a.starts.now a.count.now a.identity.now a.key.now _ _ _ (ap (place_in a.memory.now a.length a.starts.now a.count.now a.identity.now) (sym c.valid_secret.ensures) ∙ sym c.locate.ensures ∙ c.in_ok-found.was ∙ ap Ok c.in-Some.is)) (both-kept a.memory.now a.starts.now a.count.now _)

pub append-requires : goal.append-requires
append-requires c =
    let a = c.args in
    let there = ap (place_in a.memory.now a.length a.starts.now a.count.now a.identity.now) (sym c.valid_secret.ensures) ∙ sym c.locate.ensures ∙ c.in_ok-found.was ∙ ap Ok c.in-None.is in
    let sizes = absent-sizes a.memory.now a.length a.starts.now a.count.now a.identity.now a.key.now there in
    let texts = absent-texts a.memory.now a.length a.starts.now a.count.now a.identity.now a.key.now there in
    record {
      length_len_bound = sizes.0;
      length_len_bound_2 = sizes.1;
      memory_value = texts.0;
      own_list = texts.1;
      identity_bound = sizes.2;
      key_bound = sizes.3;
      unbroken = texts.2;
    }

pub returns-in-None : goal.returns-in-None
returns-in-None c =
    let a = c.args in
    rw (add-absent a.memory.now a.length a.starts.now a.count.now a.identity.now a.key.now (ap (place_in a.memory.now a.length a.starts.now a.count.now a.identity.now) (sym c.valid_secret.ensures) ∙ sym c.locate.ensures ∙ c.in_ok-found.was ∙ ap Ok c.in-None.is)) c.append.ensures
