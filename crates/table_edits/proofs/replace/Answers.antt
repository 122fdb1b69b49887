-- `table_edits::replace`: a key in the place of another, not listed, or what the tests refuse.
use Rattle.std.proofs.Common.{rules, arith, ◌≡◌, ◌∙◌, sym, ap, Err, Ok, List, ℕ, take}
use Rattle.keytable.specs.Table.{valid_secret}
use Rattle.table_edits.specs.Edits.{replace, lower_hex}
use Rattle.table_edits.specs.Inner.{spliced, place_in}
use Rattle.table_edits.proofs.Both.{both-kept, both-refused, both-bounded}
use Rattle.table_edits.proofs.Outcomes.{edit-refused}
use Rattle.table_edits.proofs.Results.{found-sizes, found-counts, found-starts, found-key, replaced-count, replaced-list, replace-listed, replace_absent}
use Rattle.table_edits.proofs.replace.Goals as goal

pub returns-in_err-found : goal.returns-in_err-found
returns-in_err-found c =
    let a = c.args in
    let told : c.from_residual.result ≡ Err c.in_err-found.field-0.0 = search rules in
    rw (told, edit-refused a.memory.now a.length a.starts.now a.count.now (replace a.identity.now a.key.now) _ (ap (place_in a.memory.now a.length a.starts.now a.count.now a.identity.now) (sym c.valid_secret.ensures) ∙ sym c.locate.ensures ∙ c.in_err-found.was))
    (both-kept a.memory.now a.starts.now a.count.now _)

pub returns-in_default : goal.returns-in_default
returns-in_default c =
    let a = c.args in
    rw (replace_absent a.memory.now a.length a.starts.now a.count.now a.identity.now a.key.now (ap (place_in a.memory.now a.length a.starts.now a.count.now a.identity.now) (sym c.valid_secret.ensures) ∙ sym c.locate.ensures ∙ c.in_ok-found.was ∙ ap Ok c.in_default.is))
    (both-kept a.memory.now a.starts.now a.count.now _)

pub put_digits-requires : goal.put_digits-requires
put_digits-requires c =
    let a = c.args in
    let s = found-sizes a.memory.now a.length a.starts.now a.count.now a.identity.now (valid_secret a.key.now) _ _ _ (ap (place_in a.memory.now a.length a.starts.now a.count.now a.identity.now) (sym c.valid_secret.ensures) ∙ sym c.locate.ensures ∙ c.in_ok-found.was ∙ ap Ok c.in-Some.is) in
    record {
      length_len_bound = s.0;
      length_len_bound_2 = s.1;
      from_le_to = s.3;
      to_in_bounds = omega (arith, s.4);
      key_bound = search rules;
    }

pub returns-in_err-n : goal.returns-in_err-n
returns-in_err-n c =
    let a = c.args in
    let told : c.from_residual-in_err-n.result ≡ Err c.in_err-n.field-0.0 = search rules in
    rw (told, replace-listed a.memory.now a.length a.starts.now a.count.now a.identity.now a.key.now _ _ _ (ap (place_in a.memory.now a.length a.starts.now a.count.now a.identity.now) (sym c.valid_secret.ensures) ∙ sym c.locate.ensures ∙ c.in_ok-found.was ∙ ap Ok c.in-Some.is))
    (both-refused a.memory.now a.starts.now a.count.now _ _ _ _ c.in_err-n.was c.put_digits.ensures)

pub overflow_add-line : goal.overflow_add-line
overflow_add-line c =
    let a = c.args in
    let s = found-counts a.memory.now a.length a.starts.now a.count.now a.identity.now (valid_secret a.key.now) _ _ _ (ap (place_in a.memory.now a.length a.starts.now a.count.now a.identity.now) (sym c.valid_secret.ensures) ∙ sym c.locate.ensures ∙ c.in_ok-found.was ∙ ap Ok c.in-Some.is) in
    search rules

pub overflow_add-line-2 : goal.overflow_add-line-2
overflow_add-line-2 c =
    let a = c.args in
    let s = found-counts a.memory.now a.length a.starts.now a.count.now a.identity.now (valid_secret a.key.now) _ _ _ (ap (place_in a.memory.now a.length a.starts.now a.count.now a.identity.now) (sym c.valid_secret.ensures) ∙ sym c.locate.ensures ∙ c.in_ok-found.was ∙ ap Ok c.in-Some.is) in
    search rules

pub overflow_add-from : goal.overflow_add-from
overflow_add-from c =
    let a = c.args in
    let s = found-sizes a.memory.now a.length a.starts.now a.count.now a.identity.now (valid_secret a.key.now) _ _ _ (ap (place_in a.memory.now a.length a.starts.now a.count.now a.identity.now) (sym c.valid_secret.ensures) ∙ sym c.locate.ensures ∙ c.in_ok-found.was ∙ ap Ok c.in-Some.is) in
    let few = found-key a.memory.now a.length a.starts.now a.count.now a.identity.now a.key.now _ _ _ (ap (place_in a.memory.now a.length a.starts.now a.count.now a.identity.now) (sym c.valid_secret.ensures) ∙ sym c.locate.ensures ∙ c.in_ok-found.was ∙ ap Ok c.in-Some.is) in
    search rules

pub follow-requires : goal.follow-requires
follow-requires c =
    let a = c.args in
    let s = found-sizes a.memory.now a.length a.starts.now a.count.now a.identity.now (valid_secret a.key.now) _ _ _ (ap (place_in a.memory.now a.length a.starts.now a.count.now a.identity.now) (sym c.valid_secret.ensures) ∙ sym c.locate.ensures ∙ c.in_ok-found.was ∙ ap Ok c.in-Some.is) in
    let few = found-key a.memory.now a.length a.starts.now a.count.now a.identity.now a.key.now _ _ _ (ap (place_in a.memory.now a.length a.starts.now a.count.now a.identity.now) (sym c.valid_secret.ensures) ∙ sym c.locate.ensures ∙ c.in_ok-found.was ∙ ap Ok c.in-Some.is) in
    let counts = found-counts a.memory.now a.length a.starts.now a.count.now a.identity.now (valid_secret a.key.now) _ _ _ (ap (place_in a.memory.now a.length a.starts.now a.count.now a.identity.now) (sym c.valid_secret.ensures) ∙ sym c.locate.ensures ∙ c.in_ok-found.was ∙ ap Ok c.in-Some.is) in
    let behind = found-starts a.memory.now a.length a.starts.now a.count.now a.identity.now (valid_secret a.key.now) _ _ _ (ap (place_in a.memory.now a.length a.starts.now a.count.now a.identity.now) (sym c.valid_secret.ensures) ∙ sym c.locate.ensures ∙ c.in_ok-found.was ∙ ap Ok c.in-Some.is) in
    record {
      to_le_from = omega arith;
      from_le_count = counts.0;
      count_in_bounds = counts.1;
      bound = omega (arith, s.1, s.4);
      bound_2 = omega (arith, s.1, s.3, s.4);
      starting = behind _ (omega arith);
    }

pub returns : goal.returns
returns c =
    let a = c.args in
    let h = c.in-Some.field-0 in
    let t : List ℕ = spliced h.from h.to (lower_hex a.key.now) (take a.length a.memory.now) in
    let is = ap (place_in a.memory.now a.length a.starts.now a.count.now a.identity.now) (sym c.valid_secret.ensures) ∙ sym c.locate.ensures ∙ c.in_ok-found.was ∙ ap Ok c.in-Some.is in
    rw (replace-listed a.memory.now a.length a.starts.now a.count.now a.identity.now a.key.now h.line h.from h.to is)
    (both-bounded a.memory.now a.starts.now a.count.now t _ _ _ _
    (c.follow.ensures ∙ replaced-list a.memory.now a.length a.starts.now a.count.now a.identity.now a.key.now h.line h.from h.to is)
    (replaced-count a.memory.now a.length a.starts.now a.count.now a.identity.now a.key.now h.line h.from h.to is) _ c.in_ok-n.was c.put_digits.ensures)
