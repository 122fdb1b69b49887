-- `table_edits::retire`: a line less, not listed, or what the tests refuse.
use Rattle.std.proofs.Common.{rules, arith, refl, true, ◌≡◌, ◌∙◌, sym, ap, Err, Ok, List, ℕ, [], take, length, ◌+◌, ◌-◌}
use Rattle.table_edits.specs.Edits.{retire}
use Rattle.table_edits.specs.Inner.{spliced}
use Rattle.table_edits.proofs.Both.{both-kept, both-wrote}
use Rattle.table_edits.proofs.Outcomes.{edit-refused, answered}
use Rattle.table_edits.proofs.Results.{found-sizes, found-counts, found-starts, length-shorter, retired-list, retired-count, retire-listed, retire-absent}
use Rattle.table_edits.proofs.Writing.{cut_out}
use Rattle.table_edits.proofs.retire.Goals as goal

pub returns-in_err-found : goal.returns-in_err-found
returns-in_err-found c =
    let a = c.args in
    let told : c.from_residual.result ≡ Err c.in_err-found.field-0.0 = search rules in
    rw (told, edit-refused a.memory.now a.length a.starts.now a.count.now (retire a.identity.now) _ (sym c.locate.ensures ∙ c.in_err-found.was))
    (both-kept a.memory.now a.starts.now a.count.now _)

pub returns-in_default : goal.returns-in_default
returns-in_default c =
    let a = c.args in
    rw (retire-absent a.memory.now a.length a.starts.now a.count.now a.identity.now (sym c.locate.ensures ∙ c.in_ok-found.was ∙ ap Ok c.in_default.is))
    (both-kept a.memory.now a.starts.now a.count.now _)

pub overflow_sub-start : goal.overflow_sub-start
overflow_sub-start c =
    let a = c.args in
    let s = found-sizes a.memory.now a.length a.starts.now a.count.now a.identity.now true _ _ _ (sym c.locate.ensures ∙ c.in_ok-found.was ∙ ap Ok c.in-Some.is) in
    omega (arith, s.2)

pub overflow_sub-start-2 : goal.overflow_sub-start-2
overflow_sub-start-2 c =
    let a = c.args in
    let s = found-sizes a.memory.now a.length a.starts.now a.count.now a.identity.now true _ _ _ (sym c.locate.ensures ∙ c.in_ok-found.was ∙ ap Ok c.in-Some.is) in
    omega (arith, s.2)

pub overflow_add-next : goal.overflow_add-next
overflow_add-next c =
    let a = c.args in
    let s = found-sizes a.memory.now a.length a.starts.now a.count.now a.identity.now true _ _ _ (sym c.locate.ensures ∙ c.in_ok-found.was ∙ ap Ok c.in-Some.is) in
    search rules

pub copy_within-requires : goal.copy_within-requires
copy_within-requires c =
    let a = c.args in
    let s = found-sizes a.memory.now a.length a.starts.now a.count.now a.identity.now true _ _ _ (sym c.locate.ensures ∙ c.in_ok-found.was ∙ ap Ok c.in-Some.is) in
    record {
      start_le_end = omega (arith, s.4);
      in_bounds = s.0;
      dest_in_bounds = omega (arith, s.0, s.2, s.3, s.4);
      not_exhausted = search rules;
    }

pub overflow_add-line : goal.overflow_add-line
overflow_add-line c =
    let a = c.args in
    let s = found-counts a.memory.now a.length a.starts.now a.count.now a.identity.now true _ _ _ (sym c.locate.ensures ∙ c.in_ok-found.was ∙ ap Ok c.in-Some.is) in
    search rules

pub follow-requires : goal.follow-requires
follow-requires c =
    let a = c.args in
    let s = found-sizes a.memory.now a.length a.starts.now a.count.now a.identity.now true _ _ _ (sym c.locate.ensures ∙ c.in_ok-found.was ∙ ap Ok c.in-Some.is) in
    let counts = found-counts a.memory.now a.length a.starts.now a.count.now a.identity.now true _ _ _ (sym c.locate.ensures ∙ c.in_ok-found.was ∙ ap Ok c.in-Some.is) in
    let behind = found-starts a.memory.now a.length a.starts.now a.count.now a.identity.now true _ _ _ (sym c.locate.ensures ∙ c.in_ok-found.was ∙ ap Ok c.in-Some.is) in
    record {
      to_le_from = omega arith;
      from_le_count = counts.0;
      count_in_bounds = counts.1;
      bound = omega (arith, s.1, s.4);
      bound_2 = omega (arith, s.1, s.3, s.4);
      starting = behind _ (omega arith);
    }

pub overflow_sub-result : goal.overflow_sub-result
overflow_sub-result c =
    let a = c.args in
    let s = found-sizes a.memory.now a.length a.starts.now a.count.now a.identity.now true _ _ _ (sym c.locate.ensures ∙ c.in_ok-found.was ∙ ap Ok c.in-Some.is) in
    omega (arith, s.4)

pub returns : goal.returns
returns c =
    let a = c.args in
    let h = c.in-Some.field-0 in
    let start = h.from - 1 - length a.identity.now in
    let t : List ℕ = spliced start (h.to + 1) [] (take a.length a.memory.now) in
    let is = sym c.locate.ensures ∙ c.in_ok-found.was ∙ ap Ok c.in-Some.is in
    let s = found-sizes a.memory.now a.length a.starts.now a.count.now a.identity.now true h.line h.from h.to is in
    rw (retire-listed a.memory.now a.length a.starts.now a.count.now a.identity.now h.line h.from h.to start is refl)
    (both-wrote a.memory.now a.starts.now a.count.now t _ _ _ (start + (a.length - (h.to + 1)))
    (c.follow.ensures ∙ retired-list a.memory.now a.length a.starts.now a.count.now a.identity.now h.line h.from h.to start is refl)
    (retired-count a.memory.now a.length a.starts.now a.count.now a.identity.now h.line h.from h.to start is refl)
    (answered t a.memory.now _ (start + (a.length - (h.to + 1)))
    (length-shorter a.memory.now a.length a.starts.now a.count.now a.identity.now h.line h.from h.to start is refl) (omega arith)
    (c.copy_within.ensures.after ∙ cut_out a.memory.now start (h.to + 1) a.length (omega arith) (omega arith) (omega arith))))
