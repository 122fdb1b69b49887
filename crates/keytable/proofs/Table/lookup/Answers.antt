-- `keytable::Table::lookup`: a count past the list is refused; else the line that the search found decides, and without one there is no key.
use Rattle.std.proofs.Common.{rules, arith, ◌≡◌, ◌<◌, ◌∙◌, sym, ap, take, length, List, ℕ, Err}
use Rattle.refusal.proofs.Laws.{refuses-answers}
use Rattle.refusal.specs.declared.Refusal.TheVariants.{BadList, UnknownPskIdentity}
use Rattle.keytable.specs.Starts.{placed}
use Rattle.keytable.proofs.Spots.{found, key-listed, key-unlisted, looked-past, looked-within, front-is}
use Rattle.keytable.proofs.Table.lookup.Goals as goal

pub returns-in_err-list : goal.returns-in_err-list
returns-in_err-list c =
    let a = c.args in
    let none = c.in_err-list.ensures.ok_part in
    let told : c.from_residual.result ≡ Err c.in_err-list.field-0.0 = search rules in
    let past : length a.self.starts.now < a.self.count = let l = rw none at c.get.ensures.lookup.0 in omega (arith, l) in
    let is : c.in_err-list.field-0.0 ≡ BadList = let v = rw none at c.in_err-list.ensures.value in cc in
    rw (told, is, looked-past a.self.bytes.now _ _ a.identity.now past) (refuses-answers _ _)

pub returns-in_err-hit : goal.returns-in_err-hit
returns-in_err-hit c =
    let a = c.args in
    let list = rw c.in_ok-list.ensures.ok_part at c.get.ensures.lookup.0 in
    let front = front-is a.self.starts.now a.self.count list.2 in
    let none = c.in_err-hit.ensures.ok_part in
    let told : c.from_residual-in_err-hit.result ≡ Err c.in_err-hit.field-0.0 = search rules in
    let is : c.in_err-hit.field-0.0 ≡ UnknownPskIdentity = let v = rw none at c.in_err-hit.ensures.value in cc in
    let searched = c.first_line.ensures ∙ ap (placed 0 a.identity.now a.self.bytes.now) front in
    rw (
      told,
      is,
      looked-within a.self.bytes.now _ _ a.identity.now list.1,
      key-unlisted a.self.bytes.now a.identity.now (take a.self.count a.self.starts.now) (sym searched ∙ none),
    )
    (refuses-answers _ _)

pub slice_bounds-key_into-count : goal.slice_bounds-key_into-count
slice_bounds-key_into-count c =
    let a = c.args in
    (found a.self.bytes.now a.identity.now 0 c.in_ok-list.list.now _ _ _ (sym c.first_line.ensures ∙ c.in_ok-hit.ensures.ok_part)).ordered

pub slice_bounds-key_into-start : goal.slice_bounds-key_into-start
slice_bounds-key_into-start c =
    let a = c.args in
    (found a.self.bytes.now a.identity.now 0 c.in_ok-list.list.now _ _ _ (sym c.first_line.ensures ∙ c.in_ok-hit.ensures.ok_part)).ordered

pub slice_bounds-key_into-end : goal.slice_bounds-key_into-end
slice_bounds-key_into-end c =
    let a = c.args in
    (found a.self.bytes.now a.identity.now 0 c.in_ok-list.list.now _ _ _ (sym c.first_line.ensures ∙ c.in_ok-hit.ensures.ok_part)).within

pub returns : goal.returns
returns c =
    let a = c.args in
    let list = rw c.in_ok-list.ensures.ok_part at c.get.ensures.lookup.0 in
    let front = front-is a.self.starts.now a.self.count list.2 in
    let starts : List ℕ = take a.self.count a.self.starts.now in
    let searched = sym (c.first_line.ensures ∙ ap (placed 0 a.identity.now a.self.bytes.now) front) ∙ c.in_ok-hit.ensures.ok_part in
    let at = found a.self.bytes.now a.identity.now 0 starts _ _ _ searched in
    rw (
      looked-within a.self.bytes.now _ _ a.identity.now list.1,
      key-listed a.self.bytes.now a.identity.now starts c.in_ok-hit.hit.from c.in_ok-hit.hit.to at,
    )
    c.key_into.ensures
