-- `keytable::distinct::begins`: the bytes are compared pair by pair, and then the next one with a colon.
use Rattle.std.proofs.Common.{rules, ◌≤◌, ◌∙◌, refl, sym, arith, length}
use borrow.Author.Tests.{tests}
use mathlib.Core.Bool.{and-false}
use lib.ListN.{drop_of_length-le}
use Rattle.std.proofs.lemmas.Iterator.{YieldsList-from_slice, YieldsList-from_zip}
use Rattle.std.proofs.lemmas.Iterator.Search.{all_from_yields_List}
use Rattle.lists.proofs.Parts.{part_to_end}
use Rattle.keytable.proofs.Matching.{next-is, alike, begins-of}
use Rattle.keytable.proofs.distinct.begins.Goals as goal

pub returns-in_default : goal.returns-in_default
returns-in_default c =
    let a = c.args in
    let past : length a.table.now ≤ a.at = omega (arith, c.in_default.ensures.lookup) in
    sym (begins-of a.identity.now a.table.now a.at (sym (drop_of_length-le a.table.now past)) refl ∙ and-false _)

pub returns-then-all : goal.returns-then-all
returns-then-all c =
    let a = c.args in
    let rest = c.in-Some.rest.now in
    let pairs = all_from_yields_List alike c.all.new.self _ c.all.result c.all.ensures.ran (YieldsList-from_zip (YieldsList-from_slice a.identity.now (cc)) (YieldsList-from_slice rest (cc))) (λ x b q k. search (rules, tests)) in
    c.eq.ensures ∙ next-is c.get-then-all.result _ _ (c.get-then-all.ensures.lookup.4 (omega arith) 0) (omega arith)
    ∙ sym (begins-of a.identity.now a.table.now a.at (c.in-Some.ensures.lookup.0.2 ∙ part_to_end a.table.now a.at) (sym c.if-all.true ∙ pairs))

pub returns-else-all : goal.returns-else-all
returns-else-all c =
    let a = c.args in
    let rest = c.in-Some.rest.now in
    let pairs = all_from_yields_List alike c.all.new.self _ c.all.result c.all.ensures.ran (YieldsList-from_zip (YieldsList-from_slice a.identity.now (cc)) (YieldsList-from_slice rest (cc))) (λ x b q k. search (rules, tests)) in
    c.if-all.false ∙ sym (begins-of a.identity.now a.table.now a.at (c.in-Some.ensures.lookup.0.2 ∙ part_to_end a.table.now a.at) (sym c.if-all.false ∙ pairs))
