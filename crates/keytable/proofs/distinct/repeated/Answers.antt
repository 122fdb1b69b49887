-- `keytable::distinct::repeated`: a line passed has another identity, as its bucket is another, or its tag, or its bytes are.
use Rattle.std.proofs.Common.{◌≡◌, ◌<◌, ◌-◌, ◌∙◌, sym, ℕ, suc, arith, get_or, false}
use Rattle.lists.specs.Lists.{same}
use Rattle.keytable.specs.Inner.{identity_at}
use Rattle.keytable.proofs.Apart.{one_hit}
use Rattle.keytable.proofs.Chains.{begins-own, other_tag, walk_begins, walk-on, walk_ends}
use Rattle.keytable.proofs.distinct.repeated.Goals as goal
use Rattle.keytable.proofs.distinct.repeated.Goals.{else-tags-line-via-then-tags-line+else-begins, else-tags-line-via-else-tags-line}

pub loop-c-init : goal.loop-c-init
loop-c-init c = walk_begins _ _ _ _ _ c.requires.latest

pub returns-then-begins : goal.returns-then-begins
returns-then-begins c =
    let a = c.args in
    let below : c.loop-c.c - 1 < a.n = omega (arith, c.loop-c.invariant.few) in
    one_hit a.table.now a.starts.now a.identity.now (c.loop-c.c - 1) (omega (arith, c.requires.n_in_bounds)) _ below
    (sym (begins-own a.identity.now _ c.requires.identity_value (c.requires.chained _ below).valid) ∙ sym c.begins.ensures ∙ c.if-begins.true)

pub loop-c-preserved : goal.loop-c-preserved
loop-c-preserved c =
    let a = c.args in
    let k : ℕ = c.loop-c.c - 1 in
    let here : c.loop-c.c ≡ suc k = omega arith in
    let linked = c.requires.chained k (omega (arith, c.loop-c.invariant.few)) in
    let other : same a.identity.now (identity_at a.table.now (get_or a.starts.now k 0)) ≡ false =
    elim c.else-tags-line.branch [
      | else-tags-line-via-then-tags-line+else-begins w ↦
          sym (begins-own a.identity.now _ c.requires.identity_value linked.valid) ∙ sym w.begins.ensures ∙ w.if-begins.false
      | else-tags-line-via-else-tags-line w ↦
          other_tag a.table.now a.starts.now a.identity.now a.n k _ _ linked.tagged c.requires.tag_value w.if-tags-line.false
    ] in
    walk-on a.table.now a.starts.now a.identity.now a.n k _ _ here linked.link other c.loop-c.invariant

pub returns : goal.returns
returns c = sym (walk_ends _ _ _ _ _ (omega arith) c.requires.n_in_bounds c.loop-c.invariant)
