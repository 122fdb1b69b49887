-- `keytable::checks::read_line`: each test that fails is one of the definition's, and the two places are where it looks.
use Rattle.std.proofs.Common.{rules, ◌∙◌, sym, arith}
use Rattle.keytable.specs.Table.{plain, hex_digit}
use Rattle.keytable.proofs.Reading.{other-colon, other-end, key-unsized, identity-unsized, line-there}
use Rattle.keytable.proofs.Matching.{next-is, next-other, next-same}
use Rattle.keytable.proofs.checks.read_line.Goals as goal
use Rattle.keytable.proofs.checks.read_line.Goals.{else-sized_key-via-then-sized_key+else-sized_identity, else-sized_key-via-else-sized_key}

pub returns-then-ne : goal.returns-then-ne
returns-then-ne c =
    other-colon _ _ _ (c.class_end-colon.ensures.value plain (λ b said k. search rules))
    (next-other _ _ c.ne.ensures (next-is c.get.result _ _ (c.get.ensures.lookup.4 (omega arith) 0) (omega arith)) c.if-ne.true)

pub returns-then-ne-2 : goal.returns-then-ne-2
returns-then-ne-2 c =
    other-end _ _ _ (c.class_end-colon.ensures.value plain (λ b said k. search rules)) _ (c.class_end-end.ensures.value hex_digit (λ b said k. search rules))
    (next-other _ _ c.ne-2.ensures (next-is c.get-2.result _ _ (c.get-2.ensures.lookup.4 (omega arith) 0) (omega arith)) c.if-ne-2.true)

pub returns-then-sized_identity : goal.returns-then-sized_identity
returns-then-sized_identity c =
    line-there _ _ _ (c.class_end-colon.ensures.value plain (λ b said k. search rules)) _ (c.class_end-end.ensures.value hex_digit (λ b said k. search rules))
    (next-same _ _ c.ne.ensures (next-is c.get.result _ _ (c.get.ensures.lookup.4 (omega arith) 0) (omega arith)) c.if-ne.false)
    (next-same _ _ c.ne-2.ensures (next-is c.get-2.result _ _ (c.get-2.ensures.lookup.4 (omega arith) 0) (omega arith)) c.if-ne-2.false)
    (sym c.sized_key.ensures ∙ c.if-sized_key.true)
    (sym c.sized_identity.ensures ∙ c.if-sized_identity.true)

pub returns-else-sized_key : goal.returns-else-sized_key
returns-else-sized_key c =
    let colon = c.class_end-colon.ensures.value plain (λ b said k. search rules) in
    let end = c.class_end-end.ensures.value hex_digit (λ b said k. search rules) in
    elim c.else-sized_key.branch [
      | else-sized_key-via-then-sized_key+else-sized_identity w ↦ identity-unsized _ _ _ colon _ end (sym w.sized_identity.ensures ∙ w.if-sized_identity.false)
      | else-sized_key-via-else-sized_key w ↦ key-unsized _ _ _ colon _ end (sym c.sized_key.ensures ∙ w.if-sized_key.false)
    ]
