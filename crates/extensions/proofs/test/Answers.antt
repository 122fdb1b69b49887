-- `extensions::test`: a pass shows the types of its part to be distinct, and of those up to the nearest that has any; the eight parts are all types (Flags).
use Rattle.std.proofs.Common.{rules, ◌∙◌, sym, refl, arith}
use native.Mathlib.Decide.{dec_lt}
use Rattle.endian.specs.Number.{Bytes}
use Rattle.extensions.specs.Extensions.{extensions_in}
use Rattle.extensions.proofs.Flags.{pass-holds, pass-fails, parts-ruled}
use Rattle.extensions.proofs.test.Goals as goal

pub loop-part-smaller : goal.loop-part-smaller
loop-part-smaller c = omega (arith, pass-holds c.loop-part.part _ (extensions_in c.args.block.now) (omega arith) (sym c.test_part.ensures ∙ c.in-Holds.is))

pub loop-part-preserved : goal.loop-part-preserved
loop-part-preserved c =
    let passed = pass-holds c.loop-part.part _ (extensions_in c.args.block.now) (omega arith) (sym c.test_part.ensures ∙ c.in-Holds.is) in (
      passed.inside,
      λ p h. elim (dec_lt p c.loop-part.part) [
        | yes before ↦ c.loop-part.invariant.1 p before
        | no from ↦ passed.holds p (omega arith) h
      ],
    )

pub returns-in-Fails : goal.returns-in-Fails
returns-in-Fails c = sym (pass-fails c.loop-part.part (extensions_in c.args.block.now) (sym c.test_part.ensures ∙ c.in-Fails.is))

pub returns : goal.returns
returns c =
    let block = c.args.block.now in
    let bytes : Bytes block = λ i. search rules in
    sym (parts-ruled block (extensions_in block) bytes refl (λ p h. c.loop-part.invariant.1 p (omega arith)))
