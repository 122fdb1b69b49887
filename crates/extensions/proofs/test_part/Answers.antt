-- `extensions::test_part`: what a pass says of all is what it says of the extension here and those behind it (Flags).
use Rattle.std.proofs.Common.{ℕ, ◌≡◌, ◌+◌, ◌/◌, ◌%◌, ◌∙◌, List, refl, sym, ap, drop, zero-le}
use lib.ListN.{set, length-set}
use Rattle.extensions.specs.declared.Pass.{Pass}
use Rattle.extensions.specs.Extensions.{adding, extensions_in}
use Rattle.extensions.specs.Parts.{pass_over}
use Rattle.extensions.proofs.Blocks.{ext_at, Found, step-found, step-refused}
use Rattle.extensions.proofs.Flags.{pass_in, pass-over, pass-repeat, pass-marked, pass-other}
use Rattle.extensions.proofs.test_part.Goals as goal

-- what the pass says of all, where the extension at `at` is found
judged : {block : List ℕ} {at kind start len : ℕ} (words : List ℕ) (nearest part : ℕ) (said : Pass) → Found block at kind start len
    → pass_in words nearest part (extensions_in (drop at block)) ≡ pass_over part (extensions_in block)
    → pass_in words nearest part (adding (ext_at block kind start len) (extensions_in (drop (start + len) block))) ≡ said
    → said ≡ pass_over part (extensions_in block)
judged words nearest part said found before e = sym (sym before ∙ ap (pass_in words nearest part) found.left ∙ e)

pub loop-kind-init : goal.loop-kind-init
loop-kind-init c = (zero-le, refl, pass-over c.args.part (extensions_in c.args.block.now))

pub returns-then-word-bit-ne0 : goal.returns-then-word-bit-ne0
returns-then-word-bit-ne0 c =
    let l = c.loop-kind in
    let found = step-found c.args.block.now l.at _ _ _ (sym c.next.ensures ∙ c.in-Extension.is) in
    judged l.words l.nearest c.args.part _ found l.invariant.2 (pass-repeat l.words l.nearest c.args.part _ _ c.if-own-part.true c.if-word-bit-ne0.true)

pub loop-kind-preserved-else-word-bit-ne0 : goal.loop-kind-preserved-else-word-bit-ne0
loop-kind-preserved-else-word-bit-ne0 c =
    let l = c.loop-kind in
    let x = c.in-Extension in
    let block = c.args.block.now in
    let found = step-found block l.at _ _ _ (sym c.next.ensures ∙ x.is) in
    let word = ap (λ (y : ℕ). pass_in (set l.words (x.kind / 64 % 128) y) l.nearest c.args.part (extensions_in (drop (x.start + x.len) block))) c.with_bit.ensures in
    let rest = pass-marked l.words l.nearest c.args.part (ext_at block x.kind x.start x.len) _ c.if-own-part.true c.if-word-bit-ne0.false in
    (found.inside, length-set l.words _ _ ∙ l.invariant.1, word ∙ judged l.words l.nearest c.args.part _ found l.invariant.2 rest)

pub loop-kind-preserved : goal.loop-kind-preserved
loop-kind-preserved c =
    let l = c.loop-kind in
    let x = c.in-Extension in
    let block = c.args.block.now in
    let found = step-found block l.at _ _ _ (sym c.next.ensures ∙ x.is) in
    let closer = ap (λ (n : ℕ). pass_in l.words n c.args.part (extensions_in (drop (x.start + x.len) block))) c.nearer-nearest.ensures in
    let other = pass-other l.words l.nearest c.args.part (ext_at block x.kind x.start x.len) _ c.if-own-part.false in
    (found.inside, l.invariant.1, closer ∙ judged l.words l.nearest c.args.part _ found l.invariant.2 other)

pub returns-in-Refused : goal.returns-in-Refused
returns-in-Refused c =
    let e = step-refused c.args.block.now c.loop-kind.at (sym c.next.ensures ∙ c.in-Refused.is) in
    sym (ap (pass_in c.loop-kind.words c.loop-kind.nearest c.args.part) e) ∙ c.loop-kind.invariant.2
