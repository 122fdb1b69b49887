-- `sha256::Sha256::finish_counted`: past the limit it refuses; else the bytes are the padded value's, or there is no room for them.
use Rattle.std.proofs.Common.{rules, ◌≡◌, Ok, Err}
use borrow.Author.Tests.{lt-leb, le-leb}
use Rattle.refusal.specs.Lent.{gives}
use Rattle.refusal.specs.declared.Refusal.TheVariants.{BadValue}
use Rattle.refusal.proofs.Laws.{refuses-answers}
use Rattle.sha256.specs.State.{finished}
use Rattle.sha256.proofs.Sha256.finish_counted.Goals as goal

pub returns-then-self-gt-LIMIT-clause-answers : goal.returns-then-self-gt-LIMIT-clause-answers
unfolding finished
returns-then-self-gt-LIMIT-clause-answers c = rw (lt-leb _ _ c.if-self-gt-LIMIT.true) (refuses-answers BadValue _)

pub returns-in_err-len-clause-answers : goal.returns-in_err-len-clause-answers
unfolding finished
returns-in_err-len-clause-answers c =
    let given : gives c.concatenation-bytes.result ≡ finished c.args.self = rw (le-leb _ _ c.if-self-gt-LIMIT.false, c.concatenation-bytes.ensures, c.padded-last.ensures.words_value) in
    let told : c.from_residual.result ≡ Err c.in_err-len.field-0.0 = search rules in
    let refused : c.put.result ≡ Err c.in_err-len.field-0.0 = c.in_err-len.was in
    rw told (rw (given, refused) at c.put.ensures)

pub returns-clause-answers : goal.returns-clause-answers
unfolding finished
returns-clause-answers c =
    let given : gives c.concatenation-bytes.result ≡ finished c.args.self = rw (le-leb _ _ c.if-self-gt-LIMIT.false, c.concatenation-bytes.ensures, c.padded-last.ensures.words_value) in
    let wrote : c.put.result ≡ Ok c.in_ok-len.len = c.in_ok-len.was in
    rw (given, wrote) at c.put.ensures
