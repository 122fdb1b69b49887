-- `table_edits::put_digits`: what stands behind the digits is moved to where the new ones end, and these are put in their place.
-- Assumes nothing.
use Rattle.std.proofs.Common.{arith, rules, Err, ◌≡◌, ◌∙◌, sym, ap₂, ℕ, List, ◌+◌, ◌-◌, ◌*◌, ◌≤◌, length, take, length-take-le}
use borrow.Rule.Slice.PartMut.{put_mid}
use Rattle.table_edits.specs.Edits.{lower_hex}
use Rattle.table_edits.specs.Inner.{spliced}
use Rattle.table_edits.proofs.Digits.{length-hex}
use Rattle.table_edits.proofs.Writing.{length-spliced, digits-written}
use Rattle.table_edits.proofs.Outcomes.{size-refused, size-good, answered}
use Rattle.table_edits.proofs.put_digits.Goals as goal

-- the table that there is to be
abbrev table : List ℕ → ℕ → ℕ → ℕ → List ℕ → List ℕ
table memory n from to key = spliced from to (lower_hex key) (take n memory)

new-length : (memory : List ℕ) (n from to : ℕ) (key : List ℕ) → n ≤ length memory → from ≤ to → to ≤ n
    → length (table memory n from to key) ≡ from + 2 * length key + (n - to)
new-length memory n from to key inside ordered within =
    let size = length-take-le n memory inside in
    omega (arith, length-spliced from to (lower_hex key) (take n memory) (omega arith), length-hex key)

pub returns : goal.returns
returns c =
    let a = c.args in
    let memory = a.memory.now in
    let t = table memory a.length a.from a.to a.key.now in
    let end = a.from + 2 * length a.key.now in
    let size = new-length memory a.length a.from a.to a.key.now (omega arith) (omega arith) (omega arith) in
    let fits = size-good t memory (end + (a.length - a.to)) size (sym c.judge_size.ensures ∙ c.in_ok-judge_size.was) in
    let digits = length-hex a.key.now in
    rw fits.0
    (answered t memory _ (end + (a.length - a.to)) size fits.1
    (ap₂ (put_mid a.from (end - a.from)) c.copy_within.ensures.after c.put_key.ensures
    ∙ digits-written memory a.from a.to a.length (omega arith) (omega arith) (omega arith) (lower_hex a.key.now) end (omega arith) fits.1))

pub returns-in_err-judge_size : goal.returns-in_err-judge_size
returns-in_err-judge_size c =
    let a = c.args in
    let size = new-length a.memory.now a.length a.from a.to a.key.now (omega arith) (omega arith) (omega arith) in
    let told : c.from_residual.result ≡ Err c.in_err-judge_size.field-0.0 = search rules in
    rw told (size-refused _ _ _ size _ (sym c.judge_size.ensures ∙ c.in_err-judge_size.was))
