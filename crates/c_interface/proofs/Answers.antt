-- From what a call below said to the code that comes back.
-- Assumes nothing.
use mathlib.Core.Path.{◌≡◌, refl, ap, ◌∙◌}
use Prim.Native.Nat.{ℕ, ◌≤◌, ◌<◌, ◌^◌, zero-le}
use native.Mathlib.Omega.{arith}
use mathlib.Core.Bool.{Bool, true, false, cond}
use mathlib.Core.List.{List}
use lib.ListN.{length}
use lib.Dec.{leb}
use lib.IntN.{ℤ}
use lib.Signed.{mag}
use mir.Syntax.{w32}
use mir.Val.{to_z, of_z}
use Rattle.std.specs.Prelude.{Result, Ok, Err}
use Rattle.refusal.specs.declared.Refusal.{Refusal}
use Rattle.refusal.specs.declared.Refusal.TheVariants.{ShortOutput}
use Rattle.refusal.specs.Lent.{Outcome, gives, refuses, within, answer, Answers}
use Rattle.table_edits.specs.Edits.{EditsBoth}
use Rattle.c_interface.specs.Codes.{coded, refusal_code, report_after, Codes, CodesBoth}
use Rattle.c_interface.specs.Inner.{count}
use Rattle.c_interface.proofs.Signed.{handed-on}

pub codes-answer : {wanted : Outcome} {out out' : List ℕ} {said : Result ℕ Refusal} {result : ℤ} → Answers wanted out said out'
    → mag result < 2 ^ 31 → result ≡ coded said → Codes wanted out (to_z w32 (of_z w32 result)) out'
codes-answer {result = result} a fits e = record { told = handed-on result fits ∙ e ∙ ap coded a.told; left = a.left }

-- of a call that reports a number: it is written where bytes were, and stays where there was a refusal
pub report-wrote : (o : Outcome) (reports old : ℕ) {said : Result ℕ Refusal} {n blocks : ℕ} → said ≡ answer o → said ≡ Ok n → blocks ≡ reports
    → blocks ≡ report_after o reports old
report-wrote (gives bytes) reports old told wrote e = e
report-wrote (refuses r) reports old told wrote e = let z : ◌≡◌ {A = ℕ} 0 1 = cc in absurd (omega arith)

pub report-refused : (o : Outcome) (reports old : ℕ) {said : Result ℕ Refusal} {r : Refusal} → said ≡ answer o → said ≡ Err r
    → old ≡ report_after o reports old
report-refused (gives bytes) reports old told refused = let z : ◌≡◌ {A = ℕ} 0 1 = cc in absurd (omega arith)
report-refused (refuses r) reports old told refused = refl

-- of an edit, which leaves a list too
pub codes-edit : {wanted : Outcome} {memory starts memory' starts' : List ℕ} {n n' : ℕ} {said : Result ℕ Refusal} {result : ℤ}
    → EditsBoth wanted memory starts n said memory' starts' n' → mag result < 2 ^ 31 → result ≡ coded said
    → CodesBoth wanted memory starts n (to_z w32 (of_z w32 result)) memory' starts' n'
codes-edit a fits e = record { table = codes-answer a.table fits e; list = a.list; counted = a.counted }

pub refusal-codes : {r : Refusal} {out : List ℕ} {result : ℤ} → mag result < 2 ^ 31 → result ≡ refusal_code r
    → Codes (refuses r) out (to_z w32 (of_z w32 result)) out
refusal-codes {result = result} fits e = record { told = handed-on result fits ∙ e; left = refl }

-- what a function handed on
pub codes-codes : {wanted : Outcome} {out out' : List ℕ} {result : ℤ} → Codes wanted out result out' → mag result < 2 ^ 31
    → Codes wanted out (to_z w32 (of_z w32 result)) out'
codes-codes {result = result} c fits = record { told = handed-on result fits ∙ c.told; left = c.left }

-- ---- a count that 31 bits hold

-- the bytes that there are to be written
abbrev pub size : Outcome → ℕ
size (gives bytes) = length bytes
size (refuses r) = 0

answer-count-most : (room : ℕ) (wanted : Outcome) → count (answer (within room wanted)) ≤ size wanted
answer-count-most room (refuses r) = zero-le
answer-count-most room (gives bytes) = go (leb (length bytes) room)
  where
    go : (t : Bool) → count (answer (cond t (gives bytes) (refuses ShortOutput))) ≤ length bytes
    go true = omega arith
    go false = zero-le

pub answer-count-small : {wanted : Outcome} {out out' : List ℕ} {said : Result ℕ Refusal} → Answers wanted out said out' → size wanted < 2 ^ 31
    → count said < 2 ^ 31
answer-count-small {wanted} {out} a h = rw a.told (let n = answer-count-most (length out) wanted in omega arith)
