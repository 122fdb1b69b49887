-- What comes back to C: one number for each answer, and what is left in the memory that was lent.
-- n bytes written is n (and so 0 where something is accepted), R1 to R10 are -1 to -10, and the alert a is -1000 - a.
use Rattle.std.specs.Prelude.{◌≡◌, ℕ, ◌+◌, cond, List, length, ℤ, pos, neg_ℤ, Result, Ok, Err, Option, None, Some}
use Rattle.refusal.specs.declared.Refusal.{Refusal}
use Rattle.refusal.specs.Table.{number_of, to_peer}
use Rattle.refusal.specs.Lent.{Outcome, gives, refuses, within, answer, after}
use Rattle.table_edits.specs.Edits.{starts_after, count_after}

abbrev pub refusal_code : Refusal → ℤ
refusal_code r = neg_ℤ (pos (cond (to_peer r) (1000 + number_of r) (number_of r)))

abbrev pub coded : Result ℕ Refusal → ℤ
coded (Ok n) = pos n
coded (Err r) = refusal_code r

-- ---- a call that is lent an output

-- A call that was lent `out` for the outcome `wanted` returned `result` and left `out'`.
pub record Codes (wanted : Outcome) (out : List ℕ) (result : ℤ) (out' : List ℕ) : Type 0 where
  pub told : result ≡ coded (answer (within (length out) wanted))
  pub left : out' ≡ after (within (length out) wanted) out

-- the lent number of blocks afterwards: a refusal leaves it as it was
abbrev pub report_after : Outcome → (reported blocks : ℕ) → ℕ
report_after (gives bytes) reported blocks = reported
report_after (refuses r) reported blocks = blocks

-- The same of a call that was lent a number too, to report this one in.
pub record CodesCounted (wanted : Outcome) (reported : ℕ) (out : List ℕ) (blocks : ℕ) (result : ℤ) (out' : List ℕ) (blocks' : ℕ) : Type 0 where
  pub value : Codes wanted out result out'
  pub counted : blocks' ≡ report_after (within (length out) wanted) reported blocks

-- An edit that was lent a table's memory and a list returned `result` and left memory', starts' and count'.
pub record CodesBoth (wanted : Outcome) (memory starts : List ℕ) (count : ℕ) (result : ℤ) (memory' starts' : List ℕ) (count' : ℕ) : Type 0 where
  pub table : Codes wanted memory result memory'
  pub list : starts' ≡ starts_after (within (length memory) wanted) starts
  pub counted : count' ≡ count_after (within (length memory) wanted) count

-- ---- a reader

-- what a reader is to return, and the fields if it gives any
pub record Reading : Type 0 where
  pub code : ℤ
  pub fields : Option (List ℕ)

abbrev pub accepted : List ℕ → Reading
accepted fields = record { code = pos 0; fields = Some fields }

abbrev pub rejected : Refusal → Reading
rejected r = record { code = refusal_code r; fields = None }

-- the lent fields afterwards
abbrev pub fields_after : Option (List ℕ) → List ℕ → List ℕ
fields_after None fields = fields
fields_after (Some given) fields = given

-- A reader that was lent `fields` for the reading `wanted` returned `result` and left `fields'`.
pub record Reads (wanted : Reading) (fields : List ℕ) (result : ℤ) (fields' : List ℕ) : Type 0 where
  pub told : result ≡ wanted.code
  pub left : fields' ≡ fields_after wanted.fields fields
