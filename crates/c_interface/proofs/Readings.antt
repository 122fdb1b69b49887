-- From what a layout reader said to the code that comes back and the fields that are left.
-- Assumes nothing.
use mathlib.Core.Path.{◌≡◌, refl, ◌∙◌}
use Prim.Native.Nat.{ℕ, ◌<◌, ◌^◌}
use mathlib.Core.List.{List, [], ◌∷◌}
use lib.ListN.{get_or}
use lib.IntN.{ℤ}
use lib.Signed.{mag}
use mir.Syntax.{w32}
use mir.Val.{to_z, of_z}
use Rattle.std.specs.Prelude.{Option, None, Some}
use Rattle.refusal.specs.declared.Refusal.{Refusal}
use Rattle.refusal.specs.declared.Refusal.TheVariants.{DecodeError}
use Rattle.layout.specs.declared.Part.{Part}
use Rattle.c_interface.specs.Codes.{refusal_code, rejected, Reading, Reads}
use Rattle.c_interface.specs.Fields.{part_read, block_fields}
use Rattle.c_interface.proofs.Signed.{handed-on}

-- a reading that a function handed on
pub reads-reading : {wanted : Reading} {fields fields' : List ℕ} {result : ℤ} → Reads wanted fields result fields'
    → mag result < 2 ^ 31 → Reads wanted fields (to_z w32 (of_z w32 result)) fields'
reads-reading {result = result} r fits = record { told = handed-on result fits ∙ r.told; left = r.left }

pub refusal-read : (r : Refusal) {fields : List ℕ} {result : ℤ} → mag result < 2 ^ 31 → result ≡ refusal_code r
    → Reads (rejected r) fields (to_z w32 (of_z w32 result)) fields
refusal-read r {result = result} fits e = record { told = handed-on result fits ∙ e; left = refl }

pub part-refused : {p : Option Part} {fields fields' : List ℕ} {result : ℤ} → p ≡ None → mag result < 2 ^ 31 → result ≡ refusal_code DecodeError
    → fields' ≡ fields → Reads (part_read p) fields (to_z w32 (of_z w32 result)) fields'
part-refused e fits told left = rw (e, left) (refusal-read DecodeError fits told)

-- the three fields of a block, one by one
pub three-fields : (b : Option Part) (xs : List ℕ) → xs ≡ block_fields b → (get_or xs 0 0 ∷ get_or xs 1 0 ∷ get_or xs 2 0 ∷ []) ≡ block_fields b
three-fields None xs e = rw e
three-fields (Some p) xs e = rw e
