-- The list of an edited table, as it comes from the list that the table had (document 02, P6). Assumes nothing.
use mathlib.Core.Path.{◌≡◌, ap, fun_ext, ◌∙◌}
use Prim.Native.Nat.{ℕ, ◌+◌, ◌-◌}
use native.Mathlib.Nat.{add-zero}
use native.Mathlib.Omega.{arith}
use mathlib.Core.Bool.{true}
use mathlib.Core.List.{List, [], ◌∷◌, ◌++◌, map}
use lib.ListN.{length, take, drop}
use Rattle.lists.specs.Lists.{same, Distinct}
use Rattle.lists.proofs.Equal.{same_refl}
use Rattle.refusal.specs.Lent.{gives}
use Rattle.keytable.specs.Table.{lines, identity_of}
use Rattle.keytable.specs.Starts.{starts_from, starts_of}
use Rattle.keytable.proofs.Agreement.{identities-sound, well-formed-tests}
use Rattle.table_edits.specs.Edits.{Edit, add, replace, retire, is_line_of, lines_after, line_with, edited}
use Rattle.table_edits.specs.Inner.{shifted}
use Rattle.table_edits.proofs.Starts.{changed-starts, removed-starts}
use Rattle.table_edits.proofs.Ends.{unbroken-after}
use Rattle.table_edits.proofs.Outcomes.{added-list}
use Rattle.table_edits.proofs.Places.{replaced-there, retired-there}
use Rattle.table_edits.proofs.Laws.{accepted, lines_after_lem}

-- one start more: where the table ended
pub starts-added : (i k t t' : List ℕ) → edited (add i k) t ≡ gives t' → starts_of t' ≡ starts_of t ++ (length t ∷ [])
starts-added i k t t' h =
    let a = accepted (add i k) t t' h in
    let (size, end, few, good, other) = well-formed-tests t a.formed in
    ap starts_of a.text ∙ added-list t i k end (unbroken-after (add i k) (lines t) a.named good)

-- the identity's line, between others
module _ (i t : List ℕ) (xs : List (List ℕ)) (l : List ℕ) (ys : List (List ℕ)) (split : lines t ≡ xs ++ (l ∷ ys)) (own : identity_of l ≡ i) where
  is-own : is_line_of i l ≡ true
  is-own = ap (same i) own ∙ same_refl i

  apart : (e : Edit) (t' : List ℕ) → edited e t ≡ gives t' → Distinct (map identity_of (xs ++ (l ∷ ys)))
  apart e t' h = rw split at (identities-sound (map identity_of (lines t)) (well-formed-tests t (accepted e t t' h).formed).4)

  -- the starts behind a line whose key is replaced move by as much as the line grows or shrinks
  pub starts-replaced : (k t' : List ℕ) → edited (replace i k) t ≡ gives t'
      → starts_of t' ≡ take (length xs + 1) (starts_of t) ++ map (shifted (length l) (length (line_with i k))) (drop (length xs + 1) (starts_of t))
  starts-replaced k t' h =
      ap (starts_from 0) (lines_after_lem (replace i k) t t' h ∙ ap (lines_after (replace i k)) split
      ∙ replaced-there i xs l ys is-own (apart (replace i k) t' h) k)
      ∙ rw (← split) at (changed-starts xs l ys (length l) (length (line_with i k)) (omega arith) (line_with i k) (omega arith))

  -- the start of a line that is retired is gone, and those behind it move by the line with its 0A
  pub starts-retired : (t' : List ℕ) → edited (retire i) t ≡ gives t'
      → starts_of t' ≡ take (length xs) (starts_of t) ++ map (λ s. s - (length l + 1)) (drop (length xs + 1) (starts_of t))
  starts-retired t' h =
      ap (starts_from 0) (lines_after_lem (retire i) t t' h ∙ ap (lines_after (retire i)) split ∙ retired-there i xs l ys is-own (apart (retire i) t' h))
      ∙ rw (← split) at (removed-starts xs l ys (length l + 1) 0 (omega arith) (omega arith))
      ∙ ap (λ (f : ℕ → ℕ). take (length xs) (starts_of t) ++ map f (drop (length xs + 1) (starts_of t))) (fun_ext (λ s. add-zero (s - (length l + 1))))
