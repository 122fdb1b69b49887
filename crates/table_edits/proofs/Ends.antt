-- The lines of an edited table are those that it was made of, whatever numbers the key has: a 0A is no digit, and stands in no valid line.
-- Assumes nothing.
use mathlib.Core.Path.{◌≡◌, refl, ap, ◌∙◌}
use Prim.Native.Nat.{ℕ, ◌+◌, ◌-◌, ◌/◌, ◌%◌}
use native.Mathlib.Omega.{arith}
use mathlib.Core.Bool.{Bool, true, false, cond, not}
use mathlib.Core.List.{List, [], ◌∷◌}
use lib.Dec.{eqb, ltb}
use borrow.Author.Tests.{ne_eqb, eqb-false, not-true}
use Rattle.lists.specs.Lists.{each}
use Rattle.lists.proofs.Tests.{and_left, and_right}
use Rattle.lists.proofs.Every.{each-sound, each-complete, every_append, every_map}
use Rattle.keytable.specs.Table.{line_end, colon, joined, valid_identity, valid_line, valid_secret}
use Rattle.keytable.specs.WellFormed.{Plain}
use Rattle.keytable.proofs.Tests.{identity-sound}
use Rattle.keytable.proofs.Texts.{Without, lines_end, parted, valid-parted, line-no-end}
use Rattle.keytable.proofs.Agreement.{line-sound}
use Rattle.table_edits.specs.Edits.{Edit, add, replace, retire, line_with, lower_digit, lower_hex, lines_after, allowed}
use Rattle.table_edits.specs.Inner.{Unbroken}
use Rattle.table_edits.proofs.After.{others-each, replaced-each, each_snoc}

-- a line without 0A, as a test
abbrev no_end : List ℕ → Bool
no_end l = each (λ b. not (eqb b line_end)) l

no_end_lem : (l : List ℕ) → Without line_end l → no_end l ≡ true
no_end_lem l h = each-complete (λ b. not (eqb b line_end)) (λ b. ¬ (b ≡ line_end)) (λ b f. rw (ne_eqb b line_end f)) l h

whole-lines : (ls : List (List ℕ)) → each no_end ls ≡ true → Unbroken ls
whole-lines [] h = refl
whole-lines (l ∷ ls) h =
    let clean : Without line_end l =
    each-sound (λ b. not (eqb b line_end)) (λ b. ¬ (b ≡ line_end)) (λ b f. eqb-false b line_end (not-true (eqb b line_end) f)) l
    (and_left (no_end l) (each no_end ls) h) in
    lines_end l (joined ls) clean ∙ ap (λ (r : List (List ℕ)). l ∷ r) (whole-lines ls (and_right (no_end l) (each no_end ls) h))

-- ---- a valid line, and one that is made

valid-no-end : (l : List ℕ) → valid_line l ≡ true → no_end l ≡ true
valid-no-end l h = no_end_lem l (rw (valid-parted l h) at (line-no-end (parted l) (line-sound l h)))

digit-no-end : (n : ℕ) → ¬ (lower_digit n ≡ line_end)
digit-no-end n = go (ltb n 10)
  where
    go : (b : Bool) → ¬ (cond b (0x30 + n) (0x61 + (n - 10)) ≡ line_end)
    go true e = omega arith
    go false e = omega arith

hex-no-end : (key : List ℕ) → Without line_end (lower_hex key)
hex-no-end [] = tt
hex-no-end (b ∷ key) = (digit-no-end (b / 16), (digit-no-end (b % 16), hex-no-end key))

made-no-end : (i k : List ℕ) → valid_identity i ≡ true → no_end (line_with i k) ≡ true
made-no-end i k named =
    no_end_lem (line_with i k)
    (every_append _ i (colon ∷ lower_hex k) (every_map Plain _ (λ b h e. omega (arith, h.high)) i (identity-sound i named).plain)
    ((λ e. omega arith), hex-no-end k))

-- ---- the lines after an edit

pub unbroken-after : (e : Edit) (ls : List (List ℕ)) → allowed e ≡ true → each valid_line ls ≡ true → Unbroken (lines_after e ls)
unbroken-after e ls ok good = whole-lines (lines_after e ls) (go e ok)
  where
    clean : each no_end ls ≡ true
    clean = each-complete no_end (λ l. valid_line l ≡ true) valid-no-end ls (each-sound valid_line (λ l. valid_line l ≡ true) (λ l h. h) ls good)

    go : (x : Edit) → allowed x ≡ true → each no_end (lines_after x ls) ≡ true
    go (add i k) ok = each_snoc no_end ls (line_with i k) clean (made-no-end i k (and_left (valid_identity i) (valid_secret k) ok))
    go (replace i k) ok = replaced-each i no_end k ls (made-no-end i k (and_left (valid_identity i) (valid_secret k) ok)) clean
    go (retire i) ok = others-each i no_end ls clean
