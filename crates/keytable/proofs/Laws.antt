-- A line more or less: of two well-formed tables, the second being the first without one line, lookup gives the same for every identity but that
-- line's own. Assumes nothing.
use mathlib.Core.Path.{◌≡◌, refl, sym, ap, ◌∙◌}
use Prim.Native.Nat.{ℕ}
use native.Mathlib.Omega.{arith}
use mathlib.Core.Bool.{Bool, true, false, cond}
use mathlib.Core.List.{List, [], ◌∷◌, ◌++◌, map, append_assoc, map-append}
use lib.Dec.{eqb}
use Rattle.std.specs.Prelude.{None, Some}
use Rattle.lists.specs.Lists.{each, Each}
use Rattle.keytable.specs.Table.{line_end, colon, upto, past, before, lines, identity_of, valid_identity, valid_key, valid_line, ended, well_formed}
use Rattle.keytable.specs.Table.{decoded, key_text, or_else, first_text, key_of_text, key_of}
use Rattle.keytable.specs.WellFormed.{HexDigit, Line, ValidLine, text, WellFormed, LineRemoved}
use Rattle.lists.proofs.Tests.{and_left, and_right}
use Rattle.keytable.proofs.Tests.{key-sound}
use Rattle.lists.proofs.Every.{every_map, each_append, every-middle}
use Rattle.lists.proofs.Distinct.{distinct-middle}
use Rattle.keytable.proofs.Texts.{Without, upto-append, past-append, lines_end, parted, line_of, valid-parted, text-cons, ended-text}
use Rattle.keytable.proofs.Texts.{digit-no-colon, identity-no-colon, hex-no-colon, line-no-end}
use Rattle.keytable.proofs.Lines.{lines_cons}
use Rattle.keytable.proofs.Agreement.{identities-sound, line-sound, well-formed-tests}
use Rattle.keytable.proofs.Lookups.{own-text, other_text, key-is}
use Rattle.keytable.proofs.Spots.{first-append}

-- ---- lists of lines

lines-append : (a b : List ℕ) → ended a ≡ true → lines (a ++ b) ≡ lines a ++ lines b
lines-append [] b h = refl
lines-append (c ∷ []) b h = rw h
lines-append (c ∷ d ∷ a) b h = go (eqb c line_end) (lines (d ∷ a)) refl (lines-append (d ∷ a) b h)
  where
    go : (t : Bool) (ls : List (List ℕ)) → lines (d ∷ a) ≡ ls → lines (d ∷ a ++ b) ≡ lines (d ∷ a) ++ lines b
        → cond t ([] ∷ lines (d ∷ a ++ b)) (before c (lines (d ∷ a ++ b))) ≡ cond t ([] ∷ lines (d ∷ a)) (before c (lines (d ∷ a))) ++ lines b
    go true ls e ih = ap (λ (r : List (List ℕ)). [] ∷ r) ih
    go false [] e ih = let z : ◌≡◌ {A = ℕ} 0 1 = cc (lines_cons (d ∷ a) (omega arith)) in absurd (omega arith)
    go false (l ∷ ls) e ih = rw ih (rw e)

-- valid lines with other identities have nothing for this one
none_in : (i : List ℕ) (ls : List (List ℕ)) → each valid_line ls ≡ true → Each (λ x. ¬ (i ≡ x)) (map identity_of ls) → first_text i ls ≡ None
none_in i [] v d = refl
none_in i (l ∷ ls) v d =
    let good = and_left (valid_line l) (each valid_line ls) v in
    let p = line-sound l good in
    let m : key_text i l ≡ None =
    ap (key_text i) (sym (valid-parted l good))
    ∙ other_text i (upto colon l) (past colon l) d.0 (identity-no-colon (parted l) p) (hex-no-colon (parted l) p) in
    rw m (none_in i ls (and_right (valid_line l) (each valid_line ls) v) d.1)

module _ (identity t t' : List ℕ) (r : LineRemoved identity t t') (h : well_formed t ≡ true) where
  abbrev removed : List ℕ
  removed = identity ++ (colon ∷ r.hex)

  lines-first : lines t ≡ lines r.front ++ (removed ∷ lines r.back)
  lines-first =
      ap lines (r.first ∙ ap (λ (l : List ℕ). r.front ++ l) (sym (append_assoc identity (colon ∷ r.hex) (line_end ∷ r.back))))
      ∙ lines-append r.front (removed ++ (line_end ∷ r.back)) r.starts
      ∙ ap (λ (ls : List (List ℕ)). lines r.front ++ ls) (lines_end removed r.back r.one_line)

  lines-second : lines t' ≡ lines r.front ++ lines r.back
  lines-second = ap lines r.second ∙ lines-append r.front r.back r.starts

  all_valid : each valid_line (lines r.front ++ (removed ∷ lines r.back)) ≡ true
  all_valid = ap (each valid_line) (sym lines-first) ∙ (well-formed-tests t h).3

  identity-is : identity_of removed ≡ identity
  identity-is = upto-append colon identity r.hex r.one-colon

  hex-is : past colon removed ≡ r.hex
  hex-is = past-append colon identity r.hex r.one-colon

  others : Each (λ x. ¬ (identity ≡ x)) (map identity_of (lines r.front)) × Each (λ x. ¬ (identity ≡ x)) (map identity_of (lines r.back))
  others =
      distinct-middle (map identity_of (lines r.front)) identity (map identity_of (lines r.back))
      (rw (← identities) (identities-sound (map identity_of (lines t)) (well-formed-tests t h).4))
    where
      identities : map identity_of (lines t) ≡ map identity_of (lines r.front) ++ (identity ∷ map identity_of (lines r.back))
      identities =
          ap (map identity_of) lines-first ∙ map-append identity_of (lines r.front) (removed ∷ lines r.back)
          ∙ ap (λ (i : List ℕ). map identity_of (lines r.front) ++ (i ∷ map identity_of (lines r.back))) identity-is

  front-valid : each valid_line (lines r.front) ≡ true
  front-valid = (each_append valid_line (lines r.front) (removed ∷ lines r.back) all_valid).0

  rest-valid : each valid_line (removed ∷ lines r.back) ≡ true
  rest-valid = (each_append valid_line (lines r.front) (removed ∷ lines r.back) all_valid).1

  removed-valid : valid_line removed ≡ true
  removed-valid = and_left (valid_line removed) (each valid_line (lines r.back)) rest-valid

  key-valid : valid_key r.hex ≡ true
  key-valid = ap valid_key (sym hex-is) ∙ and_right (valid_identity (identity_of removed)) (valid_key (past colon removed)) removed-valid

  none-front : first_text identity (lines r.front) ≡ None
  none-front = none_in identity (lines r.front) front-valid others.0

  -- the first table has that line's key for its identity
  pub removed-had : key_of t identity ≡ Some (decoded r.hex)
  unfolding key_of
  removed-had =
      ap (λ (ls : List (List ℕ)). key_of_text (first_text identity ls)) lines-first
      ∙ ap key_of_text (first-append identity (lines r.front) (removed ∷ lines r.back))
      ∙ rw (none-front, own-text identity r.hex) (key-is r.hex key-valid)

  -- the second has none
  pub removed-gone : key_of t' identity ≡ None
  unfolding key_of
  removed-gone =
      ap (λ (ls : List (List ℕ)). key_of_text (first_text identity ls)) lines-second
      ∙ ap key_of_text (first-append identity (lines r.front) (lines r.back))
      ∙ rw (none-front, none_in identity (lines r.back) (and_right (valid_line removed) (each valid_line (lines r.back)) rest-valid) others.1)

  -- for every other identity the two agree
  pub removed-else : (other : List ℕ) → ¬ (other ≡ identity) → key_of t other ≡ key_of t' other
  unfolding key_of
  removed-else other differ =
      ap (λ (ls : List (List ℕ)). key_of_text (first_text other ls)) lines-first
      ∙ ap key_of_text
      (first-append other (lines r.front) (removed ∷ lines r.back) ∙ middle ∙ sym (first-append other (lines r.front) (lines r.back)))
      ∙ ap (λ (ls : List (List ℕ)). key_of_text (first_text other ls)) (sym lines-second)
    where
      hex-colonless : Without colon r.hex
      hex-colonless = every_map HexDigit _ digit-no-colon r.hex (key-sound r.hex key-valid).digits

      middle : or_else (first_text other (lines r.front)) (first_text other (removed ∷ lines r.back))
          ≡ or_else (first_text other (lines r.front)) (first_text other (lines r.back))
      middle = rw (other_text other identity r.hex differ r.one-colon hex-colonless)

-- ---- every line can be removed

text-append : (xs ys : List Line) → text (xs ++ ys) ≡ text xs ++ text ys
text-append [] ys = refl
text-append (x ∷ xs) ys =
    text-cons x (xs ++ ys) ∙ ap (λ (r : List ℕ). line_of x ++ (line_end ∷ r)) (text-append xs ys)
    ∙ sym (append_assoc (line_of x) (line_end ∷ text xs) (text ys))
    ∙ ap (λ (r : List ℕ). r ++ text ys) (sym (text-cons x xs))

pub removable : (t : List ℕ) (w : WellFormed t) (xs : List Line) (l : Line) (ys : List Line) → w.lines ≡ xs ++ (l ∷ ys)
    → LineRemoved l.identity t (text (xs ++ ys))
removable t w xs l ys e =
    let v : ValidLine l = every-middle ValidLine xs l ys (rw e at w.valid) in
    record {
      front = text xs;
      hex = l.hex;
      back = text ys;
      starts = ended-text xs;
      one_line = line-no-end l v;
      one-colon = identity-no-colon l v;
      first = w.is ∙ ap text e ∙ text-append xs (l ∷ ys);
      second = text-append xs ys;
    }
