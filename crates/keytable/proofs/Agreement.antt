-- The test of a table (`well_formed`) and what a well-formed table is (`WellFormed`) agree: `sound` and `complete`.
-- Assumes nothing.
use mathlib.Core.Path.{◌≡◌, refl, sym, ap, ap₂, ◌∙◌}
use Prim.Native.Nat.{ℕ, ◌≤◌}
use mathlib.Core.Bool.{true, ◌&&◌}
use mathlib.Core.List.{List, [], ◌∷◌, map}
use lib.ListN.{length, length-map}
use lib.Dec.{leb}
use borrow.Author.Tests.{leb-true, le-leb}
use Rattle.lists.specs.Lists.{each, distinct, same, Each, Distinct}
use Rattle.keytable.specs.Table.{colon, upto, past, lines, joined, identity_of, valid_identity, valid_key, valid_line, ended, well_formed}
use Rattle.keytable.specs.WellFormed.{Line, ValidLine, identity_in, WellFormed}
use Rattle.lists.proofs.Tests.{and_left, and_right, both}
use Rattle.keytable.proofs.Tests.{identity-sound, identity-complete, key-sound, key-complete}
use Rattle.keytable.proofs.Texts.{upto-append, past-append, parted, line_of, joined-lines, text-parted}
use Rattle.keytable.proofs.Texts.{identity-no-colon, lines-text, ended-text}
use Rattle.lists.proofs.Equal.{same_refl, same_not}
use Rattle.lists.proofs.Distinct.{distinct-sound, distinct-complete}

-- ---- no identity twice

pub identities-sound : (xs : List (List ℕ)) → distinct same xs ≡ true → Distinct xs
identities-sound = distinct-sound same same_refl same_not

-- ---- lines

pub line-sound : (l : List ℕ) → valid_line l ≡ true → ValidLine (parted l)
line-sound l h = record {
  identity = identity-sound (upto colon l) (and_left (valid_identity (identity_of l)) (valid_key (past colon l)) h);
  key = key-sound (past colon l) (and_right (valid_identity (identity_of l)) (valid_key (past colon l)) h);
}

lines-sound : (ls : List (List ℕ)) → each valid_line ls ≡ true → Each ValidLine (map parted ls)
lines-sound [] h = tt
lines-sound (l ∷ ls) h =
    (line-sound l (and_left (valid_line l) (each valid_line ls) h), lines-sound ls (and_right (valid_line l) (each valid_line ls) h))

identities-parted : (ls : List (List ℕ)) → map identity_in (map parted ls) ≡ map identity_of ls
identities-parted [] = refl
identities-parted (l ∷ ls) = ap (λ (r : List (List ℕ)). identity_of l ∷ r) (identities-parted ls)

module _ (l : Line) (v : ValidLine l) where
  identity-of-line : identity_of (line_of l) ≡ l.identity
  identity-of-line = upto-append colon l.identity l.hex (identity-no-colon l v)

  line-complete : valid_line (line_of l) ≡ true
  line-complete =
      both (ap valid_identity identity-of-line ∙ identity-complete l.identity v.identity)
      (ap valid_key (past-append colon l.identity l.hex (identity-no-colon l v)) ∙ key-complete l.hex v.key)

lines-complete : (ls : List Line) → Each ValidLine ls → each valid_line (map line_of ls) ≡ true
lines-complete [] h = refl
lines-complete (l ∷ ls) h = both (line-complete l h.0) (lines-complete ls h.1)

identities-of-lines : (ls : List Line) → Each ValidLine ls → map identity_of (map line_of ls) ≡ map identity_in ls
identities-of-lines [] h = refl
identities-of-lines (l ∷ ls) h =
    ap₂ (λ (i : List ℕ) (r : List (List ℕ)). i ∷ r) (identity-of-line l h.0) (identities-of-lines ls h.1)

-- ---- tables

-- the five parts of the test
pub well-formed-tests : (t : List ℕ) → well_formed t ≡ true → (leb (length t) 65536 ≡ true) × (ended t ≡ true) × (leb (length (lines t)) 256 ≡ true)
    × (each valid_line (lines t) ≡ true) × (distinct same (map identity_of (lines t)) ≡ true)
unfolding well_formed
well-formed-tests t h =
    let size = leb (length t) 65536 in
    let few = leb (length (lines t)) 256 in
    let all = each valid_line (lines t) in
    let h4 : (size && ended t && few && all) ≡ true = and_left (size && ended t && few && all) _ h in
    let h3 : (size && ended t && few) ≡ true = and_left (size && ended t && few) all h4 in
    let h2 : (size && ended t) ≡ true = and_left (size && ended t) few h3 in (
      and_left size (ended t) h2,
      and_right size (ended t) h2,
      and_right (size && ended t) few h3,
      and_right (size && ended t && few) all h4,
      and_right (size && ended t && few && all) _ h,
    )

-- valid lines of different identities, not too many and not too long, are a well-formed table
module _ (ls : List (List ℕ)) (good : each valid_line ls ≡ true) where
  pub joined-formed : distinct same (map identity_of ls) ≡ true → length ls ≤ 256 → length (joined ls) ≤ 65536 → WellFormed (joined ls)
  joined-formed other few small = record {
    lines = map parted ls;
    is = sym (text-parted ls good);
    valid = lines-sound ls good;
    distinct = rw (identities-parted ls) (identities-sound (map identity_of ls) other);
    few-lines = rw (length-map ls parted) few;
    few_bytes = small;
  }

pub sound : (t : List ℕ) → well_formed t ≡ true → WellFormed t
sound t h =
    let (size, end, few, good, other) = well-formed-tests t h in
    let small : length (joined (lines t)) ≤ 65536 = rw (joined-lines t end) (leb-true (length t) 65536 size) in
    rw (joined-lines t end) at (joined-formed (lines t) good other (leb-true (length (lines t)) 256 few) small)

pub complete : (t : List ℕ) → WellFormed t → well_formed t ≡ true
unfolding well_formed
complete t w =
    let same_lines : lines t ≡ map line_of w.lines = ap lines w.is ∙ lines-text w.lines w.valid in
    both
    (both
    (both
    (both (le-leb (length t) 65536 w.few_bytes) (ap ended w.is ∙ ended-text w.lines))
    (ap (λ (n : ℕ). leb n 256) (ap length same_lines ∙ length-map w.lines line_of) ∙ le-leb (length w.lines) 256 w.few-lines))
    (ap (each valid_line) same_lines ∙ lines-complete w.lines w.valid))
    (ap (λ (ls : List (List ℕ)). distinct same (map identity_of ls)) same_lines
    ∙ ap (distinct same) (identities-of-lines w.lines w.valid)
    ∙ distinct-complete same same_refl same_not (map identity_in w.lines) w.distinct)
