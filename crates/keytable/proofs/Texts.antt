-- The text of a list of lines, and the lines of a text.
-- Assumes nothing.
use mathlib.Core.Path.{◌≡◌, refl, sym, ap, ap₂, ◌∙◌}
use mathlib.Core.Logic.{inl, inr}
use Prim.Native.Nat.{ℕ, ◌<◌}
use native.Mathlib.Omega.{arith}
use mathlib.Core.Bool.{Bool, true, false, cond}
use mathlib.Core.List.{List, [], ◌∷◌, ◌++◌, map, append_assoc, append-nil}
use lib.ListN.{length}
use lib.Dec.{eqb}
use borrow.Author.Tests.{eq-eqb, ne_eqb, eqb-true}
use Rattle.lists.specs.Lists.{each, Each}
use Rattle.keytable.specs.Table.{line_end, colon, lines, joined, upto, past, identity_of, valid_identity, valid_key, valid_line, ended}
use Rattle.keytable.specs.WellFormed.{Plain, HexDigit, Line, ValidLine, text}
use Rattle.lists.proofs.Tests.{and_left, and_right}
use Rattle.lists.proofs.Every.{every_append, every_map}
use Rattle.keytable.proofs.Tests.{key-sound}

-- no byte of the list is x
abbrev pub Without : ℕ → List ℕ → Type 0
Without x s = Each (λ b. ¬ (b ≡ x)) s

-- ---- up to a byte that comes for the first time

pub upto-append : (x : ℕ) (s r : List ℕ) → Without x s → upto x (s ++ (x ∷ r)) ≡ s
upto-append x [] r h = rw (eq-eqb x x refl)
upto-append x (b ∷ s) r h = rw (ne_eqb b x h.0) (ap (λ (l : List ℕ). b ∷ l) (upto-append x s r h.1))

pub past-append : (x : ℕ) (s r : List ℕ) → Without x s → past x (s ++ (x ∷ r)) ≡ r
past-append x [] r h = rw (eq-eqb x x refl)
past-append x (b ∷ s) r h = rw (ne_eqb b x h.0) (past-append x s r h.1)

-- a list with something after an x is what stands before it, x, and what stands after it
rejoined : (x : ℕ) (l : List ℕ) → 0 < length (past x l) → upto x l ++ (x ∷ past x l) ≡ l
rejoined x [] h = absurd (omega arith)
rejoined x (b ∷ l) h = go (eqb b x) refl (λ k. rejoined x l k)
  where
    go : (t : Bool) → eqb b x ≡ t → (0 < length (past x l) → upto x l ++ (x ∷ past x l) ≡ l) → upto x (b ∷ l) ++ (x ∷ past x (b ∷ l)) ≡ b ∷ l
    go true e ih = rw e (ap (λ (y : ℕ). y ∷ l) (sym (eqb-true b x e)))
    go false e ih = rw e (ap (λ (r : List ℕ). b ∷ r) (ih (rw e at h)))

-- ---- lines

pub lines_end : (s r : List ℕ) → Without line_end s → lines (s ++ (line_end ∷ r)) ≡ s ∷ lines r
lines_end [] r h = refl
lines_end (b ∷ s) r h = rw (lines_end s r h.1) (rw (ne_eqb b line_end h.0))

ended-end : (s r : List ℕ) → ended (s ++ (line_end ∷ r)) ≡ ended r
ended-end [] [] = refl
ended-end [] (c ∷ r) = refl
ended-end (b ∷ []) r = ended-end [] r
ended-end (b ∷ c ∷ s) r = ended-end (c ∷ s) r

pub ended-joined : (ls : List (List ℕ)) → ended (joined ls) ≡ true
ended-joined [] = refl
ended-joined (l ∷ ls) = ended-end l (joined ls) ∙ ended-joined ls

-- the 0A that the last line lacks
abbrev pub missing : List ℕ → List ℕ
missing t = cond (ended t) [] (line_end ∷ [])

pub joined-all : (t : List ℕ) → joined (lines t) ≡ t ++ missing t
joined-all [] = refl
joined-all (b ∷ []) = go (eqb b line_end) refl
  where
    go : (t : Bool) → eqb b line_end ≡ t → joined (lines (b ∷ [])) ≡ b ∷ missing (b ∷ [])
    go true e = rw e (ap (λ (x : ℕ). x ∷ []) (sym (eqb-true b line_end e)))
    go false e = rw e
joined-all (b ∷ c ∷ s) = go (eqb b line_end) refl (lines (c ∷ s)) refl (joined-all (c ∷ s))
  where
    go : (t : Bool) → eqb b line_end ≡ t → (ls : List (List ℕ)) → lines (c ∷ s) ≡ ls → joined (lines (c ∷ s)) ≡ c ∷ s ++ missing (c ∷ s)
        → joined (lines (b ∷ c ∷ s)) ≡ b ∷ c ∷ s ++ missing (c ∷ s)
    go true e ls le ih = rw e (ap₂ (λ (x : ℕ) (r : List ℕ). x ∷ r) (sym (eqb-true b line_end e)) ih)
    go false e [] le ih = let z : ◌≡◌ {A = ℕ} 0 1 = cc in absurd (omega arith)
    go false e (l ∷ ls) le ih = rw e (rw le (ap (λ (r : List ℕ). b ∷ r) (rw le at ih)))

pub joined-lines : (t : List ℕ) → ended t ≡ true → joined (lines t) ≡ t
joined-lines t h = joined-all t ∙ rw h (append-nil t)

-- ---- the parts of a line

abbrev pub parted : List ℕ → Line
parted l = record { identity = upto colon l; hex = past colon l }

abbrev pub line_of : Line → List ℕ
line_of l = l.identity ++ (colon ∷ l.hex)

pub text-cons : (l : Line) (ls : List Line) → text (l ∷ ls) ≡ line_of l ++ (line_end ∷ text ls)
text-cons l ls = sym (append_assoc l.identity (colon ∷ l.hex) (line_end ∷ text ls))

pub valid-parted : (l : List ℕ) → valid_line l ≡ true → line_of (parted l) ≡ l
valid-parted l h =
    let k = key-sound (past colon l) (and_right (valid_identity (identity_of l)) (valid_key (past colon l)) h) in
    rejoined colon l (omega arith)

pub text-parted : (ls : List (List ℕ)) → each valid_line ls ≡ true → text (map parted ls) ≡ joined ls
text-parted [] h = refl
text-parted (l ∷ ls) h =
    text-cons (parted l) (map parted ls)
    ∙ ap₂ (λ (a : List ℕ) (b : List ℕ). a ++ (line_end ∷ b))
    (valid-parted l (and_left (valid_line l) (each valid_line ls) h))
    (text-parted ls (and_right (valid_line l) (each valid_line ls) h))

-- ---- valid lines

plain-no-end : (b : ℕ) → Plain b → ¬ (b ≡ line_end)
plain-no-end b h e = omega arith

digit-no-end : (b : ℕ) → HexDigit b → ¬ (b ≡ line_end)
digit-no-end b (inl h) e = omega arith
digit-no-end b (inr (inl h)) e = omega arith
digit-no-end b (inr (inr h)) e = omega arith

pub digit-no-colon : (b : ℕ) → HexDigit b → ¬ (b ≡ colon)
digit-no-colon b (inl h) e = omega arith
digit-no-colon b (inr (inl h)) e = omega arith
digit-no-colon b (inr (inr h)) e = omega arith

module _ (l : Line) (v : ValidLine l) where
  pub identity-no-colon : Without colon l.identity
  identity-no-colon = every_map Plain _ (λ b h. h.no-colon) l.identity v.identity.plain

  pub hex-no-colon : Without colon l.hex
  hex-no-colon = every_map HexDigit _ digit-no-colon l.hex v.key.digits

  pub line-no-end : Without line_end (line_of l)
  line-no-end =
      every_append _ l.identity (colon ∷ l.hex) (every_map Plain _ plain-no-end l.identity v.identity.plain)
      ((λ e. omega arith), every_map HexDigit _ digit-no-end l.hex v.key.digits)

-- the lines of a text are those that it was made of
pub lines-text : (ls : List Line) → Each ValidLine ls → lines (text ls) ≡ map line_of ls
lines-text [] h = refl
lines-text (l ∷ ls) h =
    ap lines (text-cons l ls) ∙ lines_end (line_of l) (text ls) (line-no-end l h.0)
    ∙ ap (λ (r : List (List ℕ)). line_of l ∷ r) (lines-text ls h.1)

pub ended-text : (ls : List Line) → ended (text ls) ≡ true
ended-text [] = refl
ended-text (l ∷ ls) = ap ended (text-cons l ls) ∙ ended-end (line_of l) (text ls) ∙ ended-text ls
