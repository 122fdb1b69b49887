-- The lines after an edit: they are valid and their identities distinct, the others are as they were, and what a search finds in them.
-- Assumes nothing.
use mathlib.Core.Path.{◌≡◌, refl, sym, ap, ap₂, ◌∙◌}
use mathlib.Core.Bool.{Bool, true, false, cond, not, ◌||◌, true≢false}
use mathlib.Core.List.{List, [], ◌∷◌, ◌++◌, map, append-nil, map-append}
use Prim.Native.Nat.{ℕ, ◌<◌}
use borrow.Author.Tests.{not-true}
use Rattle.std.proofs.lemmas.Option.{none-some}
use Rattle.std.specs.Prelude.{None, Some}
use Rattle.lists.specs.Lists.{each, any, distinct, same, Each}
use Rattle.lists.proofs.Tests.{and_left, and_right, both}
use Rattle.lists.proofs.Equal.{same-eq, same_refl, same_not, same-either}
use Rattle.lists.proofs.Every.{every_map}
use Rattle.lists.proofs.Distinct.{distinct_snoc}
use Rattle.refusal.specs.declared.Refusal.TheVariants.{AlreadyListed, NotListed}
use Rattle.keytable.specs.Table.{colon, upto, past, decoded, key_text, or_else, first_text, key_of_text, identity_of, valid_identity, valid_key, valid_line, valid_secret}
use Rattle.keytable.specs.WellFormed.{Plain}
use Rattle.keytable.proofs.Tests.{identity-sound}
use Rattle.keytable.proofs.Texts.{Without, upto-append, past-append, parted, valid-parted, identity-no-colon, hex-no-colon}
use Rattle.keytable.proofs.Agreement.{line-sound}
use Rattle.keytable.proofs.Lookups.{own-text, other_text, key-is}
use Rattle.keytable.proofs.Spots.{first-append}
use Rattle.table_edits.specs.Edits.{Edit, add, replace, retire, subject, line_with, lower_hex, is_line_of, listed}
use Rattle.table_edits.specs.Edits.{others, lines_after, allowed, misplaced, key_after, OfBytes}
use Rattle.table_edits.proofs.Digits.{decoded-hex, valid-hex}
use Rattle.table_edits.proofs.Places.{others-append}

-- ---- the line of an identity and a key

module _ (i k : List ℕ) (named : valid_identity i ≡ true) where
  no-colon : Without colon i
  no-colon = every_map Plain _ (λ b h. h.no-colon) i (identity-sound i named).plain

  own-identity : identity_of (line_with i k) ≡ i
  own-identity = upto-append colon i (lower_hex k) no-colon

  pub own_line : is_line_of i (line_with i k) ≡ true
  own_line = ap (same i) own-identity ∙ same_refl i

  valid-own : valid_secret k ≡ true → Each (λ b. b < 256) k → valid_line (line_with i k) ≡ true
  valid-own keyed bytes =
      both (ap valid_identity own-identity ∙ named) (ap valid_key (past-append colon i (lower_hex k) no-colon) ∙ valid-hex k keyed bytes)

-- ---- valid lines

module _ (i : List ℕ) where
  pub others-each : (p : List ℕ → Bool) (ls : List (List ℕ)) → each p ls ≡ true → each p (others i ls) ≡ true
  others-each p [] h = refl
  others-each p (l ∷ ls) h = go (is_line_of i l) (others-each p ls (and_right (p l) (each p ls) h))
    where
      go : (b : Bool) → each p (others i ls) ≡ true → each p (cond b (others i ls) (l ∷ others i ls)) ≡ true
      go true ih = ih
      go false ih = both (and_left (p l) (each p ls) h) ih

  pub replaced-each : (p : List ℕ → Bool) (k : List ℕ) (ls : List (List ℕ)) → p (line_with i k) ≡ true → each p ls ≡ true
      → each p (lines_after (replace i k) ls) ≡ true
  replaced-each p k [] new h = refl
  replaced-each p k (l ∷ ls) new h = both (go (is_line_of i l)) (replaced-each p k ls new (and_right (p l) (each p ls) h))
    where
      go : (b : Bool) → p (cond b (line_with i k) l) ≡ true
      go true = new
      go false = and_left (p l) (each p ls) h

pub each_snoc : (p : List ℕ → Bool) (ls : List (List ℕ)) (l : List ℕ) → each p ls ≡ true → p l ≡ true → each p (ls ++ (l ∷ [])) ≡ true
each_snoc p [] l h new = both new refl
each_snoc p (x ∷ ls) l h new = both (and_left (p x) (each p ls) h) (each_snoc p ls l (and_right (p x) (each p ls) h) new)

pub valid-after : (e : Edit) (ls : List (List ℕ)) → OfBytes e → allowed e ≡ true → each valid_line ls ≡ true → each valid_line (lines_after e ls) ≡ true
valid-after (add i k) ls bytes ok good =
    each_snoc valid_line ls (line_with i k) good
    (valid-own i k (and_left (valid_identity i) (valid_secret k) ok) (and_right (valid_identity i) (valid_secret k) ok) bytes)
valid-after (replace i k) ls bytes ok good =
    replaced-each i valid_line k ls
    (valid-own i k (and_left (valid_identity i) (valid_secret k) ok) (and_right (valid_identity i) (valid_secret k) ok) bytes) good
valid-after (retire i) ls bytes ok good = others-each i valid_line ls good

-- ---- no identity twice

any_identity : (i : List ℕ) (ls : List (List ℕ)) → any (same i) (map identity_of ls) ≡ listed i ls
any_identity i [] = refl
any_identity i (l ∷ ls) = ap (λ (b : Bool). same i (identity_of l) || b) (any_identity i ls)

others-any : (i : List ℕ) (p : List ℕ → Bool) (ls : List (List ℕ)) → any p (map identity_of ls) ≡ false → any p (map identity_of (others i ls)) ≡ false
others-any i p [] h = refl
others-any i p (l ∷ ls) h = go (is_line_of i l) (p (identity_of l)) refl (λ f. others-any i p ls f)
  where
    go : (b c : Bool) → p (identity_of l) ≡ c → (any p (map identity_of ls) ≡ false → any p (map identity_of (others i ls)) ≡ false)
        → any p (map identity_of (cond b (others i ls) (l ∷ others i ls))) ≡ false
    go b true e ih = absurd (true≢false (rw e at h))
    go true false e ih = ih (rw e at h)
    go false false e ih = rw e (ih (rw e at h))

others-distinct : (i : List ℕ) (ls : List (List ℕ)) → distinct same (map identity_of ls) ≡ true → distinct same (map identity_of (others i ls)) ≡ true
others-distinct i [] h = refl
others-distinct i (l ∷ ls) h =
    go (is_line_of i l) (others-distinct i ls (and_right (not (any (same (identity_of l)) (map identity_of ls))) (distinct same (map identity_of ls)) h))
  where
    go : (b : Bool) → distinct same (map identity_of (others i ls)) ≡ true
        → distinct same (map identity_of (cond b (others i ls) (l ∷ others i ls))) ≡ true
    go true ih = ih
    go false ih =
        let apart = and_left (not (any (same (identity_of l)) (map identity_of ls))) (distinct same (map identity_of ls)) h in
        rw (others-any i (same (identity_of l)) ls (not-true (any (same (identity_of l)) (map identity_of ls)) apart)) ih

replaced-identities : (i k : List ℕ) (ls : List (List ℕ)) → valid_identity i ≡ true
    → map identity_of (lines_after (replace i k) ls) ≡ map identity_of ls
replaced-identities i k [] named = refl
replaced-identities i k (l ∷ ls) named =
    ap₂ (λ (x : List ℕ) (r : List (List ℕ)). x ∷ r) (go (is_line_of i l) refl) (replaced-identities i k ls named)
  where
    go : (b : Bool) → is_line_of i l ≡ b → identity_of (cond b (line_with i k) l) ≡ identity_of l
    go true e = own-identity i k named ∙ same-eq i (identity_of l) e
    go false e = refl

-- an identity that may be added is not listed, and one that may be replaced is
pub may_add : (b : Bool) → misplaced (add [] []) b ≡ None → b ≡ false
may_add true h = absurd (none-some AlreadyListed (sym h))
may_add false h = refl

pub may-replace : (b : Bool) → misplaced (replace [] []) b ≡ None → b ≡ true
may-replace true h = refl
may-replace false h = absurd (none-some NotListed (sym h))

pub distinct-after : (e : Edit) (ls : List (List ℕ)) → allowed e ≡ true → misplaced e (listed (subject e) ls) ≡ None
    → distinct same (map identity_of ls) ≡ true → distinct same (map identity_of (lines_after e ls)) ≡ true
distinct-after (add i k) ls ok free apart =
    let named = and_left (valid_identity i) (valid_secret k) ok in
    let other : any (same (identity_of (line_with i k))) (map identity_of ls) ≡ false =
    ap (λ (x : List ℕ). any (same x) (map identity_of ls)) (own-identity i k named) ∙ any_identity i ls ∙ may_add (listed i ls) free in
    ap (distinct same) (map-append identity_of ls (line_with i k ∷ []))
    ∙ distinct_snoc same same-either (map identity_of ls) (identity_of (line_with i k)) ∙ rw (apart, other)
distinct-after (replace i k) ls ok free apart =
    ap (distinct same) (replaced-identities i k ls (and_left (valid_identity i) (valid_secret k) ok)) ∙ apart
distinct-after (retire i) ls ok free apart = others-distinct i ls apart

-- ---- the lines of others

module _ (i : List ℕ) where
  others-twice : (ls : List (List ℕ)) → others i (others i ls) ≡ others i ls
  others-twice [] = refl
  others-twice (l ∷ ls) = go (is_line_of i l) refl (others-twice ls)
    where
      go : (b : Bool) → is_line_of i l ≡ b → others i (others i ls) ≡ others i ls
          → others i (cond b (others i ls) (l ∷ others i ls)) ≡ cond b (others i ls) (l ∷ others i ls)
      go true e ih = ih
      go false e ih = rw e (ap (λ (r : List (List ℕ)). l ∷ r) ih)

  others-replaced : (k : List ℕ) (ls : List (List ℕ)) → valid_identity i ≡ true → others i (lines_after (replace i k) ls) ≡ others i ls
  others-replaced k [] named = refl
  others-replaced k (l ∷ ls) named = go (is_line_of i l) refl (others-replaced k ls named)
    where
      go : (b : Bool) → is_line_of i l ≡ b → others i (lines_after (replace i k) ls) ≡ others i ls
          → others i (cond b (line_with i k) l ∷ lines_after (replace i k) ls) ≡ cond b (others i ls) (l ∷ others i ls)
      go true e ih = rw (own_line i k named) ih
      go false e ih = rw e (ap (λ (r : List (List ℕ)). l ∷ r) ih)

  pub others_same : (ls : List (List ℕ)) → listed i ls ≡ false → others i ls ≡ ls
  others_same [] h = refl
  others_same (l ∷ ls) h = go (is_line_of i l) refl (λ f. others_same ls f)
    where
      go : (b : Bool) → is_line_of i l ≡ b → (listed i ls ≡ false → others i ls ≡ ls) → others i (l ∷ ls) ≡ l ∷ ls
      go true e ih = absurd (true≢false (rw e at h))
      go false e ih = rw e (ap (λ (r : List (List ℕ)). l ∷ r) (ih (rw e at h)))

pub others-after : (e : Edit) (ls : List (List ℕ)) → valid_identity (subject e) ≡ true → others (subject e) (lines_after e ls) ≡ others (subject e) ls
others-after (add i k) ls named = others-append i ls (line_with i k ∷ []) ∙ rw (own_line i k named) (append-nil (others i ls))
others-after (replace i k) ls named = others-replaced i k ls named
others-after (retire i) ls named = others-twice i ls

-- ---- a key replaced twice

module _ (i k : List ℕ) where
  pub replaced-listed : (ls : List (List ℕ)) → valid_identity i ≡ true → listed i (lines_after (replace i k) ls) ≡ listed i ls
  replaced-listed ls named =
      sym (any_identity i (lines_after (replace i k) ls)) ∙ ap (any (same i)) (replaced-identities i k ls named) ∙ any_identity i ls

  pub replaced-twice : (k' : List ℕ) (ls : List (List ℕ)) → valid_identity i ≡ true
      → lines_after (replace i k') (lines_after (replace i k) ls) ≡ lines_after (replace i k') ls
  replaced-twice k' [] named = refl
  replaced-twice k' (l ∷ ls) named =
      ap₂ (λ (x : List ℕ) (r : List (List ℕ)). x ∷ r) (go (is_line_of i l) refl) (replaced-twice k' ls named)
    where
      go : (b : Bool) → is_line_of i l ≡ b
          → cond (is_line_of i (cond b (line_with i k) l)) (line_with i k') (cond b (line_with i k) l) ≡ cond b (line_with i k') l
      go true e = rw (own_line i k named)
      go false e = rw e

-- ---- what a search finds

-- valid lines of others have nothing for the identity
other_none : (i l : List ℕ) → valid_line l ≡ true → is_line_of i l ≡ false → key_text i l ≡ None
other_none i l good other =
    let p = line-sound l good in
    let differ : ¬ (i ≡ identity_of l) = λ e. true≢false (sym (same_refl i) ∙ ap (same i) e ∙ other) in
    ap (key_text i) (sym (valid-parted l good))
    ∙ other_text i (upto colon l) (past colon l) differ (identity-no-colon (parted l) p) (hex-no-colon (parted l) p)

pub unlisted-none : (i : List ℕ) (ls : List (List ℕ)) → each valid_line ls ≡ true → listed i ls ≡ false → first_text i ls ≡ None
unlisted-none i [] good h = refl
unlisted-none i (l ∷ ls) good h = go (is_line_of i l) refl (λ f. unlisted-none i ls (and_right (valid_line l) (each valid_line ls) good) f)
  where
    go : (b : Bool) → is_line_of i l ≡ b → (listed i ls ≡ false → first_text i ls ≡ None) → first_text i (l ∷ ls) ≡ None
    go true e ih = absurd (true≢false (rw e at h))
    go false e ih = rw (other_none i l (and_left (valid_line l) (each valid_line ls) good) e) (ih (rw e at h))

-- and a listed one has a key
pub listed-some : (i : List ℕ) (ls : List (List ℕ)) → each valid_line ls ≡ true → listed i ls ≡ true → ¬ (key_of_text (first_text i ls) ≡ None)
listed-some i [] good h = λ e. true≢false (sym h)
listed-some i (l ∷ ls) good h = go (is_line_of i l) refl (λ f. listed-some i ls (and_right (valid_line l) (each valid_line ls) good) f)
  where
    valid : valid_line l ≡ true
    valid = and_left (valid_line l) (each valid_line ls) good

    go : (b : Bool) → is_line_of i l ≡ b → (listed i ls ≡ true → ¬ (key_of_text (first_text i ls) ≡ None)) → ¬ (key_of_text (first_text i (l ∷ ls)) ≡ None)
    go true e ih gone =
        let own : key_text i l ≡ Some (past colon l) =
        ap₂ key_text (same-eq i (identity_of l) e) (sym (valid-parted l valid)) ∙ own-text (upto colon l) (past colon l) in
        let key = key-is (past colon l) (and_right (valid_identity (identity_of l)) (valid_key (past colon l)) valid) in
        none-some (decoded (past colon l)) (sym (rw own at gone) ∙ key)
    go false e ih gone = ih (rw e at h) (rw (other_none i l valid e) at gone)

-- the lines of one identity decide nothing for another
pub others-first : (i j : List ℕ) (ls : List (List ℕ)) → ¬ (j ≡ i) → each valid_line ls ≡ true → first_text j (others i ls) ≡ first_text j ls
others-first i j [] differ good = refl
others-first i j (l ∷ ls) differ good = go (is_line_of i l) refl (others-first i j ls differ (and_right (valid_line l) (each valid_line ls) good))
  where
    go : (b : Bool) → is_line_of i l ≡ b → first_text j (others i ls) ≡ first_text j ls
        → first_text j (cond b (others i ls) (l ∷ others i ls)) ≡ or_else (key_text j l) (first_text j ls)
    go true e ih =
        let other : is_line_of j l ≡ false = same_not j (identity_of l) (λ f. differ (f ∙ sym (same-eq i (identity_of l) e))) in
        rw (other_none j l (and_left (valid_line l) (each valid_line ls) good) other) ih
    go false e ih = ap (or_else (key_text j l)) ih

unlisted-others : (i : List ℕ) (ls : List (List ℕ)) → listed i (others i ls) ≡ false
unlisted-others i [] = refl
unlisted-others i (l ∷ ls) = go (is_line_of i l) refl (unlisted-others i ls)
  where
    go : (b : Bool) → is_line_of i l ≡ b → listed i (others i ls) ≡ false → listed i (cond b (others i ls) (l ∷ others i ls)) ≡ false
    go true e ih = ih
    go false e ih = rw e ih

replaced-first : (i k : List ℕ) (ls : List (List ℕ)) → each valid_line ls ≡ true → listed i ls ≡ true
    → first_text i (lines_after (replace i k) ls) ≡ Some (lower_hex k)
replaced-first i k [] good h = absurd (true≢false (sym h))
replaced-first i k (l ∷ ls) good h = go (is_line_of i l) refl (λ f. replaced-first i k ls (and_right (valid_line l) (each valid_line ls) good) f)
  where
    go : (b : Bool) → is_line_of i l ≡ b → (listed i ls ≡ true → first_text i (lines_after (replace i k) ls) ≡ Some (lower_hex k))
        → or_else (key_text i (cond b (line_with i k) l)) (first_text i (lines_after (replace i k) ls)) ≡ Some (lower_hex k)
    go true e ih = rw (own-text i (lower_hex k))
    go false e ih = rw (other_none i l (and_left (valid_line l) (each valid_line ls) good) e) (ih (rw e at h))

-- the identity has the key that was given, or none
pub first-after : (e : Edit) (ls : List (List ℕ)) → OfBytes e → allowed e ≡ true → misplaced e (listed (subject e) ls) ≡ None
    → each valid_line ls ≡ true → key_of_text (first_text (subject e) (lines_after e ls)) ≡ key_after e
first-after (add i k) ls bytes ok free good =
    let keyed = and_right (valid_identity i) (valid_secret k) ok in
    let none_yet = unlisted-none i ls good (may_add (listed i ls) free) in
    let found : first_text i (ls ++ (line_with i k ∷ [])) ≡ Some (lower_hex k) =
    first-append i ls (line_with i k ∷ []) ∙ rw (none_yet, own-text i (lower_hex k)) in
    ap key_of_text found ∙ key-is (lower_hex k) (valid-hex k keyed bytes) ∙ ap Some (decoded-hex k bytes)
first-after (replace i k) ls bytes ok free good =
    let keyed = and_right (valid_identity i) (valid_secret k) ok in
    ap key_of_text (replaced-first i k ls good (may-replace (listed i ls) free))
    ∙ key-is (lower_hex k) (valid-hex k keyed bytes) ∙ ap Some (decoded-hex k bytes)
first-after (retire i) ls bytes ok free good =
    ap key_of_text (unlisted-none i (others i ls) (others-each i valid_line ls good) (unlisted-others i ls))
