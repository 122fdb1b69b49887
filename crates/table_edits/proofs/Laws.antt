-- What holds of every accepted edit: the table is well formed, the identity has the key that was given or none, and all else is as it was. Retiring
-- takes out one line, and what was added; a key that is replaced twice is the second one. Assumes nothing.
use mathlib.Core.Path.{◌≡◌, refl, sym, ap, ◌∙◌}
use mathlib.Core.Logic.{◌↔◌}
use Prim.Native.Nat.{ℕ, ◌≤◌, ◌<◌}
use mathlib.Core.Bool.{Bool, true, false, ◌&&◌, true≢false}
use mathlib.Core.List.{List, [], ◌∷◌, ◌++◌, map}
use lib.ListN.{length}
use lib.Dec.{leb}
use borrow.Author.Tests.{leb-true}
use Rattle.std.specs.Prelude.{Option, None, Some}
use Rattle.lists.specs.Lists.{each, same, Each}
use Rattle.lists.proofs.Tests.{and_left, and_right, both}
use Rattle.lists.proofs.Equal.{same_refl}
use Rattle.lists.proofs.Distinct.{any_append}
use Rattle.refusal.specs.declared.Refusal.{Refusal}
use Rattle.refusal.specs.Lent.{gives}
use Rattle.refusal.proofs.Laws.{refuses-gives}
use Rattle.keytable.specs.declared.entries.Hit.{Hit}
use Rattle.keytable.specs.Table.{lines, joined, first_text, key_of_text, key_of, identity_of, valid_identity, valid_line, well_formed, valid_secret}
use Rattle.keytable.specs.Starts.{starts_of, placed}
use Rattle.keytable.specs.WellFormed.{WellFormed, LineRemoved}
use Rattle.keytable.proofs.Agreement.{identities-sound, well-formed-tests, joined-formed, complete}
use Rattle.keytable.proofs.Texts.{joined-lines}
use Rattle.table_edits.specs.Edits.{Edit, add, replace, retire, subject, line_with, is_line_of, listed, others, lines_after}
use Rattle.table_edits.specs.Edits.{allowed, misplaced, sized, unless, edited, key_after, OfBytes}
use Rattle.table_edits.proofs.Outcomes.{sized-fits}
use Rattle.table_edits.proofs.After.{own_line, replaced-listed, replaced-twice, others_same, valid-after, distinct-after, others-after}
use Rattle.table_edits.proofs.After.{unlisted-none, listed-some, others-first, first-after, may_add, may-replace}
use Rattle.table_edits.proofs.Ends.{unbroken-after}
use Rattle.table_edits.proofs.Places.{replaced-there, absent-unlisted, line-removed}

-- ---- an accepted edit

pub record Accepted (e : Edit) (t t' : List ℕ) : Type 0 where
  pub formed : well_formed t ≡ true
  pub named : allowed e ≡ true
  pub free : misplaced e (listed (subject e) (lines t)) ≡ None
  pub text : t' ≡ joined (lines_after e (lines t))
  pub few-lines : length (lines_after e (lines t)) ≤ 256
  pub few_bytes : length (joined (lines_after e (lines t))) ≤ 65536

gives-bytes : {a b : List ℕ} → gives a ≡ gives b → a ≡ b
gives-bytes e = cc

pub accepted : (e : Edit) (t t' : List ℕ) → edited e t ≡ gives t' → Accepted e t t'
unfolding edited
accepted e t t' h = first (well_formed t) refl
  where
    last : (b : Bool) → (leb (length (lines_after e (lines t))) 256 && leb (length (joined (lines_after e (lines t)))) 65536) ≡ b
        → well_formed t ≡ true → allowed e ≡ true → misplaced e (listed (subject e) (lines t)) ≡ None → Accepted e t t'
    last false x a b c = absurd (refuses-gives (rw (a, b, c, x) at h))
    last true x a b c = record {
      formed = a;
      named = b;
      free = c;
      text = sym (gives-bytes (rw (a, b, c, x) at h));
      few-lines = leb-true (length (lines_after e (lines t))) 256
          (and_left (leb (length (lines_after e (lines t))) 256) (leb (length (joined (lines_after e (lines t)))) 65536) x);
      few_bytes = leb-true (length (joined (lines_after e (lines t)))) 65536
          (and_right (leb (length (lines_after e (lines t))) 256) (leb (length (joined (lines_after e (lines t)))) 65536) x);
    }

    third : (o : Option Refusal) → misplaced e (listed (subject e) (lines t)) ≡ o → well_formed t ≡ true → allowed e ≡ true → Accepted e t t'
    third (Some r) c a b = absurd (refuses-gives (rw (a, b, c) at h))
    third None c a b = last _ refl a b c

    second : (b : Bool) → allowed e ≡ b → well_formed t ≡ true → Accepted e t t'
    second false b a = absurd (refuses-gives (rw (a, b) at h))
    second true b a = third _ refl a b

    first : (b : Bool) → well_formed t ≡ b → Accepted e t t'
    first false a = absurd (refuses-gives (rw a at h))
    first true a = second _ refl a

-- what the definition makes of the tests that hold
edited-on : (e : Edit) (t : List ℕ) → well_formed t ≡ true → allowed e ≡ true
    → edited e t ≡ unless (misplaced e (listed (subject e) (lines t))) (sized (lines_after e (lines t)))
unfolding edited
edited-on e t a b = rw (a, b)

-- the lines of the new table
pub lines_after_lem : (e : Edit) (t t' : List ℕ) → edited e t ≡ gives t' → lines t' ≡ lines_after e (lines t)
lines_after_lem e t t' h =
    let a = accepted e t t' h in
    ap lines a.text ∙ unbroken-after e (lines t) a.named (well-formed-tests t a.formed).3

module _ (e : Edit) (t t' : List ℕ) (bytes : OfBytes e) (h : edited e t ≡ gives t') where
  abbrev made : Accepted e t t'
  made = accepted e t t' h

  good : each valid_line (lines t) ≡ true
  good = (well-formed-tests t made.formed).3

  good-after : each valid_line (lines_after e (lines t)) ≡ true
  good-after = valid-after e (lines t) bytes made.named good

  named : valid_identity (subject e) ≡ true
  named = go e made.named
    where
      go : (x : Edit) → allowed x ≡ true → valid_identity (subject x) ≡ true
      go (add i k) ok = and_left (valid_identity i) (valid_secret k) ok
      go (replace i k) ok = and_left (valid_identity i) (valid_secret k) ok
      go (retire i) ok = and_left (valid_identity i) true ok

  pub edit-formed : WellFormed t'
  edit-formed =
      rw made.text
      (joined-formed (lines_after e (lines t)) good-after
      (distinct-after e (lines t) made.named made.free (well-formed-tests t made.formed).4) made.few-lines made.few_bytes)

  pub edit-others : others (subject e) (lines t') ≡ others (subject e) (lines t)
  edit-others = ap (others (subject e)) (lines_after_lem e t t' h) ∙ others-after e (lines t) named

  pub edit-key : key_of t' (subject e) ≡ key_after e
  unfolding key_of
  edit-key =
      ap (λ (ls : List (List ℕ)). key_of_text (first_text (subject e) ls)) (lines_after_lem e t t' h)
      ∙ first-after e (lines t) bytes made.named made.free good

  pub edit-else : (other : List ℕ) → ¬ (other ≡ subject e) → key_of t' other ≡ key_of t other
  unfolding key_of
  edit-else other differ =
      let after : each valid_line (lines t') ≡ true = rw (lines_after_lem e t t' h) good-after in
      ap key_of_text
      (sym (others-first (subject e) other (lines t') differ after)
      ∙ ap (first_text other) edit-others ∙ others-first (subject e) other (lines t) differ good)

-- ---- listed, and found by a lookup

pub listed_found_lem : (t i : List ℕ) → well_formed t ≡ true → (listed i (lines t) ≡ false) ↔ (key_of t i ≡ None)
unfolding key_of
listed_found_lem t i formed =
    let valid = (well-formed-tests t formed).3 in
    (λ h. ap key_of_text (unlisted-none i (lines t) valid h), λ gone. go (listed i (lines t)) refl valid gone)
  where
    go : (b : Bool) → listed i (lines t) ≡ b → each valid_line (lines t) ≡ true → key_of_text (first_text i (lines t)) ≡ None → b ≡ false
    go true h valid gone = absurd (listed-some i (lines t) valid h gone)
    go false h valid gone = refl

-- ---- retiring takes out one line

pub retire-removes : (i t t' : List ℕ) → edited (retire i) t ≡ gives t' → LineRemoved i t t'
retire-removes i t t' h = go (placed 0 i t (starts_of t)) refl
  where
    a : Accepted (retire i) t t'
    a = accepted (retire i) t t' h

    go : (hit : Option Hit) → placed 0 i t (starts_of t) ≡ hit → LineRemoved i t t'
    go (Some at) e = rw a.text (line-removed t i a.formed (and_left (valid_identity i) true a.named) at.line at.from at.to e)
    go None e = absurd (true≢false (sym (may-replace (listed i (lines t)) a.free) ∙ absent-unlisted t i a.formed e))

-- ---- retiring what was added

pub retire-added : (i k t t' : List ℕ) → Each (λ b. b < 256) k → edited (add i k) t ≡ gives t' → edited (retire i) t' ≡ gives t
retire-added i k t t' bytes h =
    let a = accepted (add i k) t t' h in
    let (size, end, few, good, other) = well-formed-tests t a.formed in
    let named' = and_left (valid_identity i) (valid_secret k) a.named in
    let formed' : well_formed t' ≡ true = complete t' (edit-formed (add i k) t t' bytes h) in
    let new = lines_after_lem (add i k) t t' h in
    let free = may_add (listed i (lines t)) a.free in
    let present : listed i (lines t') ≡ true =
    ap (listed i) new ∙ any_append (is_line_of i) (lines t) (line_with i k ∷ []) ∙ rw (free, own_line i k named') in
    let back : others i (lines t') ≡ lines t = ap (others i) new ∙ others-after (add i k) (lines t) named' ∙ others_same i (lines t) free in
    let whole = joined-lines t end in
    edited-on (retire i) t' formed' (both named' refl)
    ∙ rw (present, back)
    (sized-fits (lines t) (leb-true (length (lines t)) 256 few) (rw whole (leb-true (length t) 65536 size)) ∙ ap gives whole)

-- ---- where a line is put

pub added-last : (i k t t' : List ℕ) → Each (λ b. b < 256) k → edited (add i k) t ≡ gives t' → lines t' ≡ lines t ++ (line_with i k ∷ [])
added-last i k t t' bytes h = lines_after_lem (add i k) t t' h

pub replaced-in-place : (i k t t' : List ℕ) (xs : List (List ℕ)) (l : List ℕ) (ys : List (List ℕ)) → Each (λ b. b < 256) k
    → edited (replace i k) t ≡ gives t' → lines t ≡ xs ++ (l ∷ ys) → identity_of l ≡ i → lines t' ≡ xs ++ (line_with i k ∷ ys)
replaced-in-place i k t t' xs l ys bytes h split own =
    let a = accepted (replace i k) t t' h in
    let apart = rw split at (identities-sound (map identity_of (lines t)) (well-formed-tests t a.formed).4) in
    lines_after_lem (replace i k) t t' h ∙ ap (lines_after (replace i k)) split
    ∙ replaced-there i xs l ys (ap (same i) own ∙ same_refl i) apart k

-- ---- replacing twice

pub replace-twice : (i k k' t t' : List ℕ) → Each (λ b. b < 256) k → edited (replace i k) t ≡ gives t'
    → edited (replace i k') t' ≡ edited (replace i k') t
unfolding edited
replace-twice i k k' t t' bytes h =
    let a = accepted (replace i k) t t' h in
    let named' = and_left (valid_identity i) (valid_secret k) a.named in
    let formed' : well_formed t' ≡ true = complete t' (edit-formed (replace i k) t t' bytes h) in
    let new = lines_after_lem (replace i k) t t' h in
    let still : listed i (lines t') ≡ listed i (lines t) = ap (listed i) new ∙ replaced-listed i k (lines t) named' in
    let again : lines_after (replace i k') (lines t') ≡ lines_after (replace i k') (lines t) =
    ap (lines_after (replace i k')) new ∙ replaced-twice i k k' (lines t) named' in
    rw (formed', a.formed) (rw (still, again))
