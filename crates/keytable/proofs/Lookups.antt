-- Lookup on a well-formed table: it finds exactly the listed identities with their keys, and no malformed one is listed.
-- Assumes nothing.
use mathlib.Core.Path.{◌≡◌, refl, sym, ap, ap₂, ◌∙◌}
use mathlib.Core.Logic.{inl, inr, ◌↔◌}
use Prim.Native.Nat.{ℕ, ◌≤◌}
use native.Mathlib.Omega.{arith}
use mathlib.Core.Bool.{Bool, true, false, cond, true≢false}
use mathlib.Core.List.{List, [], ◌∷◌, ◌++◌, map}
use lib.ListN.{length}
use lib.Dec.{eqb}
use borrow.Author.Tests.{eq-eqb, ne_eqb, eqb-true}
use Rattle.std.proofs.lemmas.Option.{none-some}
use Rattle.std.specs.Prelude.{Option, None, Some}
use Rattle.lists.specs.Lists.{same, Each, Distinct}
use Rattle.keytable.specs.Table.{colon, lines, decoded, key_text, first_text, key_in, key_of_text, key_of, valid_identity, valid_key, well_formed}
use Rattle.keytable.specs.WellFormed.{Key, Line, ValidLine, identity_in, WellFormed, Listed}
use Rattle.keytable.proofs.Tests.{identity-complete, key-sound, key-complete}
use Rattle.keytable.proofs.Texts.{Without, line_of, identity-no-colon, hex-no-colon, lines-text}
use Rattle.lists.proofs.Equal.{same-eq, same_refl, same_not}
use Rattle.keytable.proofs.Pairs.{length-decoded}
use Rattle.keytable.proofs.Agreement.{sound}

-- ---- a line and an identity

pub own-text : (i h : List ℕ) → key_text i (i ++ (colon ∷ h)) ≡ Some h
own-text [] h = refl
own-text (b ∷ i) h = rw (eq-eqb b b refl) (own-text i h)

none-either : (t : Bool) {o : Option (List ℕ)} → o ≡ None → cond t o None ≡ None
none-either true e = e
none-either false e = refl

no-colon-text : (i h : List ℕ) → Without colon h → key_text i h ≡ None
no-colon-text [] [] w = refl
no-colon-text [] (b ∷ h) w = rw (ne_eqb b colon w.0)
no-colon-text (a ∷ i) [] w = refl
no-colon-text (a ∷ i) (b ∷ h) w = none-either (eqb b a) (no-colon-text i h w.1)

pub other_text : (i j h : List ℕ) → ¬ (i ≡ j) → Without colon j → Without colon h → key_text i (j ++ (colon ∷ h)) ≡ None
other_text [] [] h other wj wh = absurd (other refl)
other_text [] (b ∷ j) h other wj wh = rw (ne_eqb b colon wj.0)
other_text (a ∷ i) [] h other wj wh = none-either (eqb colon a) (no-colon-text i h wh)
other_text (a ∷ i) (b ∷ j) h other wj wh = go (eqb b a) refl (λ n. other_text i j h n wj.1 wh)
  where
    go : (t : Bool) → eqb b a ≡ t → (¬ (i ≡ j) → key_text i (j ++ (colon ∷ h)) ≡ None) → cond (eqb b a) (key_text i (j ++ (colon ∷ h))) None ≡ None
    go true e ih = rw e (ih (λ same. other (ap₂ (λ (x : ℕ) (l : List ℕ). x ∷ l) (sym (eqb-true b a e)) same)))
    go false e ih = rw e

-- ---- lookup in a list of lines

abbrev first_hex : List ℕ → List Line → Option (List ℕ)
first_hex i [] = None
first_hex i (l ∷ ls) = cond (same i l.identity) (Some l.hex) (first_hex i ls)

text-of-lines : (i : List ℕ) (ls : List Line) → Each ValidLine ls → first_text i (map line_of ls) ≡ first_hex i ls
text-of-lines i [] h = refl
text-of-lines i (l ∷ ls) h = go (same i l.identity) refl (text-of-lines i ls h.1)
  where
    go : (t : Bool) → same i l.identity ≡ t → first_text i (map line_of ls) ≡ first_hex i ls → first_text i (map line_of (l ∷ ls)) ≡ first_hex i (l ∷ ls)
    go true e ih =
        let m : key_text i (line_of l) ≡ Some l.hex = rw (same-eq i l.identity e) (own-text l.identity l.hex) in
        rw (e, m)
    go false e ih =
        let differ : ¬ (i ≡ l.identity) = λ s. true≢false (sym (rw s (same_refl l.identity)) ∙ e) in
        let m = other_text i l.identity l.hex differ (identity-no-colon l h.0) (hex-no-colon l h.0) in
        rw (e, m) ih

key-of-lines : (t : List ℕ) (w : WellFormed t) (i : List ℕ) → key_of t i ≡ key_of_text (first_hex i w.lines)
unfolding key_of
key-of-lines t w i =
    ap (λ (ls : List (List ℕ)). key_of_text (first_text i ls)) (ap lines w.is ∙ lines-text w.lines w.valid)
    ∙ ap key_of_text (text-of-lines i w.lines w.valid)

pub key-is : (h : List ℕ) → valid_key h ≡ true → key_in h ≡ Some (decoded h)
key-is h v = rw v

-- ---- exactly what is listed

listed-other : (x i k : List ℕ) (ls : List Line) → Listed i k ls → Each (λ y. ¬ (x ≡ y)) (map identity_in ls) → ¬ (i ≡ x)
listed-other x i k [] m d = absurd m
listed-other x i k (l ∷ ls) (inl m) d = λ e. d.0 (sym e ∙ m.0)
listed-other x i k (l ∷ ls) (inr m) d = listed-other x i k ls m d.1

found-listed : (i k : List ℕ) (ls : List Line) → Each ValidLine ls → key_of_text (first_hex i ls) ≡ Some k → Listed i k ls
found-listed i k [] v e = absurd (none-some k e)
found-listed i k (l ∷ ls) v e = go (same i l.identity) refl (λ r. found-listed i k ls v.1 r)
  where
    go : (t : Bool) → same i l.identity ≡ t → (key_of_text (first_hex i ls) ≡ Some k → Listed i k ls) → Listed i k (l ∷ ls)
    go true s ih =
        let has : key_in l.hex ≡ Some k = rw s at e in
        inl (same-eq i l.identity s, cc (key-is l.hex (key-complete l.hex v.0.key)))
    go false s ih = inr (ih (rw s at e))

listed_found_lem : (i k : List ℕ) (ls : List Line) → Each ValidLine ls → Distinct (map identity_in ls) → Listed i k ls → key_of_text (first_hex i ls) ≡ Some k
listed_found_lem i k [] v d m = absurd m
listed_found_lem i k (l ∷ ls) v d (inl m) =
    rw (m.0, same_refl l.identity, m.1) (key-is l.hex (key-complete l.hex v.0.key))
listed_found_lem i k (l ∷ ls) v d (inr m) =
    rw (same_not i l.identity (listed-other l.identity i k ls m d.0)) (listed_found_lem i k ls v.1 d.1 m)

-- on a well-formed table lookup gives a key exactly where a line has it
pub lookup-exact : (t : List ℕ) (w : WellFormed t) (i k : List ℕ) → (key_of t i ≡ Some k) ↔ Listed i k w.lines
lookup-exact t w i k = (
  λ e. found-listed i k w.lines w.valid (sym (key-of-lines t w i) ∙ e),
  λ m. key-of-lines t w i ∙ listed_found_lem i k w.lines w.valid w.distinct m,
)

listed-valid : (i k : List ℕ) (ls : List Line) → Each ValidLine ls → Listed i k ls → valid_identity i ≡ true
listed-valid i k [] v m = absurd m
listed-valid i k (l ∷ ls) v (inl m) = rw m.0 (identity-complete l.identity v.0.identity)
listed-valid i k (l ∷ ls) v (inr m) = listed-valid i k ls v.1 m

-- an identity that no line may have is not listed: an empty one, one of over 128 bytes, or one with a wrong byte
pub malformed-unlisted : (t : List ℕ) → well_formed t ≡ true → (i : List ℕ) → valid_identity i ≡ false → key_of t i ≡ None
malformed-unlisted t h i bad = go (key_of t i) refl
  where
    go : (o : Option (List ℕ)) → key_of t i ≡ o → key_of t i ≡ None
    go None e = e
    go (Some k) e =
        let w = sound t h in
        absurd (true≢false (sym (listed-valid i k w.lines w.valid ((lookup-exact t w i k).0 e)) ∙ bad))

-- every key of every table has 1 to 64 bytes
pub key-size : (t i k : List ℕ) → key_of t i ≡ Some k → (1 ≤ length k) × (length k ≤ 64)
unfolding key_of
key-size t i k e = go (first_text i (lines t)) e
  where
    sized : (s : List ℕ) → Key s → k ≡ decoded s → (1 ≤ length k) × (length k ≤ 64)
    sized s v same = rw same (rw (length-decoded s) (omega arith, omega arith))

    with-text : (s : List ℕ) (t : Bool) → valid_key s ≡ t → key_in s ≡ Some k → (1 ≤ length k) × (length k ≤ 64)
    with-text s true v h = sized s (key-sound s v) (cc (key-is s v))
    with-text s false v h = absurd (none-some k (rw v at h))

    go : (o : Option (List ℕ)) → key_of_text o ≡ Some k → (1 ≤ length k) × (length k ≤ 64)
    go None h = absurd (none-some k h)
    go (Some s) h = with-text s (valid_key s) refl h
