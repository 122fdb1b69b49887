-- Reading a line from the front: how far the bytes of a class go from a place on, and what stands there in a valid line. A valid line that has its end
-- is plain bytes, a colon, digits and a 0A, and the plain bytes stop at the colon as the digits do at the 0A: so a stop at any other byte, or at the
-- end of the table, is in no such line.
-- Assumes nothing.
use mathlib.Core.Path.{◌≡◌, refl, sym, ap, ap₂, ◌∙◌}
use Prim.Native.Nat.{ℕ, zero, suc, ◌+◌, ◌-◌, ◌<◌}
use native.Mathlib.Omega.{arith}
use mathlib.Core.Bool.{Bool, true, false, ◌&&◌, true≢false}
use mathlib.Core.List.{List, [], ◌∷◌, ◌++◌, append_assoc}
use lib.ListN.{length, take, drop, get_or, length-append, length-drop}
use lib.Seq.{drop-drop, take-append_seam, drop-append_seam}
use lib.Dec.{eqb, ltb}
use borrow.Author.Tests.{eqb-true, ltb-true, lt-ltb}
use Rattle.utf8.specs.Utf8.{valid_utf8}
use Rattle.std.specs.Prelude.{None}
use Rattle.lists.specs.Lists.{each, part}
use Rattle.lists.proofs.Tests.{and_left, and_right, both}
use Rattle.lists.proofs.Walks.{left-cons}
use Rattle.keytable.specs.Table.{line_end, colon, upto, past, plain, between, hex_digit, identity_of, valid_identity, valid_key, valid_line}
use Rattle.keytable.specs.Starts.{line_at}
use Rattle.keytable.specs.Inner.{leading, sized_identity, sized_key, parts, line_parts}
use Rattle.keytable.specs.WellFormed.{Line, ValidLine}
use Rattle.keytable.proofs.Tests.{identity-sound, key-sound}
use Rattle.keytable.proofs.Texts.{upto-append, past-append, valid-parted, line_of, identity-no-colon, line-no-end}

byte-inside : (s : List ℕ) (i : ℕ) → ¬ (get_or s i 0 ≡ 0) → i < length s
byte-inside [] i h = absurd (h refl)
byte-inside (b ∷ s) zero h = omega arith
byte-inside (b ∷ s) (suc i) h = omega (arith, byte-inside s i h)

-- ---- the bytes of a class at the front

module _ (p : ℕ → Bool) where
  leading-parts : (s : List ℕ) → (each p (leading p s) ≡ true) × (leading p s ++ drop (length (leading p s)) s ≡ s)
  leading-parts [] = (refl, refl)
  leading-parts (b ∷ s) = go (p b) refl (leading-parts s)
    where
      go : (t : Bool) → p b ≡ t → (each p (leading p s) ≡ true) × (leading p s ++ drop (length (leading p s)) s ≡ s)
          → (each p (leading p (b ∷ s)) ≡ true) × (leading p (b ∷ s) ++ drop (length (leading p (b ∷ s))) (b ∷ s) ≡ b ∷ s)
      go true e (all, joined) = rw e (rw e all, ap (λ (l : List ℕ). b ∷ l) joined)
      go false e ih = rw e (refl, refl)

  leading-append : (s : List ℕ) (x : ℕ) (r : List ℕ) → each p s ≡ true → p x ≡ false → leading p (s ++ (x ∷ r)) ≡ s
  leading-append [] x r h stop = rw stop
  leading-append (b ∷ s) x r h stop =
      rw (and_left (p b) (each p s) h) (ap (λ (l : List ℕ). b ∷ l) (leading-append s x r (and_right (p b) (each p s) h) stop))

  -- where they end
  module _ (t : List ℕ) (at end : ℕ) (e : end ≡ at + length (leading p (drop at t))) where
    leading-then : leading p (drop at t) ++ drop end t ≡ drop at t
    leading-then =
        ap (λ (l : List ℕ). leading p (drop at t) ++ l) (ap (λ (i : ℕ). drop i t) e ∙ sym (drop-drop (length (leading p (drop at t))) at t))
        ∙ (leading-parts (drop at t)).1

    leading-part : part at (end - at) t ≡ leading p (drop at t)
    leading-part =
        let size : end - at ≡ length (leading p (drop at t)) = omega arith in
        rw size (ap (take (length (leading p (drop at t)))) (sym leading-then) ∙ take-append_seam (leading p (drop at t)) (drop end t))

    -- a byte of another class stands there
    leading-stops : (front : List ℕ) (x : ℕ) (back : List ℕ) → drop at t ≡ front ++ (x ∷ back) → each p front ≡ true → p x ≡ false
        → (end ≡ at + length front) × (end < length t) × (get_or t end 0 ≡ x) × (drop (end + 1) t ≡ back)
    leading-stops front x back is all stop =
        let there : end ≡ at + length front = e ∙ ap (λ (l : List ℕ). at + length l) (ap (leading p) is ∙ leading-append front x back all stop) in
        let size : length t - at ≡ length front + suc (length back) = sym (length-drop at t) ∙ ap length is ∙ length-append front (x ∷ back) in
        let inside : end < length t = omega arith in
        let left : drop end t ≡ x ∷ back =
        ap (λ (i : ℕ). drop i t) there ∙ sym (drop-drop (length front) at t) ∙ ap (drop (length front)) is ∙ drop-append_seam front (x ∷ back) in
        let next : get_or t end 0 ∷ drop (end + 1) t ≡ x ∷ back = sym (left-cons t end inside) ∙ left in
        (there, inside, cc, cc)

-- ---- a valid line that has its end

pub record Read (s : List ℕ) : Type 0 where
  pub identity : List ℕ
  pub hex : List ℕ
  pub back : List ℕ
  pub is : s ≡ identity ++ (colon ∷ (hex ++ (line_end ∷ back)))
  pub named : valid_identity identity ≡ true
  pub keyed : valid_key hex ≡ true

-- a list with an x in it is what stands before it, x, and what stands after it
upto-then : (x : ℕ) (s : List ℕ) → length (upto x s) < length s → s ≡ upto x s ++ (x ∷ past x s)
upto-then x [] h = absurd (omega arith)
upto-then x (b ∷ s) h = go (eqb b x) refl (λ k. upto-then x s k)
  where
    go : (t : Bool) → eqb b x ≡ t → (length (upto x s) < length s → s ≡ upto x s ++ (x ∷ past x s))
        → b ∷ s ≡ upto x (b ∷ s) ++ (x ∷ past x (b ∷ s))
    go true e ih = rw e (ap (λ (y : ℕ). y ∷ s) (eqb-true b x e))
    go false e ih = let less : suc (length (upto x s)) < suc (length s) = rw e at h in rw e (ap (λ (r : List ℕ). b ∷ r) (ih (omega arith)))

module _ (t : List ℕ) (at : ℕ) where
  abbrev whole : Bool
  whole = valid_line (line_at t at) && ltb (at + length (line_at t at)) (length t)

  whole-read : whole ≡ true → Read (drop at t)
  whole-read h =
      let l : List ℕ = line_at t at in
      let good : valid_line l ≡ true = and_left (valid_line l) (ltb (at + length l) (length t)) h in
      let inside : at + length l < length t = ltb-true _ _ (and_right (valid_line l) (ltb (at + length l) (length t)) h) in
      record {
        identity = identity_of l;
        hex = past colon l;
        back = past line_end (drop at t);
        is =
            upto-then line_end (drop at t) (omega (arith, inside, length-drop at t))
            ∙ ap (λ (i : List ℕ). i ++ (line_end ∷ past line_end (drop at t))) (sym (valid-parted l good))
            ∙ append_assoc (identity_of l) (colon ∷ past colon l) (line_end ∷ past line_end (drop at t));
        named = and_left (valid_identity (identity_of l)) (valid_key (past colon l)) good;
        keyed = and_right (valid_identity (identity_of l)) (valid_key (past colon l)) good;
      }

  no_line : (Read (drop at t) → ⊥) → None ≡ line_parts t at
  no_line none = go whole refl
    where
      go : (b : Bool) → whole ≡ b → None ≡ line_parts t at
      go true e = absurd (none (whole-read e))
      go false e = rw e

  read-line : (r : Read (drop at t)) → parts (at + length r.identity) (at + length r.identity + 1 + length r.hex) ≡ line_parts t at
  read-line r =
      let l : Line = record { identity = r.identity; hex = r.hex } in
      let v : ValidLine l = record { identity = identity-sound r.identity r.named; key = key-sound r.hex r.keyed } in
      let text : drop at t ≡ line_of l ++ (line_end ∷ r.back) = r.is ∙ sym (append_assoc r.identity (colon ∷ r.hex) (line_end ∷ r.back)) in
      let here : line_at t at ≡ line_of l = ap (upto line_end) text ∙ upto-append line_end (line_of l) r.back (line-no-end l v) in
      let identity : identity_of (line_at t at) ≡ r.identity =
      ap (upto colon) here ∙ upto-append colon r.identity r.hex (identity-no-colon l v) in
      let key : past colon (line_at t at) ≡ r.hex = ap (past colon) here ∙ past-append colon r.identity r.hex (identity-no-colon l v) in
      let size : length (line_at t at) ≡ length r.identity + suc (length r.hex) = ap length here ∙ length-append r.identity (colon ∷ r.hex) in
      let more : length t - at ≡ length (line_of l) + suc (length r.back) =
      sym (length-drop at t) ∙ ap length text ∙ length-append (line_of l) (line_end ∷ r.back) in
      let inside : at + length (line_at t at) < length t = omega (arith, more, ap length here) in
      let good : whole ≡ true = both (both (ap valid_identity identity ∙ r.named) (ap valid_key key ∙ r.keyed)) (lt-ltb _ _ inside) in
      rw good (ap₂ parts (ap (λ (i : List ℕ). at + length i) (sym identity)) (omega (arith, size)))

-- ---- what is tested of the bytes one by one, and what else

identity-tests : (s : List ℕ) → valid_identity s ≡ true → (each plain s ≡ true) × (sized_identity s ≡ true)
identity-tests s h =
    let size = between 1 128 (length s) in
    let front = and_left (size && each plain s) (valid_utf8 s) h in
    (and_right size (each plain s) front, both (and_left size (each plain s) front) (and_right (size && each plain s) (valid_utf8 s) h))

key-tests : (s : List ℕ) → valid_key s ≡ true → (each hex_digit s ≡ true) × (sized_key (length s) ≡ true)
key-tests s h = (and_right (sized_key (length s)) (each hex_digit s) h, and_left (sized_key (length s)) (each hex_digit s) h)

-- ---- what the places say at which the plain bytes and then the digits end

module _ (t : List ℕ) (at c : ℕ) (plain_end : c ≡ at + length (leading plain (drop at t))) where
  at-colon : (r : Read (drop at t))
      → (c ≡ at + length r.identity) × (c < length t) × (get_or t c 0 ≡ colon) × (drop (c + 1) t ≡ r.hex ++ (line_end ∷ r.back))
  at-colon r = leading-stops plain t at c plain_end r.identity colon _ r.is (identity-tests r.identity r.named).0 refl

  pub other-colon : ¬ (get_or t c 0 ≡ colon) → None ≡ line_parts t at
  other-colon h = no_line t at (λ r. h (at-colon r).2)

  module _ (end : ℕ) (digits-end : end ≡ c + 1 + length (leading hex_digit (drop (c + 1) t))) where
    at-end : (r : Read (drop at t)) → (end ≡ c + 1 + length r.hex) × (end < length t) × (get_or t end 0 ≡ line_end) × (drop (end + 1) t ≡ r.back)
    at-end r =
        leading-stops hex_digit t (c + 1) end digits-end r.hex line_end r.back (at-colon r).3 (key-tests r.hex r.keyed).0 refl

    pub other-end : ¬ (get_or t end 0 ≡ line_end) → None ≡ line_parts t at
    other-end h = no_line t at (λ r. h (at-end r).2)

    pub key-unsized : sized_key (end - (c + 1)) ≡ false → None ≡ line_parts t at
    key-unsized bad = no_line t at none
      where
        none : Read (drop at t) → ⊥
        none r =
            let size : end - (c + 1) ≡ length r.hex = omega (arith, (at-end r).0) in
            true≢false (sym (ap sized_key size ∙ (key-tests r.hex r.keyed).1) ∙ bad)

    pub identity-unsized : sized_identity (part at (c - at) t) ≡ false → None ≡ line_parts t at
    identity-unsized bad = no_line t at none
      where
        none : Read (drop at t) → ⊥
        none r =
            let all = identity-tests r.identity r.named in
            let here : part at (c - at) t ≡ r.identity =
            leading-part plain t at c plain_end ∙ ap (leading plain) r.is ∙ leading-append plain r.identity colon _ all.0 refl in
            true≢false (sym (ap sized_identity here ∙ all.1) ∙ bad)

    pub line-there : get_or t c 0 ≡ colon → get_or t end 0 ≡ line_end → sized_key (end - (c + 1)) ≡ true
        → sized_identity (part at (c - at) t) ≡ true → parts c end ≡ line_parts t at
    line-there ec ee key identity =
        let hc = byte-inside t c (λ z. omega (arith, ec, z)) in
        let he = byte-inside t end (λ z. omega (arith, ee, z)) in
        let name : List ℕ = leading plain (drop at t) in
        let hex : List ℕ = leading hex_digit (drop (c + 1) t) in
        let size : end - (c + 1) ≡ length hex = omega arith in
        let named : sized_identity name ≡ true = rw (leading-part plain t at c plain_end) at identity in
        let keyed : sized_key (length hex) ≡ true = rw size at key in
        let r : Read (drop at t) = record {
          identity = name;
          hex = hex;
          back = drop (end + 1) t;
          is =
              sym (leading-then plain t at c plain_end)
              ∙ ap (λ (l : List ℕ). name ++ l)
              (left-cons t c hc ∙ ap₂ (λ (x : ℕ) (l : List ℕ). x ∷ l) ec
              (sym (leading-then hex_digit t (c + 1) end digits-end)
              ∙ ap (λ (l : List ℕ). hex ++ l) (left-cons t end he ∙ ap (λ (x : ℕ). x ∷ drop (end + 1) t) ee)));
          named =
              both (both (and_left (between 1 128 (length name)) (valid_utf8 name) named) (leading-parts plain (drop at t)).0)
              (and_right (between 1 128 (length name)) (valid_utf8 name) named);
          keyed = both keyed (leading-parts hex_digit (drop (c + 1) t)).0;
        } in
        ap₂ parts plain_end (digits-end ∙ ap (λ (n : ℕ). n + 1 + length hex) plain_end) ∙ read-line t at r
