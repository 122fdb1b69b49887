-- Where an identity's line stands in a well-formed table, and what the edits make of the table and its list there. Assumes nothing.
use mathlib.Core.Path.{◌≡◌, refl, sym, ap, ap₂, ◌∙◌}
use Prim.Native.Nat.{ℕ, suc, ◌+◌, ◌-◌, ◌*◌, ◌≤◌}
use native.Mathlib.Omega.{arith}
use mathlib.Core.Bool.{Bool, true, false, cond}
use mathlib.Core.List.{List, [], ◌∷◌, ◌++◌, map, append_assoc, append-nil, map-append}
use lib.ListN.{length, take, drop, length-append}
use lib.Seq.{take_at, drop_at, drop-drop}
use Rattle.std.proofs.lemmas.Option.{none-some}
use Rattle.std.specs.Prelude.{Option, None, Some}
use Rattle.lists.specs.Lists.{each, same, Each, Distinct}
use Rattle.lists.proofs.Tests.{and_left, and_right}
use Rattle.lists.proofs.Equal.{same-eq, same_refl, same_not}
use Rattle.lists.proofs.Every.{each_append, every_map}
use Rattle.lists.proofs.Distinct.{any_append, distinct-middle}
use Rattle.keytable.specs.Table.{line_end, colon, upto, past, lines, joined, key_text}
use Rattle.keytable.specs.Table.{first_text, identity_of, valid_identity, valid_line, well_formed}
use Rattle.keytable.specs.Starts.{hit, starts_from, starts_of, placed}
use Rattle.keytable.specs.WellFormed.{Plain, LineRemoved}
use Rattle.keytable.proofs.Tests.{identity-sound}
use Rattle.keytable.proofs.Texts.{Without, upto-append, ended-joined, joined-lines, parted, valid-parted, line-no-end}
use Rattle.keytable.proofs.Agreement.{identities-sound, line-sound, well-formed-tests}
use Rattle.keytable.proofs.Lookups.{own-text}
use Rattle.keytable.proofs.Listed.{lines-there}
use Rattle.keytable.proofs.Spots.{Spot, spot, nowhere, joined-append}
use Rattle.table_edits.specs.Edits.{line_with, is_line_of, listed, others, lines_after, replace, retire, lower_hex}
use Rattle.table_edits.specs.Inner.{spliced, shifted, Starting}
use Rattle.table_edits.proofs.Digits.{length-hex}
use Rattle.table_edits.proofs.Starts.{changed-starts, removed-starts, behind-bounds}

-- ---- lines of other identities

Others : List ℕ → List (List ℕ) → Type 0
Others i ls = Each (λ x. ¬ (i ≡ x)) (map identity_of ls)

module _ (i : List ℕ) where
  not_listed : (ls : List (List ℕ)) → Others i ls → listed i ls ≡ false
  unfolding Others
  not_listed [] d = refl
  not_listed (l ∷ ls) d = rw (same_not i (identity_of l) d.0) (not_listed ls d.1)

  others-stay : (ls : List (List ℕ)) → Others i ls → others i ls ≡ ls
  unfolding Others
  others-stay [] d = refl
  others-stay (l ∷ ls) d = rw (same_not i (identity_of l) d.0) (ap (λ (r : List (List ℕ)). l ∷ r) (others-stay ls d.1))

  replace-stays : (k : List ℕ) (ls : List (List ℕ)) → Others i ls → lines_after (replace i k) ls ≡ ls
  unfolding Others
  replace-stays k [] d = refl
  replace-stays k (l ∷ ls) d = rw (same_not i (identity_of l) d.0) (ap (λ (r : List (List ℕ)). l ∷ r) (replace-stays k ls d.1))

  pub others-append : (xs ys : List (List ℕ)) → others i (xs ++ ys) ≡ others i xs ++ others i ys
  others-append [] ys = refl
  others-append (x ∷ xs) ys = go (is_line_of i x) (others-append xs ys)
    where
      go : (b : Bool) → others i (xs ++ ys) ≡ others i xs ++ others i ys
          → cond b (others i (xs ++ ys)) (x ∷ others i (xs ++ ys)) ≡ cond b (others i xs) (x ∷ others i xs) ++ others i ys
      go true ih = ih
      go false ih = ap (λ (r : List (List ℕ)). x ∷ r) ih

  pub few-others : (ls : List (List ℕ)) → length (others i ls) ≤ length ls
  few-others [] = omega arith
  few-others (l ∷ ls) = go (is_line_of i l) (few-others ls)
    where
      go : (b : Bool) → length (others i ls) ≤ length ls → length (cond b (others i ls) (l ∷ others i ls)) ≤ suc (length ls)
      go true ih = omega arith
      go false ih = omega arith

-- one line of the identity, among others
module _ (i : List ℕ) (xs : List (List ℕ)) (l : List ℕ) (ys : List (List ℕ)) (own : is_line_of i l ≡ true)
    (apart : Distinct (map identity_of (xs ++ (l ∷ ys)))) where
  around : Others i xs × Others i ys
  unfolding Others
  around = distinct-middle (map identity_of xs) i (map identity_of ys) (rw identities at apart)
    where
      identities : map identity_of (xs ++ (l ∷ ys)) ≡ map identity_of xs ++ (i ∷ map identity_of ys)
      identities =
          map-append identity_of xs (l ∷ ys)
          ∙ ap (λ (x : List ℕ). map identity_of xs ++ (x ∷ map identity_of ys)) (sym (same-eq i (identity_of l) own))

  present-there : listed i (xs ++ (l ∷ ys)) ≡ true
  present-there = any_append (is_line_of i) xs (l ∷ ys) ∙ rw (not_listed i xs around.0, own)

  pub replaced-there : (k : List ℕ) → lines_after (replace i k) (xs ++ (l ∷ ys)) ≡ xs ++ (line_with i k ∷ ys)
  replaced-there k =
      map-append (λ x. cond (is_line_of i x) (line_with i k) x) xs (l ∷ ys)
      ∙ rw (replace-stays i k xs around.0, own, replace-stays i k ys around.1)

  pub retired-there : lines_after (retire i) (xs ++ (l ∷ ys)) ≡ xs ++ ys
  retired-there = others-append i xs (l ∷ ys) ∙ rw (others-stay i xs around.0, own, others-stay i ys around.1)

-- valid lines in which nothing follows the identity and a colon are those of others
unlisted : (i : List ℕ) (ls : List (List ℕ)) → each valid_line ls ≡ true → first_text i ls ≡ None → listed i ls ≡ false
unlisted i [] v e = refl
unlisted i (l ∷ ls) v e = go (key_text i l) refl (λ f. unlisted i ls (and_right (valid_line l) (each valid_line ls) v) f)
  where
    go : (o : Option (List ℕ)) → key_text i l ≡ o → (first_text i ls ≡ None → listed i ls ≡ false) → listed i (l ∷ ls) ≡ false
    go (Some s) h ih = absurd (none-some s (sym (rw h at e)))
    go None h ih =
        let own : i ≡ identity_of l → ⊥ = λ m.
        let whole = valid-parted l (and_left (valid_line l) (each valid_line ls) v) in
        let found : key_text i l ≡ Some (past colon l) =
        ap₂ key_text m (sym whole) ∙ own-text (upto colon l) (past colon l) in
        none-some (past colon l) (sym h ∙ found) in
        rw (same_not i (identity_of l) own) (ih (rw h at e))

module _ (t i : List ℕ) (w : well_formed t ≡ true) where
  pub absent-unlisted : placed 0 i t (starts_of t) ≡ None → listed i (lines t) ≡ false
  absent-unlisted e =
      unlisted i (lines t) (well-formed-tests t w).3 (ap (first_text i) (sym (lines-there t)) ∙ nowhere t i 0 (starts_of t) e)

  whole : joined (lines t) ≡ t
  whole = joined-lines t (well-formed-tests t w).1

  module _ (good : valid_identity i ≡ true) (n from to : ℕ) (e : placed 0 i t (starts_of t) ≡ hit n from to) where
    abbrev line : Spot i 0 0 (lines t) n from to
    line = spot t i 0 0 (lines t) n from to (lines-there t) e

    no-colon : Without colon i
    no-colon = every_map Plain _ (λ b h. h.no-colon) i (identity-sound i good).plain

    own : is_line_of i (i ++ (colon ∷ line.hex)) ≡ true
    own = ap (same i) (upto-append colon i line.hex no-colon) ∙ same_refl i

    apart : Distinct (map identity_of (line.front ++ ((i ++ (colon ∷ line.hex)) ∷ line.back)))
    apart = rw line.split at (identities-sound (map identity_of (lines t)) (well-formed-tests t w).4)

    pub present-listed : listed i (lines t) ≡ true
    present-listed = ap (listed i) line.split ∙ present-there i line.front (i ++ (colon ∷ line.hex)) line.back own apart

    replaced-lines : (k : List ℕ) → lines_after (replace i k) (lines t) ≡ line.front ++ (line_with i k ∷ line.back)
    replaced-lines k =
        ap (lines_after (replace i k)) line.split ∙ replaced-there i line.front (i ++ (colon ∷ line.hex)) line.back own apart k

    retired-lines : lines_after (retire i) (lines t) ≡ line.front ++ line.back
    retired-lines = ap (others i) line.split ∙ retired-there i line.front (i ++ (colon ∷ line.hex)) line.back own apart

    -- the line's parts in the table: what stands before the key's digits, the digits, and what stands behind them
    abbrev ahead : List ℕ
    ahead = joined line.front ++ (i ++ (colon ∷ []))

    abbrev behind : List ℕ
    behind = line_end ∷ joined line.back

    parts : t ≡ ahead ++ (line.hex ++ behind)
    parts =
        sym whole ∙ ap joined line.split ∙ joined-append line.front ((i ++ (colon ∷ line.hex)) ∷ line.back) ∙ simp append_assoc

    length-ahead : length ahead ≡ from
    length-ahead =
        let a = length-append (joined line.front) (i ++ (colon ∷ [])) in
        let b = length-append i (colon ∷ []) in
        omega (arith, line.starts)

    drop-digits : drop to t ≡ behind
    drop-digits =
        let size : length (ahead ++ line.hex) ≡ to = length-append ahead line.hex ∙ omega (arith, length-ahead, line.ends) in
        ap (drop to) (parts ∙ sym (append_assoc ahead line.hex behind)) ∙ drop_at (ahead ++ line.hex) behind to size

    -- the identity and its colon stand before the digits, and a 0A behind them
    pub line-bounds : (length i + 1 ≤ from) × (from ≤ to) × (to + 1 ≤ length t)
    line-bounds =
        let a = ap length parts ∙ length-append ahead (line.hex ++ behind) in
        let b = length-append line.hex behind in
        let c = length-ahead in
        (omega (arith, line.starts), omega (arith, line.ends), omega (arith, line.ends))

    pub replaced-text : (k : List ℕ) → spliced from to (lower_hex k) t ≡ joined (lines_after (replace i k) (lines t))
    replaced-text k =
        let grouped : ahead ++ lower_hex k ++ behind ≡ joined line.front ++ (line_with i k ++ behind) = simp append_assoc in
        ap₂ (λ (a : List ℕ) (b : List ℕ). a ++ lower_hex k ++ b)
        (ap (take from) parts ∙ take_at ahead (line.hex ++ behind) from length-ahead) drop-digits
        ∙ grouped ∙ sym (ap joined (replaced-lines k) ∙ joined-append line.front (line_with i k ∷ line.back))

    pub retired-text : (start : ℕ) → start ≡ from - 1 - length i → spliced start (to + 1) [] t ≡ joined (lines_after (retire i) (lines t))
    retired-text start e =
        let at : length (joined line.front) ≡ start = omega (arith, line.starts) in
        let first : t ≡ joined line.front ++ ((i ++ (colon ∷ [])) ++ (line.hex ++ behind)) =
        parts ∙ append_assoc (joined line.front) (i ++ (colon ∷ [])) (line.hex ++ behind) in
        ap₂ (λ (a : List ℕ) (b : List ℕ). a ++ [] ++ b)
        (ap (take start) first ∙ take_at (joined line.front) ((i ++ (colon ∷ [])) ++ (line.hex ++ behind)) start at)
        (sym (drop-drop 1 to t) ∙ ap (drop 1) drop-digits)
        ∙ rw (append-nil (joined line.front))
        (sym (ap joined retired-lines ∙ joined-append line.front line.back))

    -- ---- the list

    index : n ≡ length line.front
    index = omega (arith, line.index)

    pub line-counted : n + 1 ≤ length (lines t)
    line-counted = omega (arith, index, ap length line.split ∙ length-append line.front ((i ++ (colon ∷ line.hex)) ∷ line.back))

    -- behind the line's 0A
    next-starts : length (joined line.front) + length (i ++ (colon ∷ line.hex)) + 1 ≡ to + 1
    next-starts = omega (arith, length-append i (colon ∷ line.hex), line.starts, line.ends)

    -- the starts behind the line, and their bounds
    pub behind-starts : Starting (to + 1) (length t) (n + 1) (length (lines t)) (starts_of t)
    behind-starts j low high =
        let bounds = behind-bounds line.front (i ++ (colon ∷ line.hex)) line.back j (omega (arith, index))
        (rw line.split at high) in
        rw (← line.split, next-starts, whole) at bounds

    pub replaced-starts : (k : List ℕ) → starts_from 0 (lines_after (replace i k) (lines t))
        ≡ take (n + 1) (starts_of t) ++ map (shifted to (from + 2 * length k)) (drop (n + 1) (starts_of t))
    replaced-starts k =
        let l : List ℕ = i ++ (colon ∷ line.hex) in
        let size = length-append i (colon ∷ lower_hex k) in
        let digits = length-hex k in
        ap (starts_from 0) (replaced-lines k)
        ∙ rw (← line.split, ← index) at
        (changed-starts line.front l line.back to (from + 2 * length k) (omega (arith, next-starts)) (line_with i k)
        (omega (arith, next-starts, line.starts)))

    pub retired-starts : (start : ℕ) → start ≡ from - 1 - length i → starts_from 0 (lines_after (retire i) (lines t))
        ≡ take n (starts_of t) ++ map (shifted (to + 1) start) (drop (n + 1) (starts_of t))
    retired-starts start e =
        let l : List ℕ = i ++ (colon ∷ line.hex) in
        ap (starts_from 0) retired-lines
        ∙ rw (← line.split, ← index) at
        (removed-starts line.front l line.back (to + 1) start (omega (arith, next-starts)) (omega (arith, next-starts, line.starts)))

    -- demand 3's "without one identity's line"
    pub line-removed : LineRemoved i t (joined (lines_after (retire i) (lines t)))
    line-removed =
        let l : List ℕ = i ++ (colon ∷ line.hex) in
        let all = rw line.split at (well-formed-tests t w).3 in
        let valid : valid_line l ≡ true =
        and_left (valid_line l) (each valid_line line.back) (each_append valid_line line.front (l ∷ line.back) all).1 in
        record {
          front = joined line.front;
          hex = line.hex;
          back = joined line.back;
          starts = ended-joined line.front;
          one_line = rw (valid-parted l valid) at (line-no-end (parted l) (line-sound l valid));
          one-colon = no-colon;
          first = parts ∙ simp append_assoc;
          second = ap joined retired-lines ∙ joined-append line.front line.back;
        }
