-- What the writes of an edit leave in the memory: a line behind the table, digits in the place of others, a line taken out. Assumes nothing.
use mathlib.Core.Path.{◌≡◌, sym, ap, ap₂, ◌∙◌}
use Prim.Native.Nat.{ℕ, suc, ◌+◌, ◌-◌, ◌≤◌, ◌<◌}
use native.Mathlib.Omega.{arith}
use native.Mathlib.Numerals.{add-one}
use mathlib.Core.List.{List, [], ◌∷◌, ◌++◌, append_assoc, append-nil}
use lib.ListN.{length, take, drop, get_or, set, length-append, length-drop, drop_of_length-le}
use lib.Seq.{take_at, drop_at, set_at, take-append-le, take-take, take-add, take-length, take-suc-set, drop-cons, append_snoc, length-take-le}
use borrow.Rule.Slice.PartMut.{put_mid, same_len_mid, mid_len, Post-is}
use Rattle.lists.specs.Lists.{part}
use Rattle.keytable.specs.Table.{line_end, colon}
use Rattle.std.specs.List.{copy_within}
use Rattle.table_edits.specs.Inner.{spliced}

-- bytes in a part of their length leave the length
pub length-put : (out bytes : List ℕ) (from to : ℕ) → from + length bytes ≡ to → to ≤ length out
    → length (put_mid from (to - from) out bytes) ≡ length out
length-put out bytes from to e inside = same_len_mid from (to - from) out bytes (omega (arith, mid_len from to out inside))

-- ---- a line

-- the identity was copied, and a colon set behind it
pub colon-written : (identity out copied : List ℕ) (n : ℕ) → n ≡ length identity → length identity < length out
    → copied ≡ take (length identity) identity ++ drop (length identity) out → take (n + 1) (set copied n colon) ≡ identity ++ (colon ∷ [])
colon-written identity out copied n e room copy =
    let whole : copied ≡ identity ++ drop n out = copy ∙ rw (take-length identity, e) in
    let size : length copied ≡ length identity + length (drop n out) = ap length whole ∙ length-append identity (drop n out) in
    ap (λ (k : ℕ). take k (set copied n colon)) (add-one n)
    ∙ take-suc-set copied n colon (omega (arith, length-drop n out))
    ∙ ap (λ (l : List ℕ). take n l ++ (colon ∷ [])) whole ∙ ap (λ (l : List ℕ). l ++ (colon ∷ [])) (take_at identity (drop n out) n (sym e))

-- the digits were put behind the colon, and a 0A set behind them
pub line-written : (identity hex out : List ℕ) (digits end : ℕ) → take digits out ≡ identity ++ (colon ∷ []) → length identity + 1 ≡ digits
    → digits + length hex ≡ end → length out ≡ end + 1
    → set (put_mid digits (end - digits) out hex) end line_end ≡ identity ++ (colon ∷ hex) ++ (line_end ∷ [])
line-written identity hex out digits end front at size room =
    let ahead : List ℕ = identity ++ (colon ∷ hex) in
    let joined : identity ++ (colon ∷ []) ++ hex ≡ ahead = append_snoc identity colon hex in
    let last : drop end out ≡ get_or out end 0 ∷ [] =
    drop-cons out end 0 (omega arith) ∙ ap (λ (r : List ℕ). get_or out end 0 ∷ r) (drop_of_length-le out {i = suc end} (omega arith)) in
    let sizes = length-append identity (colon ∷ hex) in
    ap (λ (r : List ℕ). set r end line_end)
    (ap₂ (λ (a : List ℕ) (b : List ℕ). a ++ (hex ++ b)) front (Post-is digits end out (omega arith) ∙ last)
    ∙ sym (append_assoc (identity ++ (colon ∷ [])) hex (get_or out end 0 ∷ []))
    ∙ ap (λ (a : List ℕ). a ++ (get_or out end 0 ∷ [])) joined)
    ∙ set_at ahead (get_or out end 0) [] line_end end (omega arith)

-- the line was put behind the first n bytes
pub line-appended : (s line : List ℕ) (n end : ℕ) → n ≤ end → put_mid n (end - n) s line ≡ take n s ++ line ++ drop end s
line-appended s line n end h =
    ap (λ (r : List ℕ). take n s ++ (line ++ r)) (Post-is n end s h) ∙ sym (append_assoc (take n s) line (drop end s))

-- ---- a part in the place of another

-- what stands behind a place of a list's front
pub front-behind : (s : List ℕ) (at n : ℕ) → at ≤ n → n ≤ length s → drop at (take n s) ≡ part at (n - at) s
front-behind s at n h inside =
    let size : n ≡ at + (n - at) = omega arith in
    ap (λ (k : ℕ). drop at (take k s)) size ∙ ap (drop at) (take-add at (n - at) s)
    ∙ drop_at (take at s) (part at (n - at) s) at (length-take-le at s (omega arith))

pub length-spliced : (from to : ℕ) (bytes s : List ℕ) → from ≤ length s → length (spliced from to bytes s) ≡ from + length bytes + (length s - to)
length-spliced from to bytes s h =
    let a = length-append (take from s ++ bytes) (drop to s) in
    let b = length-append (take from s) bytes in
    omega (arith, length-take-le from s h, length-drop to s)

module _ (s : List ℕ) (from to n : ℕ) (ordered : from ≤ to) (within : to ≤ n) (inside : n ≤ length s) where
  spliced-front : (bytes : List ℕ) → spliced from to bytes (take n s) ≡ take from s ++ bytes ++ part to (n - to) s
  spliced-front bytes =
      ap₂ (λ (a : List ℕ) (b : List ℕ). a ++ bytes ++ b) (take-take from n s (omega arith)) (front-behind s to n within inside)

  -- the part behind was moved to where the new bytes end, and these were put in their place
  pub digits-written : (hex : List ℕ) (end : ℕ) → end ≡ from + length hex → end + (n - to) ≤ length s
      → put_mid from (end - from) (copy_within s to n end) hex ≡ spliced from to hex (take n s) ++ drop (end + (n - to)) s
  digits-written hex end e room =
      let behind : List ℕ = part to (n - to) s ++ drop (end + (n - to)) s in
      let size = length-take-le end s (omega arith) in
      let there : copy_within s to n end ≡ take end s ++ behind = append_assoc (take end s) (part to (n - to) s) (drop (end + (n - to)) s) in
      let front : take from (copy_within s to n end) ≡ take from s =
      ap (take from) there ∙ take-append-le from (take end s) behind (omega arith) ∙ take-take from end s (omega arith) in
      let back : drop end (copy_within s to n end) ≡ behind = ap (drop end) there ∙ drop_at (take end s) behind end size in
      let grouped : take from s ++ (hex ++ behind) ≡ take from s ++ hex ++ part to (n - to) s ++ drop (end + (n - to)) s = simp append_assoc in
      ap₂ (λ (a : List ℕ) (b : List ℕ). a ++ (hex ++ b)) front (Post-is from end (copy_within s to n end) (omega arith) ∙ back)
      ∙ grouped ∙ ap (λ (r : List ℕ). r ++ drop (end + (n - to)) s) (sym (spliced-front hex))

  pub cut_out : copy_within s to n from ≡ spliced from to [] (take n s) ++ drop (from + (n - to)) s
  cut_out =
      ap (λ (r : List ℕ). r ++ part to (n - to) s ++ drop (from + (n - to)) s) (sym (append-nil (take from s)))
      ∙ ap (λ (r : List ℕ). r ++ drop (from + (n - to)) s) (sym (spliced-front []))
