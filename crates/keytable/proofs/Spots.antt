-- The line that the search by a list finds: with any list, where its key's text stands; with the table's own list, also what stands before it and
-- behind it.
-- Assumes nothing.
use mathlib.Core.Path.{◌≡◌, refl, sym, ap, ap₂, ◌∙◌}
use Prim.Native.Nat.{ℕ, suc, ◌+◌, ◌-◌, ◌≤◌, ◌<◌}
use native.Mathlib.Omega.{arith}
use mathlib.Core.Bool.{Bool, true, false}
use mathlib.Core.List.{List, [], ◌∷◌, ◌++◌, map, append_assoc}
use lib.ListN.{length, take, drop, length-append, length-drop, take-append-drop}
use lib.Dec.{eqb}
use borrow.Author.Tests.{eqb-true, le-leb, lt-leb}
use Rattle.std.proofs.lemmas.Option.{none-some, same_Some}
use Rattle.std.specs.Prelude.{Option, None, Some}
use Rattle.std.specs.List.{slice_range}
use Rattle.lists.specs.Lists.{part}
use Rattle.lists.proofs.Parts.{part-there}
use Rattle.refusal.specs.Lent.{refuses}
use Rattle.refusal.specs.declared.Refusal.TheVariants.{BadList}
use Rattle.keytable.specs.Table.{line_end, colon, joined, key_text, or_else, first_text, key_in, key_of_text}
use Rattle.keytable.specs.Table as Table
use Rattle.keytable.specs.declared.entries.Hit.{Hit}
use Rattle.keytable.specs.Starts.{hit, starts_from, line_at, placed, key_at, looked_up}
use Rattle.keytable.proofs.Lines.{take-upto}

pub text-line : (i l s : List ℕ) → key_text i l ≡ Some s → l ≡ i ++ (colon ∷ s)
text-line [] [] s e = absurd (none-some s e)
text-line [] (b ∷ l) s e = go (eqb b colon) refl
  where
    go : (t : Bool) → eqb b colon ≡ t → b ∷ l ≡ colon ∷ s
    go true h = ap₂ (λ (x : ℕ) (r : List ℕ). x ∷ r) (eqb-true b colon h) (let f : Some l ≡ Some s = rw h at e in cc)
    go false h = absurd (none-some s (rw h at e))
text-line (a ∷ i) [] s e = absurd (none-some s e)
text-line (a ∷ i) (b ∷ l) s e = go (eqb b a) refl (λ f. text-line i l s f)
  where
    go : (t : Bool) → eqb b a ≡ t → (key_text i l ≡ Some s → l ≡ i ++ (colon ∷ s)) → b ∷ l ≡ a ∷ i ++ (colon ∷ s)
    go true h ih = ap₂ (λ (x : ℕ) (r : List ℕ). x ∷ r) (eqb-true b a h) (ih (rw h at e))
    go false h ih = absurd (none-some s (rw h at e))

-- ---- any list

-- what follows the identity and its colon in the line at s
module _ (t i : List ℕ) (s : ℕ) (x : List ℕ) (e : key_text i (line_at t s) ≡ Some x) where
  here : drop s t ≡ (i ++ (colon ∷ [])) ++ (x ++ drop (length (line_at t s)) (drop s t))
  here =
      let behind : List ℕ = drop (length (line_at t s)) (drop s t) in
      sym (take-append-drop (length (line_at t s)) (drop s t)) ∙ ap (λ (l : List ℕ). l ++ behind) (take-upto line_end (drop s t) ∙ text-line i (line_at t s) x e)
      ∙ simp append_assoc

  pub size : length (line_at t s) ≡ length i + suc (length x)
  size = ap length (text-line i (line_at t s) x e) ∙ length-append i (colon ∷ x)

  text-behind : drop (s + (length i + 1)) t ≡ x ++ drop (length (line_at t s)) (drop s t)
  text-behind = (part-there t (i ++ (colon ∷ [])) _ s (length i + 1) here (length-append i (colon ∷ []))).1

  pub text-ordered : s + length i + 1 ≤ s + length (line_at t s)
  text-ordered = omega (arith, size)

  pub text-within : s + length (line_at t s) ≤ length t
  text-within =
      let a = ap length here ∙ length-append (i ++ (colon ∷ [])) (x ++ drop (length (line_at t s)) (drop s t)) in
      let b = length-append i (colon ∷ []) in
      let c = length-append x (drop (length (line_at t s)) (drop s t)) in
      omega (arith, size, length-drop s t)

  text-there : part (s + length i + 1) (s + length (line_at t s) - (s + length i + 1)) t ≡ x
  text-there =
      let from : s + (length i + 1) ≡ s + length i + 1 = omega arith in
      let n : length x ≡ s + length (line_at t s) - (s + length i + 1) = omega (arith, size) in
      (part-there t x _ (s + length i + 1) _ (rw from at text-behind) n).0

-- the line that a search finds
pub record Found (t i starts : List ℕ) (from to : ℕ) : Type 0 where
  pub ordered : from ≤ to
  pub within : to ≤ length t
  pub text : first_text i (map (line_at t) starts) ≡ Some (part from (to - from) t)

-- a hit is one line and one part
pub same-hit : {k a b k' a' b' : ℕ} → hit k a b ≡ hit k' a' b' → (k ≡ k') × (a ≡ a') × (b ≡ b')
same-hit e =
    let same = same_Some _ _ e in
    (ap (λ (h : Hit). h.line) same, ap (λ (h : Hit). h.from) same, ap (λ (h : Hit). h.to) same)

pub found : (t i : List ℕ) (k : ℕ) (starts : List ℕ) (line from to : ℕ) → placed k i t starts ≡ hit line from to → Found t i starts from to
found t i k [] line from to e = let z : ◌≡◌ {A = ℕ} 0 1 = cc in absurd (omega arith)
found t i k (s ∷ ss) line from to e = go (key_text i (line_at t s)) refl (λ f. found t i (k + 1) ss line from to f)
  where
    own : (x : List ℕ) → key_text i (line_at t s) ≡ Some x → Found t i (s ∷ ss) from to
    own x h =
        let same : hit k (s + length i + 1) (s + length (line_at t s)) ≡ hit line from to = rw h at e in
        let (_, starts, ends) = same-hit same in
        record {
          ordered = rw (← starts, ← ends) (text-ordered t i s x h);
          within = rw (← ends) (text-within t i s x h);
          text = rw (h, ← starts, ← ends) (ap Some (sym (text-there t i s x h)));
        }

    go : (o : Option (List ℕ)) → key_text i (line_at t s) ≡ o → (placed (k + 1) i t ss ≡ hit line from to → Found t i ss from to)
        → Found t i (s ∷ ss) from to
    go (Some x) h ih = own x h
    go None h ih =
        let r = ih (rw h at e) in
        record { ordered = r.ordered; within = r.within; text = rw h r.text }

pub nowhere : (t i : List ℕ) (k : ℕ) (starts : List ℕ) → placed k i t starts ≡ None → first_text i (map (line_at t) starts) ≡ None
nowhere t i k [] e = refl
nowhere t i k (s ∷ ss) e = go (key_text i (line_at t s)) refl (λ f. nowhere t i (k + 1) ss f)
  where
    go : (o : Option (List ℕ)) → key_text i (line_at t s) ≡ o → (placed (k + 1) i t ss ≡ None → first_text i (map (line_at t) ss) ≡ None)
        → first_text i (map (line_at t) (s ∷ ss)) ≡ None
    go (Some x) h ih =
        let f : hit k (s + length i + 1) (s + length (line_at t s)) ≡ None = rw h at e in
        let z : ◌≡◌ {A = ℕ} 0 1 = cc in
        absurd (omega arith)
    go None h ih = rw h (ih (rw h at e))

pub key-listed : (t i starts : List ℕ) (from to : ℕ) → Found t i starts from to → key_at t starts i ≡ key_in (part from (to - from) t)
unfolding key_at
key-listed t i starts from to f = ap key_of_text f.text

pub key-unlisted : (t i starts : List ℕ) → placed 0 i t starts ≡ None → key_at t starts i ≡ None
unfolding key_at
key-unlisted t i starts e = ap key_of_text (nowhere t i 0 starts e)

-- the first n of s, as the code lends them
pub front-is : {front : List ℕ} (s : List ℕ) (n : ℕ) → front ≡ slice_range s 0 n → front ≡ take n s
front-is s n e = let size : n - 0 ≡ n = omega arith in rw size at e

-- what a lookup makes of the count
module _ (t starts : List ℕ) (count : ℕ) (i : List ℕ) where
  pub looked-past : length starts < count → looked_up t starts count i ≡ refuses BadList
  unfolding looked_up
  looked-past h = rw (lt-leb count (length starts) h)

  pub looked-within : count ≤ length starts → looked_up t starts count i ≡ Table.found (key_at t (take count starts) i)
  unfolding looked_up
  looked-within h = rw (le-leb count (length starts) h)

-- ---- the starts of lines that stand in the table

-- of lines that stand from `at` on, the first of them k-th in the list: those before the first that matches, what follows its colon, and those behind it
pub record Spot (identity : List ℕ) (k at : ℕ) (ls : List (List ℕ)) (line from to : ℕ) : Type 0 where
  pub front : List (List ℕ)
  pub hex : List ℕ
  pub back : List (List ℕ)
  pub split : ls ≡ front ++ ((identity ++ (colon ∷ hex)) ∷ back)
  pub none_before : first_text identity front ≡ None
  pub index : line ≡ k + length front
  pub starts : from ≡ at + length (joined front) + length identity + 1
  pub ends : to ≡ from + length hex

pub spot : (t i : List ℕ) (k at : ℕ) (ls : List (List ℕ)) (line from to : ℕ) → map (line_at t) (starts_from at ls) ≡ ls
    → placed k i t (starts_from at ls) ≡ hit line from to → Spot i k at ls line from to
spot t i k at [] line from to there e = let z : ◌≡◌ {A = ℕ} 0 1 = cc in absurd (omega arith)
spot t i k at (l ∷ ls) line from to there e =
    go (key_text i l) refl (λ f. spot t i (k + 1) (at + length l + 1) ls line from to tail f)
  where
    head : line_at t at ≡ l
    head = cc

    tail : map (line_at t) (starts_from (at + length l + 1) ls) ≡ ls
    tail = cc

    own : (s : List ℕ) → key_text i l ≡ Some s → Spot i k at (l ∷ ls) line from to
    own s h =
        let same = text-line i l s h in
        let one : hit k (at + length i + 1) (at + length l) ≡ hit line from to = rw (head, h) at e in
        let size : length l ≡ length i + suc (length s) = ap length same ∙ length-append i (colon ∷ s) in
        let (index, starts, ends) = same-hit (sym one) in
        record {
          front = [];
          hex = s;
          back = ls;
          split = ap (λ (x : List ℕ). x ∷ ls) same;
          none_before = refl;
          index = omega arith;
          starts = omega arith;
          ends = omega arith;
        }

    later : key_text i l ≡ None → Spot i (k + 1) (at + length l + 1) ls line from to → Spot i k at (l ∷ ls) line from to
    later h r =
        let size = length-append l (line_end ∷ joined r.front) in
        record {
          front = l ∷ r.front;
          hex = r.hex;
          back = r.back;
          split = ap (λ (x : List (List ℕ)). l ∷ x) r.split;
          none_before = rw h r.none_before;
          index = omega (arith, r.index);
          starts = omega (arith, r.starts);
          ends = r.ends;
        }

    go : (o : Option (List ℕ)) → key_text i l ≡ o
        → (placed (k + 1) i t (starts_from (at + length l + 1) ls) ≡ hit line from to → Spot i (k + 1) (at + length l + 1) ls line from to)
        → Spot i k at (l ∷ ls) line from to
    go (Some s) h ih = own s h
    go None h ih = later h (ih (rw (head, h) at e))

-- ---- lists of lines

pub first-append : (i : List ℕ) (xs ys : List (List ℕ)) → first_text i (xs ++ ys) ≡ or_else (first_text i xs) (first_text i ys)
first-append i [] ys = refl
first-append i (x ∷ xs) ys = go (key_text i x) (first-append i xs ys)
  where
    go : (o : Option (List ℕ)) → first_text i (xs ++ ys) ≡ or_else (first_text i xs) (first_text i ys)
        → or_else o (first_text i (xs ++ ys)) ≡ or_else (or_else o (first_text i xs)) (first_text i ys)
    go None ih = ih
    go (Some s) ih = refl

pub joined-append : (xs ys : List (List ℕ)) → joined (xs ++ ys) ≡ joined xs ++ joined ys
joined-append [] ys = refl
joined-append (x ∷ xs) ys =
    ap (λ (r : List ℕ). x ++ (line_end ∷ r)) (joined-append xs ys) ∙ sym (append_assoc x (line_end ∷ joined xs) (joined ys))
