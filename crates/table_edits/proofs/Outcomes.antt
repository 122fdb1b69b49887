-- What an edit comes to, by what the tests and the search at its beginning found. Assumes nothing.
use mathlib.Core.Path.{◌≡◌, refl, sym, ap, ◌∙◌}
use Prim.Native.Nat.{ℕ, ◌+◌, ◌*◌, ◌≤◌, ◌<◌}
use native.Mathlib.Omega.{arith}
use mathlib.Core.Bool.{Bool, true, false, ◌&&◌}
use mathlib.Core.List.{List, [], ◌∷◌, ◌++◌}
use lib.ListN.{length, take, drop, length-append}
use lib.Seq.{length-take-le}
use lib.Dec.{leb}
use borrow.Author.Tests.{leb-true, leb-false, le-leb, lt-leb}
use Rattle.std.specs.Prelude.{Ok, Err, Option, None, Some}
use Rattle.lists.specs.Lists.{each}
use Rattle.lists.proofs.Tests.{and_left, and_right}
use Rattle.refusal.specs.declared.Refusal.{Refusal}
use Rattle.refusal.specs.declared.Refusal.TheVariants.{ShortOutput, BadTable, BadValue, TableFull}
use Rattle.refusal.specs.Lent.{gives, refuses, Answers}
use Rattle.refusal.proofs.Laws.{gives-answers, short-answers, refuses-answers}
use Rattle.keytable.specs.declared.entries.Hit.{Hit}
use Rattle.keytable.specs.Table.{line_end, lines, joined, ended, judged, valid_identity, valid_line, well_formed, valid_secret}
use Rattle.keytable.specs.Starts.{starts_from, starts_of, is_list, list_refusal, placed}
use Rattle.keytable.proofs.Tests.{between-sound, identity-sound}
use Rattle.keytable.proofs.Texts.{joined-lines}
use Rattle.keytable.proofs.Agreement.{well-formed-tests}
use Rattle.keytable.proofs.Listed.{count-lines, own-within, own-starts, passed-both}
use Rattle.keytable.proofs.Spots.{joined-append}
use Rattle.table_edits.specs.Edits.{Edit, subject, secret_allowed, allowed, misplaced, listed, lines_after}
use Rattle.table_edits.specs.Edits.{line_with, lower_hex, sized, unless, edited, roomed, edited_in}
use Rattle.table_edits.specs.Inner.{bounded, sought_in, place_in, size_judged, OwnList, Unbroken}
use Rattle.table_edits.proofs.Digits.{length-hex}
use Rattle.table_edits.proofs.Starts.{starts-snoc}

-- ---- the tests at the beginning

-- neither R2, nor R10, nor R5
pub record Passed (memory : List ℕ) (n : ℕ) (starts : List ℕ) (count : ℕ) (identity : List ℕ) (secret : Bool) : Type 0 where
  pub inside : n ≤ length memory
  pub formed : well_formed (take n memory) ≡ true
  pub own : is_list (take n memory) starts count ≡ true
  pub named : valid_identity identity ≡ true
  pub keyed : secret ≡ true

-- what table and list were judged to be
pub judged-good : (o : Option Refusal) → judged o ≡ Ok tt → o ≡ None
judged-good None e = refl
judged-good (Some r) e = let z : ◌≡◌ {A = ℕ} 0 1 = cc in absurd (omega arith)

pub judged-refused : (o : Option Refusal) (r : Refusal) → judged o ≡ Err r → o ≡ Some r
judged-refused None r e = let z : ◌≡◌ {A = ℕ} 0 1 = cc in absurd (omega arith)
judged-refused (Some q) r e = cc

module _ (memory : List ℕ) (n : ℕ) (starts : List ℕ) (count : ℕ) (i : List ℕ) (secret : Bool) where
  abbrev table : List ℕ
  table = take n memory

  module _ (inside : n ≤ length memory) where
    pub place-good : list_refusal table starts count ≡ None → place_in memory n starts count i secret ≡ sought_in table (take count starts) i secret
    place-good good = rw (le-leb n (length memory) inside, good)

    pub place-refused : (r : Refusal) → list_refusal table starts count ≡ Some r → place_in memory n starts count i secret ≡ Err r
    place-refused r bad = rw (le-leb n (length memory) inside, bad)

  -- a place that no test refused is the search's, by the table's own list
  module _ (found : Option Hit) (e : place_in memory n starts count i secret ≡ Ok found) where
    pub passed-tests : Passed memory n starts count i secret × (placed 0 i table (starts_of table) ≡ found)
    passed-tests = first (leb n (length memory)) refl
      where
        third : (b : Bool) → (valid_identity i && secret) ≡ b → leb n (length memory) ≡ true → list_refusal table starts count ≡ None
            → Passed memory n starts count i secret × (placed 0 i table (starts_of table) ≡ found)
        third true h inside good =
            let (formed, own) = passed-both table starts count good in (
              record {
                inside = leb-true n (length memory) inside;
                formed = formed;
                own = own;
                named = and_left (valid_identity i) secret h;
                keyed = and_right (valid_identity i) secret h;
              },
              let is : Ok (placed 0 i table (take count starts)) ≡ Ok found = rw (inside, good, h) at e in
                  let same : placed 0 i table (take count starts) ≡ found = cc in
                  rw (own-starts table starts count own) at same,
            )
        third false h inside good = let is : Err BadValue ≡ Ok found = rw (inside, good, h) at e in let z : ◌≡◌ {A = ℕ} 0 1 = cc in absurd (omega arith)

        second : (o : Option Refusal) → list_refusal table starts count ≡ o → leb n (length memory) ≡ true
            → Passed memory n starts count i secret × (placed 0 i table (starts_of table) ≡ found)
        second None good inside = third (valid_identity i && secret) refl inside good
        second (Some r) bad inside = let is : Err r ≡ Ok found = rw (inside, bad) at e in let z : ◌≡◌ {A = ℕ} 0 1 = cc in absurd (omega arith)

        first : (b : Bool) → leb n (length memory) ≡ b
            → Passed memory n starts count i secret × (placed 0 i table (starts_of table) ≡ found)
        first true inside = second (list_refusal table starts count) refl inside
        first false short = let is : Err BadTable ≡ Ok found = rw short at e in let z : ◌≡◌ {A = ℕ} 0 1 = cc in absurd (omega arith)

  -- ---- what the tests say of sizes, and of the list

  module _ (p : Passed memory n starts count i secret) where
    pub passed-size : n ≤ 65536
    passed-size =
        let size = length-take-le n memory p.inside in
        omega (arith, leb-true (length table) 65536 (well-formed-tests table p.formed).0)

    pub passed-ended : ended table ≡ true
    passed-ended = (well-formed-tests table p.formed).1

    pub passed_lines : length (lines table) ≤ 256
    passed_lines = leb-true (length (lines table)) 256 (well-formed-tests table p.formed).2

    pub passed-valid : each valid_line (lines table) ≡ true
    passed-valid = (well-formed-tests table p.formed).3

    pub passed-identity : length i ≤ 128
    passed-identity = (identity-sound i p.named).few

    pub passed-list : OwnList table starts count
    passed-list = (leb-true count (length starts) (own-within table starts count p.own), own-starts table starts count p.own)

    -- a list's count is that of the lines
    pub passed-count : count ≡ length (lines table)
    passed-count =
        sym (length-take-le count starts passed-list.0) ∙ ap length passed-list.1 ∙ count-lines 0 (lines table)

pub secret-few : (key : List ℕ) → valid_secret key ≡ true → length key ≤ 64
secret-few key h = (between-sound 1 64 (length key) h).1

-- ---- an edit, by these tests

module _ (memory : List ℕ) (n : ℕ) (starts : List ℕ) (count : ℕ) (e : Edit) where
  pub edit-refused : (r : Refusal) → place_in memory n starts count (subject e) (secret_allowed e) ≡ Err r → edited_in memory n starts count e ≡ refuses r
  unfolding edited edited_in
  edit-refused r h = first (leb n (length memory)) refl
    where
      third : (good : Bool) → allowed e ≡ good → leb n (length memory) ≡ true → list_refusal (take n memory) starts count ≡ None
          → edited_in memory n starts count e ≡ refuses r
      third false c a b =
          let is : Err BadValue ≡ Err r = rw (a, b, c) at h in
          rw (a, b, (passed-both (take n memory) starts count b).0, c) (cc)
      third true c a b =
          let is : Ok (placed 0 (subject e) (take n memory) (take count starts)) ≡ Err r = rw (a, b, c) at h in
          let z : ◌≡◌ {A = ℕ} 0 1 = cc in absurd (omega arith)

      second : (o : Option Refusal) → list_refusal (take n memory) starts count ≡ o → leb n (length memory) ≡ true
          → edited_in memory n starts count e ≡ refuses r
      second None b a = third (allowed e) refl a b
      second (Some q) b a = let is : Err q ≡ Err r = rw (a, b) at h in rw (a, b) (cc)

      first : (inside : Bool) → leb n (length memory) ≡ inside → edited_in memory n starts count e ≡ refuses r
      first false a = let is : Err BadTable ≡ Err r = rw a at h in rw a (cc)
      first true a = second (list_refusal (take n memory) starts count) refl a

  pub edit-on : Passed memory n starts count (subject e) (secret_allowed e)
      → edited_in memory n starts count e
      ≡ roomed (length starts) (unless (misplaced e (listed (subject e) (lines (take n memory)))) (sized (lines_after e (lines (take n memory)))))
  unfolding edited edited_in
  edit-on p = rw (le-leb n (length memory) p.inside, p.formed, p.own, p.named, p.keyed)

-- ---- the size of the table that comes out

pub sized-fits : (ls : List (List ℕ)) → length ls ≤ 256 → length (joined ls) ≤ 65536 → sized ls ≡ gives (joined ls)
sized-fits ls few small = rw (le-leb (length ls) 256 few, le-leb (length (joined ls)) 65536 small)

pub sized-lines : (ls : List (List ℕ)) → 256 < length ls → sized ls ≡ refuses TableFull
sized-lines ls many = rw (lt-leb (length ls) 256 many)

-- few enough lines leave the bytes to be judged
pub sized-bounded : (t : List ℕ) (ls : List (List ℕ)) → t ≡ joined ls → length ls ≤ 256 → sized ls ≡ bounded t
sized-bounded t ls e few = rw (e, le-leb (length ls) 256 few)

-- a table by what its size was judged
module _ (t out : List ℕ) (size : ℕ) (e : length t ≡ size) where
  pub size-refused : (r : Refusal) → size_judged size (length out) ≡ Err r → Answers (bounded t) out (Err r) out
  size-refused r h = first (leb size 65536) refl (leb size (length out)) refl
    where
      first : (a : Bool) → leb size 65536 ≡ a → (b : Bool) → leb size (length out) ≡ b → Answers (bounded t) out (Err r) out
      first false x b y =
          let is : Err TableFull ≡ Err r = rw x at h in
          let same : TableFull ≡ r = cc in
          rw (e, x, ← same) (refuses-answers TableFull out)
      first true x false y =
          let is : Err ShortOutput ≡ Err r = rw (x, y) at h in
          let same : ShortOutput ≡ r = cc in
          let short = leb-false size (length out) y in
          rw (e, x, ← same) (short-answers t out (omega arith))
      first true x true y = let is : (Ok tt) ≡ Err r = rw (x, y) at h in let z : ◌≡◌ {A = ℕ} 0 1 = cc in absurd (omega arith)

  pub size-good : size_judged size (length out) ≡ Ok tt → (bounded t ≡ gives t) × (size ≤ length out)
  size-good h = first (leb size 65536) refl (leb size (length out)) refl
    where
      first : (a : Bool) → leb size 65536 ≡ a → (b : Bool) → leb size (length out) ≡ b → (bounded t ≡ gives t) × (size ≤ length out)
      first false x b y = let is : Err TableFull ≡ Ok tt = rw x at h in let z : ◌≡◌ {A = ℕ} 0 1 = cc in absurd (omega arith)
      first true x false y =
          let is : Err ShortOutput ≡ Ok tt = rw (x, y) at h in let z : ◌≡◌ {A = ℕ} 0 1 = cc in absurd (omega arith)
      first true x true y = (rw (e, x), leb-true size (length out) y)

-- the answer of n bytes, by what it leaves
pub answered : (bytes out out' : List ℕ) (n : ℕ) → length bytes ≡ n → n ≤ length out → out' ≡ bytes ++ drop n out
    → Answers (gives bytes) out (Ok n) out'
answered bytes out out' n size room left = rw (left, ← size) (gives-answers bytes out (omega arith))

-- ---- a line added

module _ (t i k : List ℕ) where
  pub added-lines : length (lines t ++ (line_with i k ∷ [])) ≡ length (lines t) + 1
  added-lines = length-append (lines t) (line_with i k ∷ [])

  module _ (end : ended t ≡ true) where
    pub added-text : joined (lines t ++ (line_with i k ∷ [])) ≡ t ++ (line_with i k ++ (line_end ∷ []))
    added-text =
        joined-append (lines t) (line_with i k ∷ []) ∙ ap (λ (r : List ℕ). r ++ (line_with i k ++ (line_end ∷ []))) (joined-lines t end)

    pub added-length : length (joined (lines t ++ (line_with i k ∷ []))) ≡ length t + length i + 2 * length k + 2
    added-length =
        let a = ap length added-text ∙ length-append t (line_with i k ++ (line_end ∷ [])) in
        let b = length-append (line_with i k) (line_end ∷ []) in
        let c = length-append i (58 ∷ lower_hex k) in
        omega (arith, length-hex k)

    pub added-list : Unbroken (lines t ++ (line_with i k ∷ [])) → starts_of (joined (lines t ++ (line_with i k ∷ []))) ≡ starts_of t ++ (length t ∷ [])
    added-list whole =
        ap (starts_from 0) whole ∙ starts-snoc (lines t) (line_with i k)
        ∙ ap (λ (s : List ℕ). starts_of t ++ (length s ∷ [])) (joined-lines t end)
