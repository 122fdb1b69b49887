-- What each edit comes to, by the place that its beginning found, and what its list is then; and the sizes that are known there. Assumes nothing.
use mathlib.Core.Path.{◌≡◌, sym, ap, ◌∙◌}
use Prim.Native.Nat.{ℕ, ◌+◌, ◌-◌, ◌*◌, ◌≤◌, ◌<◌}
use native.Mathlib.Omega.{arith}
use mathlib.Core.Bool.{Bool, true, cond}
use mathlib.Core.List.{List, [], ◌++◌, map}
use lib.ListN.{length, take, drop, get_or, length-append, length-drop, length-map}
use lib.Seq.{length-take-le, get_or-take}
use Rattle.std.specs.Prelude.{Ok, None}
use Rattle.lists.proofs.Tests.{both}
use Rattle.refusal.specs.declared.Refusal.TheVariants.{AlreadyListed, NotListed}
use Rattle.refusal.specs.Lent.{gives, refuses}
use Rattle.keytable.specs.Table.{lines, joined, ended, valid_secret}
use Rattle.keytable.specs.Starts.{hit, starts_from, starts_of, placed}
use Rattle.keytable.proofs.Listed.{count-lines}
use Rattle.table_edits.specs.Edits.{Edit, add, replace, retire, is_line_of, others, lines_after, line_with, lower_hex, subject, roomed, sized}
use Rattle.table_edits.specs.Edits.{secret_allowed, edited_in}
use Rattle.table_edits.specs.Inner.{bounded, spliced, place_in, shifted, restarted, OwnList, Starting, Unbroken}
use Rattle.table_edits.proofs.Writing.{length-spliced}
use Rattle.table_edits.proofs.Starts.{restarted-front}
use Rattle.table_edits.proofs.Both.{roomed-fits, roomed-bounded}
use Rattle.table_edits.proofs.Ends.{unbroken-after}
use Rattle.table_edits.proofs.Places.{few-others, absent-unlisted, present-listed, replaced-text, retired-text, line-bounds, line-counted}
use Rattle.table_edits.proofs.Places.{behind-starts, replaced-starts, retired-starts}
use Rattle.table_edits.proofs.Outcomes.{Passed, passed-tests, passed-size, passed-ended, passed_lines, passed-identity, secret-few}
use Rattle.table_edits.proofs.Outcomes.{passed-valid, passed-list, passed-count, edit-on, sized-fits, sized-bounded}

-- ---- the lines that an edit makes

module _ (memory : List ℕ) (n : ℕ) (starts : List ℕ) (count : ℕ) (e : Edit) (p : Passed memory n starts count (subject e) (secret_allowed e)) where
  made-lines : Unbroken (lines_after e (lines (take n memory)))
  made-lines =
      unbroken-after e (lines (take n memory)) (both p.named p.keyed) (passed-valid memory n starts count (subject e) (secret_allowed e) p)

  -- their text, whatever it was made of, has their list
  made_list : (t : List ℕ) → t ≡ joined (lines_after e (lines (take n memory))) → starts_of t ≡ starts_from 0 (lines_after e (lines (take n memory)))
  made_list t text = ap (starts_from 0) (ap lines text ∙ made-lines)

-- ---- listed

module _ (memory : List ℕ) (n : ℕ) (starts : List ℕ) (count : ℕ) (i : List ℕ) (secret : Bool) (k from to : ℕ)
    (h : place_in memory n starts count i secret ≡ Ok (hit k from to)) where
  abbrev table : List ℕ
  table = take n memory

  tests : Passed memory n starts count i secret
  tests = (passed-tests memory n starts count i secret (hit k from to) h).0

  there : placed 0 i table (starts_of table) ≡ hit k from to
  there = (passed-tests memory n starts count i secret (hit k from to) h).1

  -- the line stands within the table, and the table within the memory
  pub found-sizes : (n ≤ length memory) × (n ≤ 65536) × (length i + 1 ≤ from) × (from ≤ to) × (to < n)
  found-sizes =
      let bounds = line-bounds table i tests.formed tests.named k from to there in
      let size = length-take-le n memory tests.inside in
      (tests.inside, passed-size memory n starts count i secret tests, bounds.0, bounds.1, omega (arith, bounds.2))

  own : OwnList table starts count
  own = passed-list memory n starts count i secret tests

  -- the line's start is in the list, and the list within its memory
  pub found-counts : (k + 1 ≤ count) × (count ≤ length starts)
  found-counts =
      let total = passed-count memory n starts count i secret tests in
      (omega (arith, line-counted table i tests.formed tests.named k from to there), own.0)

  -- the starts behind it are behind its end
  pub found-starts : (old : ℕ) → old ≤ to + 1 → Starting old 65536 (k + 1) count starts
  found-starts old early j low high =
      let total = passed-count memory n starts count i secret tests in
      let size = length-take-le n memory tests.inside in
      let small = passed-size memory n starts count i secret tests in
      let read : get_or starts j 0 ≡ get_or (starts_of table) j 0 =
      sym (get_or-take count starts j 0 high) ∙ ap (λ (s : List ℕ). get_or s j 0) own.1 in
      let bounds = behind-starts table i tests.formed tests.named k from to there j low (omega arith) in
      (omega (arith, bounds.0), omega (arith, bounds.1))

  -- the list's memory after those starts were moved
  moved-list : (place old new : ℕ) (list : List ℕ) → place ≤ k + 1 → list ≡ take place (starts_of table) ++ map (shifted old new) (drop (k + 1) (starts_of table))
      → restarted (k + 1) count place old new starts ≡ list ++ drop (length list) starts
  moved-list place old new list low e =
      restarted-front starts (starts_of table) count own.1 (k + 1) place old new list low found-counts.0 found-counts.1 e

module _ (memory : List ℕ) (n : ℕ) (starts : List ℕ) (count : ℕ) (i key : List ℕ) (k from to : ℕ)
    (h : place_in memory n starts count i (valid_secret key) ≡ Ok (hit k from to)) where
  abbrev passed : Passed memory n starts count i (valid_secret key)
  passed = tests memory n starts count i (valid_secret key) k from to h

  abbrev spot : placed 0 i (take n memory) (starts_of (take n memory)) ≡ hit k from to
  spot = there memory n starts count i (valid_secret key) k from to h

  pub found-key : length key ≤ 64
  found-key = secret-few key passed.keyed

  pub add-listed : edited_in memory n starts count (add i key) ≡ refuses AlreadyListed
  add-listed = edit-on memory n starts count (add i key) passed ∙ rw (present-listed (take n memory) i passed.formed passed.named k from to spot)

  abbrev replaced : List ℕ
  replaced = spliced from to (lower_hex key) (take n memory)

  text : replaced ≡ joined (lines_after (replace i key) (lines (take n memory)))
  text = replaced-text (take n memory) i passed.formed passed.named k from to spot key

  same-many : length (lines_after (replace i key) (lines (take n memory))) ≡ length (lines (take n memory))
  same-many = length-map (lines (take n memory)) (λ l. cond (is_line_of i l) (line_with i key) l)

  pub replaced-count : count ≡ length (lines replaced)
  replaced-count =
      passed-count memory n starts count i (valid_secret key) passed
      ∙ sym (ap length (ap lines text ∙ made-lines memory n starts count (replace i key) passed) ∙ same-many)

  pub replaced-list : restarted (k + 1) count (k + 1) to (from + 2 * length key) starts ≡ starts_of replaced ++ drop (length (starts_of replaced)) starts
  replaced-list =
      moved-list memory n starts count i (valid_secret key) k from to h (k + 1) to (from + 2 * length key) (starts_of replaced) (omega arith)
      (made_list memory n starts count (replace i key) passed replaced text
      ∙ replaced-starts (take n memory) i passed.formed passed.named k from to spot key)

  pub replace-listed : edited_in memory n starts count (replace i key) ≡ bounded replaced
  replace-listed =
      let few = passed_lines memory n starts count i (valid_secret key) passed in
      let room = (found-counts memory n starts count i (valid_secret key) k from to h).1 in
      let present = present-listed (take n memory) i passed.formed passed.named k from to spot in
      edit-on memory n starts count (replace i key) passed ∙ rw present
      (ap (roomed (length starts)) (sized-bounded replaced (lines_after (replace i key) (lines (take n memory))) text (omega (arith, same-many)))
      ∙ roomed-bounded (length starts) replaced (omega (arith, replaced-count)))

module _ (memory : List ℕ) (n : ℕ) (starts : List ℕ) (count : ℕ) (i : List ℕ) (k from to start : ℕ)
    (h : place_in memory n starts count i true ≡ Ok (hit k from to)) (e : start ≡ from - 1 - length i) where
  abbrev ready : Passed memory n starts count i true
  ready = tests memory n starts count i true k from to h

  abbrev here : placed 0 i (take n memory) (starts_of (take n memory)) ≡ hit k from to
  here = there memory n starts count i true k from to h

  abbrev shorter : List ℕ
  shorter = spliced start (to + 1) [] (take n memory)

  pub length-shorter : length shorter ≡ start + (n - (to + 1))
  length-shorter =
      let sizes = found-sizes memory n starts count i true k from to h in
      let size = length-take-le n memory sizes.0 in
      omega (arith, length-spliced start (to + 1) [] (take n memory) (omega (arith, sizes.1, sizes.2, sizes.3, sizes.4)))

  left : shorter ≡ joined (lines_after (retire i) (lines (take n memory)))
  left = retired-text (take n memory) i ready.formed ready.named k from to here start e

  abbrev list : List ℕ
  list = take k (starts_of (take n memory)) ++ map (shifted (to + 1) start) (drop (k + 1) (starts_of (take n memory)))

  own-list : starts_of shorter ≡ list
  own-list =
      made_list memory n starts count (retire i) ready shorter left
      ∙ retired-starts (take n memory) i ready.formed ready.named k from to here start e

  pub retired-list : restarted (k + 1) count k (to + 1) start starts ≡ starts_of shorter ++ drop (length (starts_of shorter)) starts
  retired-list = moved-list memory n starts count i true k from to h k (to + 1) start (starts_of shorter) (omega arith) own-list

  pub retired-count : count - 1 ≡ length (lines shorter)
  retired-count =
      let t : List ℕ = take n memory in
      let counts = found-counts memory n starts count i true k from to h in
      let total : length (starts_of t) ≡ count = count-lines 0 (lines t) ∙ sym (passed-count memory n starts count i true ready) in
      let size = length-append (take k (starts_of t)) (map (shifted (to + 1) start) (drop (k + 1) (starts_of t))) in
      let front = length-take-le k (starts_of t) (omega (arith, counts.0)) in
      let back = length-map (drop (k + 1) (starts_of t)) (shifted (to + 1) start) ∙ length-drop (k + 1) (starts_of t) in
      omega (arith, counts.0) ∙ sym size ∙ ap length (sym own-list) ∙ count-lines 0 (lines shorter)

  pub retire-listed : edited_in memory n starts count (retire i) ≡ gives shorter
  retire-listed =
      let t = take n memory in
      let present = present-listed t i ready.formed ready.named k from to here in
      let sizes = found-sizes memory n starts count i true k from to h in
      let room = (found-counts memory n starts count i true k from to h).1 in
      let few = passed_lines memory n starts count i true ready in
      let fewer = few-others i (lines t) in
      edit-on memory n starts count (retire i) ready ∙ rw present
      (ap (roomed (length starts))
      (sized-fits (others i (lines t)) (omega arith) (rw (← left) (omega (arith, length-shorter, sizes.1, sizes.4))) ∙ ap gives (sym left))
      ∙ roomed-fits (length starts) shorter (omega (arith, retired-count)))

-- ---- not listed

module _ (memory : List ℕ) (n : ℕ) (starts : List ℕ) (count : ℕ) (i : List ℕ) where
  module _ (key : List ℕ) (h : place_in memory n starts count i (valid_secret key) ≡ Ok None) where
    abbrev free : Passed memory n starts count i (valid_secret key)
    free = (passed-tests memory n starts count i (valid_secret key) None h).0

    abbrev nowhere : placed 0 i (take n memory) (starts_of (take n memory)) ≡ None
    nowhere = (passed-tests memory n starts count i (valid_secret key) None h).1

    pub absent-sizes : (n ≤ length memory) × (n ≤ 65536) × (length i ≤ 128) × (length key ≤ 64)
    absent-sizes = (
      free.inside,
      passed-size memory n starts count i (valid_secret key) free,
      passed-identity memory n starts count i (valid_secret key) free,
      secret-few key free.keyed,
    )

    pub absent-texts : (ended (take n memory) ≡ true) × OwnList (take n memory) starts count
        × Unbroken (lines_after (add i key) (lines (take n memory)))
    absent-texts = (
      passed-ended memory n starts count i (valid_secret key) free,
      passed-list memory n starts count i (valid_secret key) free,
      made-lines memory n starts count (add i key) free,
    )

    pub add-absent : edited_in memory n starts count (add i key) ≡ roomed (length starts) (sized (lines_after (add i key) (lines (take n memory))))
    add-absent = edit-on memory n starts count (add i key) free ∙ rw (absent-unlisted (take n memory) i free.formed nowhere)

    pub replace_absent : edited_in memory n starts count (replace i key) ≡ refuses NotListed
    replace_absent = edit-on memory n starts count (replace i key) free ∙ rw (absent-unlisted (take n memory) i free.formed nowhere)

  pub retire-absent : place_in memory n starts count i true ≡ Ok None → edited_in memory n starts count (retire i) ≡ refuses NotListed
  retire-absent h =
      let (free, nowhere) = passed-tests memory n starts count i true None h in
      edit-on memory n starts count (retire i) free ∙ rw (absent-unlisted (take n memory) i free.formed nowhere)
