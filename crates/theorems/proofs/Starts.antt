-- The list of line starts: a list that passes its test has one number for each line, the table's own list passes with anything behind it, and an edit
-- with a list gives a table only where the edit without one gives the same.
-- Assumes nothing.
use mathlib.Core.Path.{◌≡◌, refl, sym, ap, ◌∙◌}
use Prim.Native.Nat.{ℕ, ◌+◌, ◌≤◌}
use native.Mathlib.Omega.{arith}
use mathlib.Core.Bool.{Bool, true, false, cond}
use mathlib.Core.List.{List, ◌++◌}
use lib.ListN.{length, take, length-append, length-drop}
use lib.Seq.{length-take-le, take-append_seam}
use lib.Dec.{leb}
use borrow.Author.Tests.{leb-true, le-leb}
use Rattle.std.specs.Prelude.{Option, None, Some}
use Rattle.lists.proofs.Tests.{both}
use Rattle.lists.proofs.Equal.{same_refl}
use Rattle.refusal.specs.declared.Refusal.{Refusal}
use Rattle.refusal.specs.declared.Refusal.TheVariants.{ShortOutput, BadTable}
use Rattle.refusal.specs.Lent.{Outcome, gives, refuses}
use Rattle.refusal.proofs.Laws.{refuses-gives}
use Rattle.keytable.specs.Table.{lines, well_formed}
use Rattle.keytable.specs.Starts.{starts_of, is_list, list_made, list_refusal}
use Rattle.keytable.proofs.Listed.{count-lines, own-within, own-starts}
use Rattle.table_edits.specs.Edits.{Edit, unless, edited, roomed, edited_in, starts_after, count_after}

-- ---- the test of a list

pub list-is-own : (t starts : List ℕ) (count : ℕ) → is_list t starts count ≡ true → (take count starts ≡ starts_of t) × (count ≡ length (lines t))
list-is-own t starts count own =
    let within = leb-true count (length starts) (own-within t starts count own) in
    let same = own-starts t starts count own in
    (same, sym (length-take-le count starts within) ∙ ap length same ∙ count-lines 0 (lines t))

own-in-front : (t rest : List ℕ) → is_list t (starts_of t ++ rest) (length (starts_of t)) ≡ true
unfolding is_list
own-in-front t rest =
    both (le-leb (length (starts_of t)) (length (starts_of t ++ rest)) (rw (length-append (starts_of t) rest) (omega arith)))
    (rw (take-append_seam (starts_of t) rest) (same_refl (starts_of t)))

-- ---- what is given has passed the tests before it

given-if : (test : Bool) (o : Outcome) (r : Refusal) {bytes : List ℕ} → cond test o (refuses r) ≡ gives bytes → o ≡ gives bytes
given-if true o r e = e
given-if false o r e = absurd (refuses-gives e)

given-unless : (r : Option Refusal) (o : Outcome) {bytes : List ℕ} → unless r o ≡ gives bytes → o ≡ gives bytes
given-unless None o e = e
given-unless (Some r) o e = absurd (refuses-gives e)

given-room : (room : ℕ) (o : Outcome) {bytes : List ℕ} → roomed room o ≡ gives bytes → o ≡ gives bytes
given-room room (gives t) e = given-if (leb (length (lines t)) room) (gives t) ShortOutput e
given-room room (refuses r) e = e

pub made-list-matches : (t made starts : List ℕ) → list_made t ≡ gives made → is_list t (made ++ starts) (length made) ≡ true
made-list-matches t made starts e =
    let given = given-if (well_formed t) (gives (starts_of t)) BadTable e in
    let is : starts_of t ≡ made = cc in
    rw (← is) (own-in-front t starts)

-- ---- edits

module _ (memory : List ℕ) (n : ℕ) (starts : List ℕ) (count : ℕ) (e : Edit) (t : List ℕ) (given : edited_in memory n starts count e ≡ gives t) where
  with-room : roomed (length starts) (edited e (take n memory)) ≡ gives t
  unfolding edited_in
  with-room =
      let refusal = list_refusal (take n memory) starts count in
      let roomy : Outcome = roomed (length starts) (edited e (take n memory)) in
      given-unless refusal roomy (given-if (leb n (length memory)) (unless refusal roomy) BadTable given)

  pub edited-alike : edited e (take n memory) ≡ gives t
  edited-alike = given-room (length starts) (edited e (take n memory)) with-room

  fits : length (lines t) ≤ length starts
  fits = leb-true _ _ (go (leb (length (lines t)) (length starts)) refl)
    where
      there : cond (leb (length (lines t)) (length starts)) (gives t) (refuses ShortOutput) ≡ gives t
      there = rw edited-alike at with-room

      go : (b : Bool) → leb (length (lines t)) (length starts) ≡ b → leb (length (lines t)) (length starts) ≡ true
      go true h = h
      go false h = absurd (refuses-gives (rw h at there))

  pub edited-list : (is_list t (starts_after (gives t) starts) (count_after (gives t) count) ≡ true) × (length (starts_after (gives t) starts) ≡ length starts)
  edited-list =
      let size = count-lines 0 (lines t) in
      let room = fits in (
        rw (← size) (own-in-front t _),
        length-append (starts_of t) _ ∙ ap (λ (m : ℕ). length (starts_of t) + m) (length-drop (length (starts_of t)) starts) ∙ omega arith,
      )
