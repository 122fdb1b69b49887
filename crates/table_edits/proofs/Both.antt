-- What a call answers that was lent a table's memory and a list: a refusal leaves both, and what was written has its list. Assumes nothing.
use mathlib.Core.Path.{◌≡◌, refl, sym, ◌∙◌}
use Prim.Native.Nat.{ℕ, ◌≤◌}
use native.Mathlib.Omega.{arith}
use mathlib.Core.Bool.{Bool, true, false}
use mathlib.Core.List.{List, ◌++◌}
use lib.ListN.{length, drop}
use lib.Dec.{leb}
use borrow.Author.Tests.{le-leb, lt-leb}
use Rattle.std.specs.Prelude.{Result, Ok, Err}
use Rattle.refusal.specs.declared.Refusal.{Refusal}
use Rattle.refusal.specs.Lent.{Outcome, gives, refuses, within, answer, Answers}
use Rattle.refusal.proofs.Laws.{refuses-answers, refuses-gives, wrote-all, wrote-gives, refused-short}
use Rattle.keytable.specs.Table.{lines}
use Rattle.keytable.specs.Starts.{starts_of}
use Rattle.table_edits.specs.Edits.{roomed, EditsBoth}
use Rattle.table_edits.specs.Inner.{bounded}

-- ---- refusals

refused-outcome : (o : Outcome) (r : Refusal) → Err r ≡ answer o → o ≡ refuses r
refused-outcome (gives t) r e = let z : ◌≡◌ {A = ℕ} 0 1 = cc in absurd (omega arith)
refused-outcome (refuses q) r e = cc

module _ (memory starts : List ℕ) (count : ℕ) (r : Refusal) where
  pub both-refused : (wanted : Outcome) (said : Result ℕ Refusal) (memory' : List ℕ) → said ≡ Err r → Answers wanted memory said memory'
      → EditsBoth wanted memory starts count (Err r) memory' starts count
  both-refused wanted said memory' e a =
      let kept = refused-outcome (within (length memory) wanted) r (sym e ∙ a.told) in
      record { table = rw e at a; list = rw kept; counted = rw kept }

  pub both-kept : EditsBoth (refuses r) memory starts count (Err r) memory starts count
  both-kept = both-refused (refuses r) (Err r) memory refl (refuses-answers r memory)

-- a refusal stays one where the list's room is tested before the memory's: both are R1
pub roomed-refused : (o : Outcome) (room : ℕ) (r : Refusal) (out : List ℕ) → Answers o out (Err r) out → Answers (roomed room o) out (Err r) out
roomed-refused (refuses q) room r out a = a
roomed-refused (gives t) room r out a = go (leb (length (lines t)) room) refl
  where
    go : (b : Bool) → leb (length (lines t)) room ≡ b → Answers (roomed room (gives t)) out (Err r) out
    go true e = rw e a
    go false e = rw e (record { told = simp (lt-leb _ _ (refused-short a refl)) at a.told; left = refl })

-- ---- a table that was written

-- a table whose lines the list has room for
pub roomed-fits : (room : ℕ) (t : List ℕ) → length (lines t) ≤ room → roomed room (gives t) ≡ gives t
roomed-fits room t h = rw (le-leb (length (lines t)) room h)

pub roomed-bounded : (room : ℕ) (t : List ℕ) → length (lines t) ≤ room → roomed room (bounded t) ≡ bounded t
roomed-bounded room t h = go (leb (length t) 65536) refl
  where
    go : (b : Bool) → leb (length t) 65536 ≡ b → roomed room (bounded t) ≡ bounded t
    go true e = rw e (roomed-fits room t h)
    go false e = rw e

module _ (memory starts : List ℕ) (count : ℕ) (t memory' starts' : List ℕ) (count' n : ℕ)
    (list : starts' ≡ starts_of t ++ drop (length (starts_of t)) starts) (counted : count' ≡ length (lines t)) where
  pub both-wrote : Answers (gives t) memory (Ok n) memory' → EditsBoth (gives t) memory starts count (Ok n) memory' starts' count'
  both-wrote a =
      let fits = le-leb (length t) (length memory) (wrote-all a refl).0 in
      record { table = a; list = rw fits list; counted = rw fits counted }

  pub both-bounded : (said : Result ℕ Refusal) → said ≡ Ok n → Answers (bounded t) memory said memory'
      → EditsBoth (bounded t) memory starts count (Ok n) memory' starts' count'
  both-bounded said e a = go (leb (length t) 65536) refl
    where
      go : (b : Bool) → leb (length t) 65536 ≡ b → EditsBoth (bounded t) memory starts count (Ok n) memory' starts' count'
      go true h = rw h (both-wrote (rw (h, e) at a))
      go false h = absurd (refuses-gives (rw h at (wrote-gives (bounded t) a e).1))
