-- What a step comes to, whatever the room, and what a call makes of it: `settled` adds R1, which stands last, and what a refusal does to the connection.
-- Both sides share this, so it is said of any type C of connections; `over` is the closed one.
use Rattle.std.specs.Prelude.{ℕ, ◌≤◌, ◌≡◌, List, length, Result, Ok, Err, Option, None, Some}
use Rattle.refusal.specs.Lent.{Outcome, gives, refuses, within, answer, after}
use Rattle.refusal.specs.Table.{Effect, unchanged, closed, noneMade, noneInvolved, row}
use Rattle.refusal.specs.declared.Refusal.{Refusal}
use Rattle.handshake.specs.declared.Answer.{Answer}
use Rattle.handshake.specs.Flight.{Flight, flight_bytes, longest, counted}

-- a refusal, or messages for the peer and the connection as it is then
pub data Step (C : Type 0) : Type 0 where
  refuse : Refusal → Step C
  accept : (flight : Flight) (next : C) → Step C

-- the tests on a message's header come before its step
abbrev pub after_tests : {C : Type 0} → Result Unit Refusal → Step C → Step C
after_tests (Ok tt) step = step
after_tests (Err r) step = refuse r

-- a refusal that comes before the step, if there is one
abbrev pub unless_refused : {C : Type 0} → Option Refusal → Step C → Step C
unless_refused None step = step
unless_refused (Some r) step = refuse r

-- ---- what a refusal does to a connection: the table's last column

abbrev pub after_effect : {C : Type 0} → (over : C) → Effect → C → C
after_effect over unchanged c = c
after_effect over closed c = over
after_effect over noneMade c = c
after_effect over noneInvolved c = c

abbrev pub after_refusal : {C : Type 0} → (over : C) → Refusal → C → C
after_refusal over r c = after_effect over (row r).connection c

-- ---- what a call gives back

-- what is said, the lent output afterwards, and the connection as it is then
pub record Settled (C : Type 0) : Type 0 where
  pub said : Result ℕ Refusal
  pub out : List ℕ
  pub next : C

-- what there is to be written
abbrev pub outcome : {C : Type 0} → Step C → Outcome
outcome (refuse r) = refuses r
outcome (accept flight next) = gives (flight_bytes flight)

-- R1 leaves the connection as it was
abbrev pub next_after : {C : Type 0} → (over c : C) → Step C → Outcome → C
next_after over c step (refuses r) = after_refusal over r c
next_after over c (refuse r) (gives b) = after_refusal over r c
next_after over c (accept flight next) (gives b) = next

abbrev pub settled : {C : Type 0} → (over c : C) → List ℕ → Step C → Settled C
settled over c out step =
    record {
      said = answer (within (length out) (outcome step));
      out = after (within (length out) (outcome step)) out;
      next = next_after over c step (within (length out) (outcome step));
    }

-- of a call that is lent no output
abbrev pub answered : {C : Type 0} → Settled C → Answer C
answered s = record { said = s.said; next = s.next }

-- what a call gives back for a step, and what it leaves in the lent output
pub record Does {C : Type 0} (over c : C) (out : List ℕ) (step : Step C) (given : Answer C) (left : List ℕ) : Type 0 where
  pub answers : given ≡ answered (settled over c out step)
  pub leaves : left ≡ (settled over c out step).out
  pub brief : counted given.said ≤ longest
