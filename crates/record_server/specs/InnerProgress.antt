-- What the contracts of private functions of src/progress.rt cite: how far handshake bytes have been judged. Nothing that a public contract says
-- stands here.
use Rattle.std.specs.Prelude.{ℕ, ◌≤◌, ◌<◌, ◌≡◌, ◌⊎◌, Bool, true, false, List, length, drop, Some}
use Rattle.handshake.specs.Flight.{silence, longest}
use Rattle.handshake.specs.Outgoing.{total, flight_of}
use Rattle.server.specs.declared.Phase.{Phase}
use Rattle.server.specs.declared.Connection.{Connection}
use Rattle.handshake.specs.declared.Decision.{Decision}
use Rattle.server.specs.KeyExchange.{View}
use Rattle.record_server.specs.declared.progress.Progress as Code
use Rattle.record_server.specs.declared.progress.Course.{Course}
use Rattle.record_server.specs.Joining as Judging
use Rattle.record_server.specs.Joining.{Progress, Judged, goes_on, judge_bytes}

-- the progress that the code's value stands for, over these bytes
abbrev pub progress_of : List ℕ → Code.Progress → Progress
progress_of bytes p =
    record {
      connection = p.connection;
      flight = flight_of p.outgoing;
      master = p.handed;
      left = drop p.at bytes;
    }

-- what is left of the bytes, judged
abbrev pub judge_left : View → Progress → Judged
judge_left v p = judge_bytes (length p.left) v p

-- what it comes to
abbrev pub comes_to : View → List ℕ → Code.Progress → Course → Judged
comes_to v bytes p Course.Going = judge_left v (progress_of bytes p)
comes_to v bytes p Course.Waits = goes_on (progress_of bytes p)
comes_to v bytes p (Course.Refused r) = Judging.refuse r

abbrev pub is_going : Course → Bool
is_going Course.Going = true
is_going Course.Waits = false
is_going (Course.Refused r) = false

abbrev pub on_course : Code.Progress → Course → Code.Progress
on_course p course =
    record {
      course = course;
      connection = p.connection;
      outgoing = p.outgoing;
      handed = p.handed;
      at = p.at;
    }

-- behind a message that was accepted: one whose step answers, or a ClientKeyExchange
abbrev pub with_answer : Code.Progress → Decision Connection → ℕ → Code.Progress
with_answer p d at =
    record {
      course = Course.Going;
      connection = d.next;
      outgoing = d.outgoing;
      handed = p.handed;
      at = at;
    }

abbrev pub with_master : Code.Progress → Decision Connection → ℕ → Code.Progress
with_master p d at =
    record {
      course = Course.Going;
      connection = d.next;
      outgoing = p.outgoing;
      handed = Some (record { master = d.next.secrets.master; blocks = d.blocks });
      at = at;
    }

abbrev pub advanced : Phase → Code.Progress → Decision Connection → ℕ → Code.Progress
advanced Phase.Hello p d at = with_answer p d at
advanced Phase.KeyExchange p d at = with_master p d at
advanced Phase.Change p d at = with_answer p d at
advanced Phase.Finished p d at = with_answer p d at
advanced Phase.Complete p d at = with_answer p d at
advanced Phase.Closed p d at = with_answer p d at

-- a message is awaited whose step answers, so that none has been answered yet in this record
abbrev pub answers : Phase → Type 0
answers Phase.Hello = Unit
answers Phase.KeyExchange = ⊥
answers Phase.Change = ⊥
answers Phase.Finished = Unit
answers Phase.Complete = ⊥
answers Phase.Closed = ⊥

-- what the code keeps true of it: `held` bytes of the whole stand in lent memory, less than a message
pub record Sound (held : ℕ) (bytes : List ℕ) (p : Code.Progress) : Type 0 where
  pub fits : total p.outgoing.lengths ≤ longest
  pub inside : p.at ≤ length bytes
  pub apart : (p.at ≡ 0) ⊎ (held ≤ p.at)
  pub quiet : answers p.connection.phase → flight_of p.outgoing ≡ silence

-- what waits is less than a message
abbrev pub Few : Course → ℕ → Type 0
Few Course.Going n = Unit
Few Course.Waits n = n ≤ 16383
Few (Course.Refused r) n = Unit

-- the judgement `wanted` of what was left from `at` on is what p comes to; while it goes on there is less left
pub record Goes (v : View) (held : ℕ) (bytes : List ℕ) (wanted : Judged) (at : ℕ) (p : Code.Progress) : Type 0 where
  pub means : wanted ≡ comes_to v bytes p p.course
  pub sound : Sound held bytes p
  pub further : is_going p.course ≡ true → at < p.at
  pub few : Few p.course (length (drop p.at bytes))

-- where it has come to an end
abbrev pub ends_as : List ℕ → Code.Progress → Course → Judged
ends_as bytes p Course.Going = goes_on (progress_of bytes p)
ends_as bytes p Course.Waits = goes_on (progress_of bytes p)
ends_as bytes p (Course.Refused r) = Judging.refuse r

pub record Ends (held : ℕ) (bytes : List ℕ) (wanted : Judged) (p : Code.Progress) : Type 0 where
  pub over : is_going p.course ≡ false
  pub means : wanted ≡ ends_as bytes p p.course
  pub sound : Sound held bytes p
  pub few : Few p.course (length (drop p.at bytes))
