-- What the contracts of private functions of src/taking.rt cite: a record's decision, and what the call gives back. Nothing that a public contract
-- says stands here.
use Rattle.std.specs.Prelude.{ℕ, ◌+◌, ◌≤◌, ◌≡◌, Bool, true, cond, ◌&&◌, List, ◌++◌, length, take, leb, eqb, Result, Ok, Err, Option, None, Some}
use Rattle.lists.specs.Lists.{part}
use Rattle.refusal.specs.declared.Refusal.{Refusal}
use Rattle.refusal.specs.declared.Refusal.TheVariants.{DecryptError}
use Rattle.refusal.specs.Table.{number_of}
use Rattle.handshake.specs.Outgoing.{flight_of}
use Rattle.records.specs.Joining.{unfinished}
use Rattle.record_server.specs.declared.Taken.{Taken}
use Rattle.record_server.specs.declared.RecordConnection.{RecordConnection}
use Rattle.record_server.specs.declared.progress.Progress as Code
use Rattle.record_server.specs.declared.taking.Put.{Put}
use Rattle.record_server.specs.declared.taking.Decided.{Decided}
use Rattle.record_server.specs.Joining.{Progress, goes_on}
use Rattle.record_server.specs.Taking as Taking
use Rattle.record_server.specs.Taking.{handshake_step}

-- ---- a record's decision

-- so many bytes of the record, from `from` on, for a place of the memory
abbrev pub put_at : (at from len : ℕ) → Option Put
put_at a f n = Some (record { at = a; from = f; len = n })

-- what is held then
abbrev pub held_by : Option Put → (memory held bytes : List ℕ) → List ℕ
held_by None memory held bytes = held
held_by (Some k) memory held bytes = take k.at memory ++ part k.from k.len bytes

abbrev pub decided : Result Decided Refusal → (memory held bytes : List ℕ) → Taking.Step
decided (Ok d) memory held bytes =
    Taking.accept (record {
      answer = take d.len d.records;
      next = d.next;
      held = held_by d.keep memory held bytes;
      master = d.handed;
      holds = d.holds;
    })
decided (Err r) memory held bytes = Taking.refuse r

-- a place in lent memory, and bytes of the record that are to go there
abbrev pub Within : Option Put → (memory bytes : List ℕ) → Type 0
Within None memory bytes = Unit
Within (Some k) memory bytes = (k.at ≤ length memory) × (k.from + k.len ≤ length bytes)

-- its records stand in their array, and what is to be held in the memory
abbrev pub Keeps : Result Decided Refusal → (memory bytes : List ℕ) → Type 0
Keeps (Ok d) memory bytes = (d.len ≤ 336) × Within d.keep memory bytes
Keeps (Err r) memory bytes = Unit

pub record Decides (given : Result Decided Refusal) (memory held bytes : List ℕ) (step : Taking.Step) : Type 0 where
  pub means : decided given memory held bytes ≡ step
  pub keeps : Keeps given memory bytes

-- ---- what a record holds

-- so many bytes of the memory are a message that is not finished, and n of the record, behind its header, are content
pub record Holds (memory : List ℕ) (kept : ℕ) (bytes : List ℕ) (n : ℕ) : Type 0 where
  pub kept-inside : kept ≤ length memory
  pub kept-few : kept ≤ 65535
  pub going : unfinished (take kept memory) ≡ true
  pub inside : 5 + n ≤ length bytes
  pub few : n ≤ 16384

-- handshake bytes that came so far, the rest of them being kept so
pub record Progresses (c : RecordConnection) (p : Code.Progress) (keep : Option Put) (left : ℕ) (d : Decided) : Type 0 where
  pub is : (q : Progress) → q.connection ≡ p.connection → q.flight ≡ flight_of p.outgoing → q.master ≡ p.handed
      → length q.left ≡ left → (memory held bytes : List ℕ) → held_by keep memory held bytes ≡ q.left
      → decided (Ok d) memory held bytes ≡ handshake_step c (goes_on q)
  pub keeps : d.keep ≡ keep
  pub fits : d.len ≤ 336

abbrev pub refused_first : Bool → Refusal → Refusal
refused_first first r = cond (first && eqb (number_of r) 20) DecryptError r

-- ---- what the call gives back

abbrev pub room_for : Option Put → ℕ → Bool
room_for None room = true
room_for (Some k) room = leb (k.at + k.len) room

abbrev pub answered_by : Decided → Result ℕ Refusal → Taken
answered_by d said =
    record {
      said = said;
      holds = d.holds;
      handed = d.handed;
      next = d.next;
    }
