-- What a step decides, as the code has it, and the step that it stands for, on either side. A layer that puts each message in a record of its own reads it so.
use Rattle.std.specs.Prelude.{ℕ, ◌≤◌, ◌≡◌, List, [], Result, Ok, Err}
use Rattle.refusal.specs.declared.Refusal.{Refusal}
use Rattle.handshake.specs.declared.Decision.{Decision}
use Rattle.handshake.specs.Flight.{longest}
use Rattle.handshake.specs.Handed.{step_blocks}
use Rattle.handshake.specs.Outgoing.{total, flight_of}
use Rattle.handshake.specs.Step.{Step, refuse, accept}

abbrev pub decided : {C : Type 0} → Result (Decision C) Refusal → Step C
decided (Ok d) = accept (flight_of d.outgoing) d.next
decided (Err r) = refuse r

-- how long its messages are, none where it refuses
abbrev pub lengths_in : {C : Type 0} → Result (Decision C) Refusal → List ℕ
lengths_in (Ok d) = d.outgoing.lengths
lengths_in (Err r) = []

-- the number of blocks that it reports, 0 where it refuses
abbrev pub blocks_in : {C : Type 0} → Result (Decision C) Refusal → ℕ
blocks_in (Ok d) = d.blocks
blocks_in (Err r) = 0

-- it stands for the step, and reports this number of blocks where the step does not refuse
pub record Decides {C : Type 0} (given : Result (Decision C) Refusal) (step : Step C) (blocks : ℕ) : Type 0 where
  pub means : decided given ≡ step
  pub fits : total (lengths_in given) ≤ longest
  pub counts : blocks_in given ≡ step_blocks step blocks
