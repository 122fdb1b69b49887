-- What a host is handed beside an answer: the master secret, for its records, and how many 64-byte blocks were hashed to derive it (document 02, P8). It is
-- for the host alone: no byte, alert or refusal for the peer depends on the number, in which the key's length shows, and demand 3 leaves both out.
use Rattle.std.specs.Prelude.{ℕ, List, Option, None, Some}
use Rattle.handshake.specs.Step.{Step, refuse, accept}
use Rattle.handshake.specs.declared.Answer.{Answer}
use Rattle.handshake.specs.declared.Derived.{Derived}
use Rattle.handshake.specs.declared.Reply.{Reply}

-- a master secret, if one is handed over, with its number
abbrev pub derived : Option (List ℕ) → ℕ → Option Derived
derived None n = None
derived (Some master) n = Some (record { master = master; blocks = n })

-- the number that a step reports, where it does not refuse
abbrev pub step_blocks : {C : Type 0} → Step C → ℕ → ℕ
step_blocks (refuse r) n = 0
step_blocks (accept flight next) n = n

-- what a message is answered with
abbrev pub with_master : {C : Type 0} → Answer C → Option Derived → Reply C
with_master a o = record { said = a.said; handed = o; next = a.next }
