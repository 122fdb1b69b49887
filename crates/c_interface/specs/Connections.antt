-- The server's calls as C makes them: the connection in lent bytes (crates/saved/specs/Saved.antt).
use Rattle.std.specs.Prelude.{◌≡◌, ℕ, cond, List, leb, eqb, ℤ, Option, None, Some}
use Rattle.handshake.specs.Handed.{derived}
use Rattle.handshake.specs.declared.Answer.{Answer}
use Rattle.handshake.specs.declared.Derived.{Derived}
use Rattle.handshake.specs.Protocol.{suites}
use Rattle.server.specs.declared.Rule.{Rule}
use Rattle.server.specs.declared.Connection.{Connection}
use Rattle.server.specs.Connection.{bad_setting, start_answer}
use Rattle.server.specs.KeyExchange.{View}
use Rattle.server.specs.Step.{Settled}
use Rattle.server.specs.Message.{message_step, message_call, handed_over, blocks_in}
use Rattle.saved.specs.Saved.{saved, restored}
use Rattle.c_interface.specs.Kept.{KeepsAs, StartsAs, master_after, blocks_after}

-- a call that was lent the connection's bytes
abbrev pub Keeps : Settled → (bytes : List ℕ) → ℤ → (bytes' : List ℕ) → Type 0
Keeps wanted = KeepsAs saved restored wanted.said wanted.next

-- ---- start

-- the rule as C names it; 3 and above are none
abbrev pub named_of : ℕ → Option Rule
named_of n = cond (eqb n 0) None (cond (eqb n 1) (Some Rule.Tell) (Some Rule.Hide))

abbrev pub start_call : (random hint stand_in : List ℕ) → ℕ → Answer Connection
start_call random hint stand_in rule =
    cond (leb rule 2) (start_answer (record { random = random; hint = hint; stand_in = stand_in; named = named_of rule; suites = suites })) bad_setting

-- the call that makes a connection
abbrev pub Starts : Answer Connection → (bytes : List ℕ) → ℤ → (bytes' : List ℕ) → Type 0
Starts wanted = StartsAs saved restored wanted.said wanted.next

-- ---- a message

-- the master secret with the number of its blocks, where one is handed over
abbrev pub handed_by : View → Connection → List ℕ → Option Derived
handed_by v c message = derived (handed_over c.phase (message_step v c message c.phase)) (blocks_in v c message c.phase)

-- what a message leaves in the lent output, in the lent master secret and in the lent number
pub record Replies (v : View) (c : Connection) (message out out' master master' : List ℕ) (blocks blocks' : ℕ) : Type 0 where
  pub left : out' ≡ (message_call v c message out).out
  pub handed : master' ≡ master_after (handed_by v c message) master
  pub counted : blocks' ≡ blocks_after (handed_by v c message) blocks
