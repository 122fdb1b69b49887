-- The client's calls as C makes them: the connection in lent bytes (crates/saved_client/specs/Saved.antt).
use Rattle.std.specs.Prelude.{◌≡◌, ℕ, List, ℤ, Option}
use Rattle.handshake.specs.Handed.{derived}
use Rattle.handshake.specs.declared.Derived.{Derived}
use Rattle.client.specs.declared.Connection.{Connection}
use Rattle.client.specs.Step.{Settled}
use Rattle.client.specs.Message.{message_call, handed_over, blocks_in}
use Rattle.saved_client.specs.Saved.{saved, restored}
use Rattle.c_interface.specs.Kept.{KeepsAs, StartsAs, master_after, blocks_after}

-- a call that was lent the connection's bytes
abbrev pub Keeps : Settled → (bytes : List ℕ) → ℤ → (bytes' : List ℕ) → Type 0
Keeps wanted = KeepsAs saved restored wanted.said wanted.next

-- the call that makes a connection
abbrev pub Starts : Settled → (bytes : List ℕ) → ℤ → (bytes' : List ℕ) → Type 0
Starts wanted = StartsAs saved restored wanted.said wanted.next

-- the master secret with the number of its blocks, where one is handed over
abbrev pub handed_by : Connection → (message out : List ℕ) → Option Derived
handed_by c message out = derived (handed_over (message_call c message out).said (message_call c message out).next) (blocks_in c message c.phase)

-- what a message leaves in the lent output, in the lent master secret and in the lent number
pub record Replies (c : Connection) (message out out' master master' : List ℕ) (blocks blocks' : ℕ) : Type 0 where
  pub left : out' ≡ (message_call c message out).out
  pub handed : master' ≡ master_after (handed_by c message out) master
  pub counted : blocks' ≡ blocks_after (handed_by c message out) blocks
