-- Every headline statement on the client, as one record; docs/ASSURANCE.md has a row for each field, and tests/claims compares the two. proofs/Claims.antt proves it
-- by one value.
use Rattle.std.specs.Prelude.{◌≡◌, ℕ, ◌+◌, List, ◌⊎◌, length, replicate, Some}
use Rattle.client.specs.declared.Phase.{Phase}
use Rattle.client.specs.declared.Connection.{Connection}
use Rattle.client.specs.Connection.{Settings}
use Rattle.client.specs.Message.{message_call, handed_over}
use Rattle.saved_client.specs.Saved.{phase_byte, restored}
use Rattle.client_theorems.specs.Completion.{ClientCompletesExactly}
use Rattle.client_theorems.specs.Exchange.{BothEndsComplete}
use Rattle.client_theorems.specs.Over.{ClientOverStays}
use Rattle.client_theorems.specs.Terms.{answer_length}

pub record Claims : Type 0 where
  -- demand 1, on the client's side
  pub client_over_stays : ClientOverStays
  pub client_cleared_closed : (restored (replicate 413 0)).phase ≡ Phase.Closed
  -- the numbers by which C names a client's phases, as include/turretnail.h has them
  pub client_phases_in_c : (phase_byte Phase.Closed ≡ 0)
      × (phase_byte Phase.Hello ≡ 1)
      × (phase_byte Phase.KeyExchange ≡ 2)
      × (phase_byte Phase.Done ≡ 3)
      × (phase_byte Phase.Change ≡ 4)
      × (phase_byte Phase.Finished ≡ 5)
      × (phase_byte Phase.Complete ≡ 6)
  -- the answer to a ServerHelloDone: 22 bytes and the identity's
  pub client_answer_length : (s : Settings) → answer_length s ≡ 22 + length s.identity
  -- the master secret is handed over by a message that finds the ServerHelloDone awaited, and by no other
  pub client_master_handed_once : (c : Connection) (m out secret : List ℕ) → handed_over (message_call c m out).said (message_call c m out).next ≡ Some secret
      → (c.phase ≡ Phase.KeyExchange) ⊎ (c.phase ≡ Phase.Done)
  -- demand 3's second half for a client, and both ends together
  pub client_completes_exactly : ClientCompletesExactly
  pub both_ends_complete : BothEndsComplete
