-- The client's own "completes exactly when", in the form of demand 3's second half: one statement about every series of calls from an accepted start.
-- proofs/Completion.antt proves it.
use Rattle.std.specs.Prelude.{◌≡◌, ◌↔◌, ℕ, List, ◌∷◌, ◌++◌, Ok}
use Rattle.lists.specs.Lists.{Each}
use Rattle.handshake.specs.Series.{Call, message, IgnoredWarning}
use Rattle.client.specs.declared.Phase.{Phase}
use Rattle.client.specs.Connection.{Settings, start_call}
use Rattle.client_theorems.specs.Series.{run}
use Rattle.client_theorems.specs.Terms.{ChangeCame, RightFinished}

-- Legal messages and a change of cipher came in their order, with nothing else before their end but ignored warnings and calls refused to the host; and the
-- Finished value is the right one under the client's key.
pub record CameRight (s : Settings) (calls : List Call) : Type 0 where
  pub first : List Call
  pub came : ChangeCame s first
  pub between : List Call
  pub finished : List ℕ
  pub out : List ℕ
  pub rest : List Call
  pub is : calls ≡ first ++ (between ++ (message finished out ∷ rest))
  pub aside : Each IgnoredWarning between
  pub right : RightFinished s came finished

-- Nothing is assumed of the connection's state: with it in the assumption the statement would say nothing of how a client gets there.
abbrev pub ClientCompletesExactly : Type 0
ClientCompletesExactly =
    (s : Settings) (out : List ℕ) (n : ℕ) → (start_call s out).said ≡ Ok n
    → (calls : List Call) → ((run (start_call s out).next calls).phase ≡ Phase.Complete) ↔ CameRight s calls
