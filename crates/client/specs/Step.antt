-- What a step comes to and what a call makes of it (crates/handshake/specs/Step.antt), on a client's connection.
use Rattle.std.specs.Prelude.{ℕ, List}
use Rattle.handshake.specs.Step as Shared
use Rattle.client.specs.declared.Phase.{Phase}
use Rattle.client.specs.declared.Connection.{Connection}
use Rattle.client.specs.Connection.{ended}

abbrev pub Step : Type 0
Step = Shared.Step Connection

abbrev pub Settled : Type 0
Settled = Shared.Settled Connection

abbrev pub settled : Connection → List ℕ → Step → Settled
settled = Shared.settled (ended Phase.Closed)
