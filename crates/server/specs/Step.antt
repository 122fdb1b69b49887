-- What a step comes to and what a call makes of it, of the server's connections.
use Rattle.std.specs.Prelude.{ℕ, List}
use Rattle.handshake.specs.Step as Shared
use Rattle.server.specs.declared.Phase.{Phase}
use Rattle.server.specs.declared.Connection.{Connection}
use Rattle.server.specs.Connection.{ended}

abbrev pub Step : Type 0
Step = Shared.Step Connection

abbrev pub Settled : Type 0
Settled = Shared.Settled Connection

abbrev pub settled : Connection → List ℕ → Step → Settled
settled c out step = Shared.settled (ended Phase.Closed) c out step
