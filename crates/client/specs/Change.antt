-- The server's change of cipher, a call without bytes (document 02, P7): 10 where it is not awaited, R4 on a complete or closed connection.
use Rattle.std.specs.Prelude.{[]}
use Rattle.refusal.specs.declared.Refusal.TheVariants.{ConnectionOver, UnexpectedMessage}
use Rattle.handshake.specs.Flight.{silence}
use Rattle.handshake.specs.Step.{refuse, accept}
use Rattle.client.specs.declared.Phase.{Phase}
use Rattle.client.specs.declared.Connection.{Connection}
use Rattle.client.specs.Step.{Step, Settled, settled}

abbrev pub after_change : Connection → Connection
after_change c = record { phase = Phase.Finished; setup = c.setup; server = c.server; secrets = c.secrets; transcript = c.transcript }

abbrev pub change_step : Connection → Phase → Step
change_step c Phase.Hello = refuse UnexpectedMessage
change_step c Phase.KeyExchange = refuse UnexpectedMessage
change_step c Phase.Done = refuse UnexpectedMessage
change_step c Phase.Change = accept silence (after_change c)
change_step c Phase.Finished = refuse UnexpectedMessage
change_step c Phase.Complete = refuse ConnectionOver
change_step c Phase.Closed = refuse ConnectionOver

-- the call, which is lent no output
abbrev pub change_call : Connection → Settled
change_call c = settled c [] (change_step c c.phase)
