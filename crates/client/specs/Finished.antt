-- The server's Finished (document 02, P7; RFC 5246, section 7.4.9).
use Rattle.std.specs.Prelude.{ℕ, cond, List, Option, None, Some}
use Rattle.refusal.specs.declared.Refusal.TheVariants.{DecodeError, DecryptError}
use Rattle.keys.specs.declared.Side.TheVariants.{Server}
use Rattle.keys.specs.Secrets.{finished_of}
use Rattle.handshake.specs.Finished.{is_value}
use Rattle.handshake.specs.Flight.{silence}
use Rattle.handshake.specs.Step.{refuse, accept}
use Rattle.client.specs.declared.Phase.{Phase}
use Rattle.client.specs.declared.Connection.{Connection}
use Rattle.client.specs.Connection.{ended}
use Rattle.client.specs.Step.{Step}

-- 50 for another length, 51 for a wrong value; a right one completes without an answer. The transcript has every message, the client's Finished too.
abbrev pub finished_step : Connection → Option (List ℕ) → Step
finished_step c None = refuse DecodeError
finished_step c (Some value) =
    cond (is_value value (finished_of Server c.secrets.master c.transcript)) (accept silence (ended Phase.Complete)) (refuse DecryptError)
