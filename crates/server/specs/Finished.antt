-- Step 4: a Finished (document 01, "The server's steps"; RFC 5246, section 7.4.9).
use Rattle.std.specs.Prelude.{ℕ, cond, ◌&&◌, List, [], ◌∷◌, Option, None, Some}
use Rattle.refusal.specs.declared.Refusal.TheVariants.{DecodeError, DecryptError}
use Rattle.refusal.specs.Lent.{Outcome, gives, refuses}
use Rattle.sha256.specs.State.{absorb}
use Rattle.keys.specs.declared.Side.TheVariants.{Client, Server}
use Rattle.keys.specs.Secrets.{finished_of}
use Rattle.layout.specs.Layout.{bytes}
use Rattle.messages.specs.Fixed as Fixed
use Rattle.handshake.specs.Finished.{is_value}
use Rattle.handshake.specs.Flight.{Flight}
use Rattle.handshake.specs.Step.{refuse, accept}
use Rattle.server.specs.declared.Phase.{Phase}
use Rattle.server.specs.declared.Connection.{Connection}
use Rattle.server.specs.Connection.{ended}
use Rattle.server.specs.Step.{Step}

-- the server's Finished, behind its change of cipher
abbrev pub finished_flight : List ℕ → Flight
finished_flight value = record { plain = []; protected = bytes Fixed.finished value ∷ [] }

abbrev pub completed : Outcome → Step
completed (gives value) = accept (finished_flight value) (ended Phase.Complete)
completed (refuses r) = refuse DecryptError

-- 51 for an unlisted identity or a wrong value. The server's value counts the client's Finished m.
abbrev pub judged : Connection → List ℕ → List ℕ → Step
judged c m value =
    cond (c.client.listed && is_value value (finished_of Client c.secrets.master c.transcript))
    (completed (finished_of Server c.secrets.master (absorb c.transcript m)))
    (refuse DecryptError)

-- 50 for another length
abbrev pub finished_value : Connection → List ℕ → Option (List ℕ) → Step
finished_value c m None = refuse DecodeError
finished_value c m (Some value) = judged c m value
