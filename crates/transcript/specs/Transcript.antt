-- Document 01, "Secrets": the transcript of a connection, one, to which each message is added where it stands: the running hash of the handshake
-- messages so far, headers included.
use Rattle.std.specs.Prelude.{ℕ, List}
use Rattle.sha256.specs.State.{fresh, absorb}
use Rattle.transcript.specs.declared.Transcript.{Transcript}

-- the transcript before any message
abbrev pub begun : Transcript
begun = record { hash = fresh }

-- the transcript when one more message has come
unfoldable pub added : Transcript → List ℕ → Transcript
added t message = record { hash = absorb t.hash message }
