-- A phase in one byte, for a host that keeps a connection as bytes.
use Rattle.std.specs.Prelude.{ℕ, cond, eqb, Option, None, Some}
use Rattle.client.specs.declared.Phase.{Phase}

-- a phase in one byte, closed being 0
abbrev pub phase_byte : Phase → ℕ
phase_byte Phase.Closed = 0
phase_byte Phase.Hello = 1
phase_byte Phase.KeyExchange = 2
phase_byte Phase.Done = 3
phase_byte Phase.Change = 4
phase_byte Phase.Finished = 5
phase_byte Phase.Complete = 6

-- the phase whose byte it is, if it is that of one
abbrev pub phase_of : ℕ → Option Phase
phase_of n =
    cond (eqb n 0) (Some Phase.Closed)
    (cond (eqb n 1) (Some Phase.Hello)
    (cond (eqb n 2) (Some Phase.KeyExchange)
    (cond (eqb n 3) (Some Phase.Done)
    (cond (eqb n 4) (Some Phase.Change)
    (cond (eqb n 5) (Some Phase.Finished)
    (cond (eqb n 6) (Some Phase.Complete) None))))))
