-- A phase and a rule in one byte each, for a host that keeps a connection as bytes.
use Rattle.std.specs.Prelude.{ℕ, cond, eqb, Option, None, Some}
use Rattle.server.specs.declared.Rule.{Rule}
use Rattle.server.specs.declared.Phase.{Phase}

-- a phase in one byte, closed being 0
abbrev pub phase_byte : Phase → ℕ
phase_byte Phase.Closed = 0
phase_byte Phase.Hello = 1
phase_byte Phase.KeyExchange = 2
phase_byte Phase.Change = 3
phase_byte Phase.Finished = 4
phase_byte Phase.Complete = 5

-- the phase whose byte it is, if it is that of one
abbrev pub phase_of : ℕ → Option Phase
phase_of n =
    cond (eqb n 0) (Some Phase.Closed)
    (cond (eqb n 1) (Some Phase.Hello)
    (cond (eqb n 2) (Some Phase.KeyExchange)
    (cond (eqb n 3) (Some Phase.Change)
    (cond (eqb n 4) (Some Phase.Finished)
    (cond (eqb n 5) (Some Phase.Complete) None)))))

-- a rule in one byte, never 0, so that cleared memory is no connection that was saved
abbrev pub rule_byte : Rule → ℕ
rule_byte Rule.Tell = 1
rule_byte Rule.Hide = 2

-- the rule whose byte it is, if it is that of one
abbrev pub rule_of : ℕ → Option Rule
rule_of n = cond (eqb n 1) (Some Rule.Tell) (cond (eqb n 2) (Some Rule.Hide) None)
