-- A received alert, two byte values (document 01, "The server's steps"; RFC 5246, section 7.2), on either side.
use Rattle.std.specs.Prelude.{ℕ, cond, not, ◌||◌, eqb}
use Rattle.refusal.specs.declared.Refusal.TheVariants.{IllegalParameter}
use Rattle.handshake.specs.declared.Heard.{Heard}
use Rattle.handshake.specs.Flight.{silence}
use Rattle.handshake.specs.Step.{Step, refuse, accept}

abbrev pub warning : ℕ
warning = 1

abbrev pub fatal : ℕ
fatal = 2

abbrev pub close_notify : ℕ
close_notify = 0

-- what an alert comes to by itself: a fatal one or close_notify ends the connection, and any other warning is ignored
abbrev pub heard : ℕ → ℕ → Heard
heard level description =
    cond (not (eqb level warning || eqb level fatal)) Heard.Illegal
    (cond (eqb level fatal || eqb description close_notify) Heard.Ends Heard.Ignored)

-- 47 for a level that is neither; the end is without an answer, and what is ignored changes nothing
abbrev pub heard_step : {C : Type 0} → (over c : C) → Heard → Step C
heard_step over c Heard.Illegal = refuse IllegalParameter
heard_step over c Heard.Ends = accept silence over
heard_step over c Heard.Ignored = accept silence c
