-- The server's Finished at the front of an array is its flight.
-- Assumes nothing.
use mathlib.Core.Path.{◌≡◌, ap, ◌∙◌}
use Prim.Native.Nat.{ℕ}
use native.Mathlib.Omega.{arith}
use mathlib.Core.List.{List, [], ◌∷◌, ◌++◌}
use lib.ListN.{length}
use Rattle.layout.specs.Layout.{bytes}
use Rattle.messages.specs.Fixed as Fixed
use Rattle.handshake.specs.Flight.{Flight}
use Rattle.handshake.specs.Outgoing.{cut, Sends}
use Rattle.server.specs.Finished.{finished_flight}
use Rattle.handshake.proofs.Flights.{cut-first}

abbrev protectedly : List (List ℕ) → Flight
protectedly messages = record { plain = []; protected = messages }

-- a Finished at the front of an array, behind the change of cipher
pub finished-sent : (value array rest : List ℕ) → length value ≡ 12 → array ≡ bytes Fixed.finished value ++ rest
    → Sends (record { bytes = array; lengths = 16 ∷ 0 ∷ 0 ∷ []; plain = 0 }) (finished_flight value)
finished-sent value array rest size e =
    let message : List ℕ = bytes Fixed.finished value in
    let all : cut (16 ∷ 0 ∷ 0 ∷ []) array ≡ message ∷ [] =
    ap (cut (16 ∷ 0 ∷ 0 ∷ [])) e ∙ cut-first message rest 16 (0 ∷ 0 ∷ []) (omega arith) (omega arith) in
    record { means = ap protectedly all; fits = omega arith }
