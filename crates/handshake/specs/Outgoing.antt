-- A flight as the code has it: messages one behind the other at the front of an array, with their lengths.
use Rattle.std.specs.Prelude.{ℕ, ◌+◌, ◌≤◌, ◌≡◌, cond, List, [], ◌∷◌, take, drop, leb, eqb}
use Rattle.handshake.specs.declared.Outgoing.{Outgoing}
use Rattle.handshake.specs.Flight.{Flight, longest}

abbrev pub total : List ℕ → ℕ
total [] = 0
total (n ∷ ns) = n + total ns

-- how many bytes they are together, within their array
abbrev pub size_of : Outgoing → ℕ
size_of o = cond (leb (total o.lengths) longest) (total o.lengths) longest

-- the messages of these lengths, one behind the other, where 0 stands for none
abbrev pub cut : List ℕ → List ℕ → List (List ℕ)
cut [] bytes = []
cut (n ∷ ns) bytes = cond (eqb n 0) (cut ns bytes) (take n bytes ∷ cut ns (drop n bytes))

-- the flight that they are
abbrev pub flight_of : Outgoing → Flight
flight_of o =
    record {
      plain = cut (take o.plain o.lengths) o.bytes;
      protected = cut (drop o.plain o.lengths) (drop (total (take o.plain o.lengths)) o.bytes);
    }

-- messages that stand within their array
pub record Sends (o : Outgoing) (flight : Flight) : Type 0 where
  pub means : flight_of o ≡ flight
  pub fits : total o.lengths ≤ longest
