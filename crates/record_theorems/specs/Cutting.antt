-- However handshake bytes are cut into records, the messages judged are the same, and so is what they come to. proofs/Cutting.antt proves it.
use Rattle.std.specs.Prelude.{◌≡◌, ℕ, List, [], ◌∷◌, ◌++◌, length, None}
use Rattle.handshake.specs.Flight.{silence, joined}
use Rattle.server.specs.declared.Connection.{Connection}
use Rattle.server.specs.KeyExchange.{View}
use Rattle.record_server.specs.Joining.{Progress, Judged, refuse, goes_on, judge_bytes, judged}

-- more bytes behind those that are left
abbrev pub with_more : Progress → List ℕ → Progress
with_more p more = record { connection = p.connection; flight = p.flight; master = p.master; left = p.left ++ more }

-- what is judged of the bytes that are left
abbrev pub judge_all : View → Progress → Judged
judge_all v p = judge_bytes (length p.left) v p

-- parts that come one after the other, each behind what the ones before it left
abbrev pub fed_then : Judged → (Progress → Judged) → Judged
fed_then (refuse r) next = refuse r
fed_then (goes_on p) next = next p

abbrev pub fed : View → Progress → List (List ℕ) → Judged
fed v p [] = goes_on p
fed v p (part ∷ parts) = fed_then (judge_all v (with_more p part)) (λ q. fed v q parts)

-- the parts in their records come to what the joined bytes come to
abbrev pub CutFree : Type 0
CutFree =
    (v : View) (c : Connection) (parts : List (List ℕ))
    → fed v (record { connection = c; flight = silence; master = None; left = [] }) parts ≡ judged v c (joined parts)
