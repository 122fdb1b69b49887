-- A closed record connection: R4 to every call, and nothing changes; complete is not over here (document 02, P5). proofs/Over.antt proves it, for any value of
-- a connection, also one that no call has made.
use Rattle.std.specs.Prelude.{◌≡◌, ℕ, true, List, Err}
use Rattle.refusal.specs.declared.Refusal.TheVariants.{ConnectionOver}
use Rattle.server.specs.KeyExchange.{View}
use Rattle.record_server.specs.Connection.{is_closed}
use Rattle.record_theorems.specs.Series.{Call, takes, sends, Kept, call}

-- the output that a call is lent
abbrev pub lent : Call → List ℕ
lent (takes bytes out) = out
lent (sends content out) = out

abbrev pub ClosedStays : Type 0
ClosedStays =
    (v : View) (k : Kept) → is_closed k.connection.handshake.phase ≡ true → (x : Call)
    → call v k x ≡ record { said = Err ConnectionOver; out = lent x; kept = k }
