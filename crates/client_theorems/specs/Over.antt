-- A client's connection that is over (document 01, "Numbers that come back"): R4 to every call, and nothing changes. proofs/Over.antt proves it, for any value
-- of a connection, also one that no call has made.
use Rattle.std.specs.Prelude.{◌≡◌, true, Err}
use Rattle.refusal.specs.declared.Refusal.TheVariants.{ConnectionOver}
use Rattle.handshake.specs.Series.{Call}
use Rattle.client.specs.declared.Connection.{Connection}
use Rattle.client.specs.Connection.{is_over}
use Rattle.theorems.specs.Over.{lent}
use Rattle.client_theorems.specs.Series.{call}

abbrev pub ClientOverStays : Type 0
ClientOverStays =
    (c : Connection) → is_over c.phase ≡ true → (x : Call) → call c x ≡ record { said = Err ConnectionOver; out = lent x; next = c }
