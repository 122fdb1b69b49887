-- A connection that is over (document 01, "Numbers that come back"): R4 to every call, and nothing changes. proofs/Over.antt proves it, for any value
-- of a connection, also one that no call has made.
use Rattle.std.specs.Prelude.{◌≡◌, ℕ, true, List, [], Err}
use Rattle.refusal.specs.declared.Refusal.TheVariants.{ConnectionOver}
use Rattle.handshake.specs.Series.{Call, message, change_of_cipher, alert}
use Rattle.server.specs.declared.Connection.{Connection}
use Rattle.server.specs.Connection.{is_over}
use Rattle.server.specs.KeyExchange.{View}
use Rattle.theorems.specs.Series.{call}

-- the output that a call is lent
abbrev pub lent : Call → List ℕ
lent (message bytes out) = out
lent change_of_cipher = []
lent (alert level description) = []

abbrev pub OverStays : Type 0
OverStays =
    (v : View) (c : Connection) → is_over c.phase ≡ true → (x : Call)
    → call v c x ≡ record { said = Err ConnectionOver; out = lent x; next = c }
