-- A connection that is over answers R4 to every call and stays as it was.
-- Assumes nothing.
use mathlib.Core.Path.{◌≡◌, refl, ap}
use mathlib.Core.Bool.{true, false≢true}
use mathlib.Core.List.{[]}
use Rattle.refusal.specs.declared.Refusal.TheVariants.{ConnectionOver}
use Rattle.handshake.specs.Series.{message, change_of_cipher, alert}
use Rattle.handshake.specs.Step.{refuse}
use Rattle.server.specs.declared.Phase.{Phase}
use Rattle.server.specs.declared.Connection.{Connection}
use Rattle.server.specs.Connection.{is_over}
use Rattle.server.specs.Step.{settled}
use Rattle.server.specs.Change.{change_step}
use Rattle.theorems.specs.Over.{OverStays}

change-over : (c : Connection) (p : Phase) → is_over p ≡ true → change_step c p ≡ refuse ConnectionOver
change-over c Phase.Hello h = absurd (false≢true h)
change-over c Phase.KeyExchange h = absurd (false≢true h)
change-over c Phase.Change h = absurd (false≢true h)
change-over c Phase.Finished h = absurd (false≢true h)
change-over c Phase.Complete h = refl
change-over c Phase.Closed h = refl

pub over-stays : OverStays
over-stays v c over (message m out) = rw over
over-stays v c over change_of_cipher = ap (settled c []) (change-over c c.phase over)
over-stays v c over (alert level description) = rw over
