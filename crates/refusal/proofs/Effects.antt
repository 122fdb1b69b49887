-- What depends on a refusal's effect on the connection alone, by who is given it: one thing for an alert, another for an R number.
-- Assumes nothing.
use mathlib.Core.Path.{◌≡◌}
use mathlib.Core.Bool.{cond}
use Rattle.refusal.specs.declared.Refusal.{Refusal}
use Rattle.refusal.specs.declared.Refusal.TheVariants.{ShortOutput, BadTable, BadSetting, ConnectionOver, BadValue}
use Rattle.refusal.specs.declared.Refusal.TheVariants.{AlreadyListed, NotListed, TableFull, SequenceSpent, BadList}
use Rattle.refusal.specs.declared.Refusal.TheVariants.{UnexpectedMessage, BadRecordMac, RecordOverflow, HandshakeFailure, IllegalParameter, DecodeError}
use Rattle.refusal.specs.declared.Refusal.TheVariants.{DecryptError, ProtocolVersion, UnsupportedExtension, UnknownPskIdentity}
use Rattle.refusal.specs.Table.{Effect, unchanged, closed, noneMade, noneInvolved, row, to_peer}

module _ {A : Type 0} (f : Effect → A) {x y : A} (shut : f closed ≡ x) (same : f unchanged ≡ y) (none : f noneMade ≡ y) (apart : f noneInvolved ≡ y) where
  pub by-receiver : (r : Refusal) → f (row r).connection ≡ cond (to_peer r) x y
  by-receiver ShortOutput = same
  by-receiver BadTable = same
  by-receiver BadSetting = none
  by-receiver ConnectionOver = same
  by-receiver BadValue = apart
  by-receiver AlreadyListed = apart
  by-receiver NotListed = apart
  by-receiver TableFull = apart
  by-receiver SequenceSpent = same
  by-receiver BadList = same
  by-receiver UnexpectedMessage = shut
  by-receiver BadRecordMac = shut
  by-receiver RecordOverflow = shut
  by-receiver HandshakeFailure = shut
  by-receiver IllegalParameter = shut
  by-receiver DecodeError = shut
  by-receiver DecryptError = shut
  by-receiver ProtocolVersion = shut
  by-receiver UnsupportedExtension = shut
  by-receiver UnknownPskIdentity = shut
