-- Document 01, "Numbers that come back", and the numbers of document 02's P1, P5, P6 and P7, as a table: for each refusal its number, who is given it, and what
-- becomes of the connection.
use Rattle.std.specs.Prelude.{ℕ, Bool, true, false}
use Rattle.refusal.specs.declared.Refusal.{Refusal}
use Rattle.refusal.specs.declared.Refusal.TheVariants.{ShortOutput, BadTable, BadSetting, ConnectionOver, BadValue}
use Rattle.refusal.specs.declared.Refusal.TheVariants.{AlreadyListed, NotListed, TableFull, SequenceSpent, BadList}
use Rattle.refusal.specs.declared.Refusal.TheVariants.{UnexpectedMessage, BadRecordMac, RecordOverflow, HandshakeFailure, IllegalParameter, DecodeError}
use Rattle.refusal.specs.declared.Refusal.TheVariants.{DecryptError, ProtocolVersion, UnsupportedExtension, UnknownPskIdentity}

-- An R number is for the host, and any other for the peer, as a fatal alert: for the client where a server gives it, for the server where a client does.
pub data Receiver : Type 0 where
  host peer : Receiver

-- the column "Connection"
pub data Effect : Type 0 where
  unchanged closed noneMade noneInvolved : Effect

pub record Row : Type 0 where
  pub no : ℕ
  pub receiver : Receiver
  pub connection : Effect

-- R n
abbrev R : ℕ → Effect → Row
R n e = record { no = n; receiver = host; connection = e }

-- a fatal alert
abbrev alert : ℕ → Row
alert n = record { no = n; receiver = peer; connection = closed }

abbrev pub row : Refusal → Row
row ShortOutput = R 1 unchanged
row BadTable = R 2 unchanged
row BadSetting = R 3 noneMade
row ConnectionOver = R 4 unchanged
row BadValue = R 5 noneInvolved
row AlreadyListed = R 6 noneInvolved
row NotListed = R 7 noneInvolved
row TableFull = R 8 noneInvolved
row SequenceSpent = R 9 unchanged
row BadList = R 10 unchanged
row UnexpectedMessage = alert 10
row BadRecordMac = alert 20
row RecordOverflow = alert 22
row HandshakeFailure = alert 40
row IllegalParameter = alert 47
row DecodeError = alert 50
row DecryptError = alert 51
row ProtocolVersion = alert 70
row UnsupportedExtension = alert 110
row UnknownPskIdentity = alert 115

abbrev pub number_of : Refusal → ℕ
number_of r = (row r).no

abbrev pub is_peer : Receiver → Bool
is_peer host = false
is_peer peer = true

abbrev pub to_peer : Refusal → Bool
to_peer r = is_peer (row r).receiver
