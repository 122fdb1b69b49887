-- A code tells what was said: two answers with one code are one answer. So a C program needs no second number to tell an R number, an alert
-- and a count apart.
-- Assumes nothing.
use mathlib.Core.Path.{◌≡◌, refl, sym, ap, ◌∙◌}
use Prim.Native.Nat.{ℕ}
use mathlib.Core.Bool.{cond}
use lib.Dec.{eqb}
use lib.IntN.{ℤ, pos, negsuc}
use Rattle.std.specs.Prelude.{Result, Ok, Err}
use Rattle.refusal.specs.declared.Refusal.{Refusal}
use Rattle.refusal.specs.declared.Refusal.TheVariants.{ShortOutput, BadTable, BadSetting, ConnectionOver, BadValue}
use Rattle.refusal.specs.declared.Refusal.TheVariants.{AlreadyListed, NotListed, TableFull, SequenceSpent, BadList, BadRecordMac, RecordOverflow}
use Rattle.refusal.specs.declared.Refusal.TheVariants.{UnexpectedMessage, HandshakeFailure, IllegalParameter, DecodeError, DecryptError}
use Rattle.refusal.specs.declared.Refusal.TheVariants.{ProtocolVersion, UnsupportedExtension, UnknownPskIdentity}
use Rattle.c_interface.specs.Codes.{refusal_code, coded}

-- what was said, from its code: -1 - n is a refusal
refusal_below : ℕ → Refusal
refusal_below n =
    cond (eqb n 0) ShortOutput
    (cond (eqb n 1) BadTable
    (cond (eqb n 2) BadSetting
    (cond (eqb n 3) ConnectionOver
    (cond (eqb n 4) BadValue
    (cond (eqb n 5) AlreadyListed
    (cond (eqb n 6) NotListed
    (cond (eqb n 7) TableFull
    (cond (eqb n 8) SequenceSpent
    (cond (eqb n 9) BadList
    (cond (eqb n 1009) UnexpectedMessage
    (cond (eqb n 1019) BadRecordMac
    (cond (eqb n 1021) RecordOverflow
    (cond (eqb n 1039) HandshakeFailure
    (cond (eqb n 1046) IllegalParameter
    (cond (eqb n 1049) DecodeError
    (cond (eqb n 1050) DecryptError
    (cond (eqb n 1069) ProtocolVersion
    (cond (eqb n 1109) UnsupportedExtension
    UnknownPskIdentity))))))))))))))))))

said : ℤ → Result ℕ Refusal
said (pos n) = Ok n
said (negsuc n) = Err (refusal_below n)

refusal-said : (r : Refusal) → said (refusal_code r) ≡ Err r
unfolding said refusal_below
refusal-said ShortOutput = refl
refusal-said BadTable = refl
refusal-said BadSetting = refl
refusal-said ConnectionOver = refl
refusal-said BadValue = refl
refusal-said AlreadyListed = refl
refusal-said NotListed = refl
refusal-said TableFull = refl
refusal-said SequenceSpent = refl
refusal-said BadList = refl
refusal-said UnexpectedMessage = refl
refusal-said BadRecordMac = refl
refusal-said RecordOverflow = refl
refusal-said HandshakeFailure = refl
refusal-said IllegalParameter = refl
refusal-said DecodeError = refl
refusal-said DecryptError = refl
refusal-said ProtocolVersion = refl
refusal-said UnsupportedExtension = refl
refusal-said UnknownPskIdentity = refl

all_said : (w : Result ℕ Refusal) → said (coded w) ≡ w
unfolding said
all_said (Ok n) = refl
all_said (Err r) = refusal-said r

pub codes-apart : (v w : Result ℕ Refusal) → coded v ≡ coded w → v ≡ w
codes-apart v w e = sym (all_said v) ∙ ap said e ∙ all_said w
