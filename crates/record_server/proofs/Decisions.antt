-- What a decision on a record means.
-- Assumes nothing.
use mathlib.Core.Path.{◌≡◌, refl}
use Prim.Native.Nat.{ℕ}
use mathlib.Core.Bool.{Bool, true, false, cond}
use mathlib.Core.List.{List, []}
use lib.ListN.{length}
use lib.Dec.{eqb}
use borrow.Author.Tests.{eqb-true}
use Rattle.std.specs.Prelude.{Result, Ok, Err, None}
use Rattle.refusal.specs.declared.Refusal.{Refusal}
use Rattle.refusal.specs.declared.Refusal.TheVariants.{DecodeError}
use Rattle.server.specs.declared.Phase.{Phase}
use Rattle.server.specs.declared.Phase.TheVariants.{Hello, KeyExchange, Change, Finished, Complete, Closed}
use Rattle.server.specs.declared.Connection.{Connection}
use Rattle.handshake.specs.declared.Answer.{Answer}
use Rattle.handshake.specs.Step as Shared
use Rattle.server.specs.Step as Server
use Rattle.server.specs.Change.{change_step}
use Rattle.records.specs.declared.ContentType.{ContentType}
use Rattle.record_server.specs.declared.RecordConnection.{RecordConnection}
use Rattle.record_server.specs.declared.taking.Decided.{Decided}
use Rattle.record_server.specs.Taking.{Step, refuse, silently, changed, changed_by, content_test}
use Rattle.record_server.specs.InnerTaking.{Decides}

-- what is decided for one step is decided for the same step
pub same_step : {d : Result Decided Refusal} {memory held bytes : List ℕ} {s t : Step} → s ≡ t → Decides d memory held bytes t → Decides d memory held bytes s
same_step e h = rw e h

-- a refusal leaves nothing to be sent or held
pub refused-decides : {d : Result Decided Refusal} {memory held bytes : List ℕ} {r : Refusal} {s : Step} → d ≡ Err r → s ≡ refuse r → Decides d memory held bytes s
refused-decides e f = rw (e, f) (record { means = refl; keeps = tt })

-- ---- a change of cipher, by what the server's call said of it

abbrev change_said : RecordConnection → List ℕ → Result ℕ Refusal → Connection → Step
change_said c held (Ok n) next = silently (changed c next) held None
change_said c held (Err r) next = refuse r

pub change-said : (c : RecordConnection) (held : List ℕ) (h : Connection) (p : Phase) {a : Answer Connection}
    → a ≡ Shared.answered (Server.settled h [] (change_step h p)) → changed_by c held (change_step h p) ≡ change_said c held a.said a.next
change-said c held h Hello e = rw e
change-said c held h KeyExchange e = rw e
change-said c held h Change e = rw e
change-said c held h Finished e = rw e
change-said c held h Complete e = rw e
change-said c held h Closed e = rw e

-- ---- an alert that met its test

pub two_bytes : {kind : ContentType} (complete amid : Bool) (content : List ℕ) → kind ≡ ContentType.Alert
    → content_test kind complete amid content ≡ Ok tt → length content ≡ 2
two_bytes complete amid content k e = go (eqb (length content) 2) refl (rw k at e)
  where
    go : (t : Bool) → eqb (length content) 2 ≡ t → cond {A = Result Unit Refusal} t (Ok tt) (Err DecodeError) ≡ Ok tt → length content ≡ 2
    go true right f = eqb-true (length content) 2 right
    go false other f = cc
