-- Every record that is sent has fewer than 2 ^ 31 bytes, by the limit on content; and what a record holds that came fits 32 bits, by the tests on it.
-- Assumes nothing.
use mathlib.Core.Path.{◌≡◌, refl}
use Prim.Native.Nat.{ℕ, ◌-◌, ◌≤◌, ◌<◌}
use native.Mathlib.Omega.{arith}
use mathlib.Core.Bool.{Bool, true, false, cond, not, ◌&&◌}
use mathlib.Core.List.{List, [], ◌∷◌, ◌++◌}
use lib.ListN.{length, drop, get_or, length-take}
use lib.Dec.{leb}
use borrow.Author.Tests.{leb-true, eqb-true}
use Rattle.std.specs.Prelude.{Result, Ok, Err}
use Rattle.records.specs.declared.Content.{Content}
use Rattle.refusal.specs.declared.Refusal.{Refusal}
use Rattle.lists.proofs.Tests.{and_right}
use Rattle.refusal.specs.declared.Refusal.TheVariants.{BadValue, DecodeError, DecryptError}
use Rattle.refusal.specs.Lent.{Outcome, gives}
use Rattle.endian.specs.Number.{Bytes}
use Rattle.endian.specs.Vector.{stated}
use Rattle.endian.proofs.Numbers.{bytes_drop}
use Rattle.handshake.specs.declared.Heard.{Heard}
use Rattle.handshake.specs.Alert.{warning, close_notify, heard}
use Rattle.handshake.specs.Step as Shared
use Rattle.server.specs.Step as Server
use Rattle.server.specs.Change.{change_step}
use Rattle.server.specs.KeyExchange.{View}
use Rattle.records.specs.declared.ContentType.{ContentType}
use Rattle.records.specs.declared.State.{State}
use Rattle.records.specs.Record.{content_limit, whole, type_of, type_read, record_read}
use Rattle.records.specs.Protection.{sealed, sealing, opened, content_of, holding}
use Rattle.records.specs.Joining.{held_in}
use Rattle.records.proofs.Reading.{record-inside}
use Rattle.records.proofs.Opening.{few-added, length-sealed, opened_inside}
use Rattle.record_server.specs.declared.RecordConnection.{RecordConnection}
use Rattle.record_server.specs.Connection.{is_complete, over_test, alert_of}
use Rattle.record_server.specs.Sending.{after_over, data_record, close_record}
use Rattle.record_server.specs.Joining as Judging
use Rattle.record_server.specs.Joining.{Judged, goes_on, is_empty, judged}
use Rattle.record_server.specs.Taking.{Step, Settled, refuse, accept, alert_step, changed_by, handshake_step, content_test, content_step, content_decided}
use Rattle.record_server.specs.Taking.{after_test, unlisted_first, opened_step, take_step, settled, take_call}
use Rattle.c_interface.specs.Inner.{DataFits}
use Rattle.c_interface.proofs.Sizes.{Small, bytes-if-small, outcome-if-small}
use Rattle.c_interface.proofs.Places.{two_bytes}

-- ---- a record that is sent

pub sealing-small : (s : State) (kind : ContentType) (content : List ℕ) → Small (sealing s kind content)
sealing-small s kind content = bytes-if-small (leb (length content) content_limit) (sealed s kind content) BadValue (λ ok.
    let most : length content ≤ 16384 = leb-true (length content) 16384 ok in
    omega (arith, length-sealed s kind content, few-added s))

over-small : (v : Result Unit Refusal) (o : Outcome) → Small o → Small (after_over v o)
over-small (Ok tt) o h = h
over-small (Err r) o h = omega arith

pub data-small : (c : RecordConnection) (content : List ℕ) → Small (data_record c content)
data-small c content =
    over-small (over_test c.handshake.phase c.writing.sequence) _
    (outcome-if-small (is_complete c.handshake.phase) _ BadValue (sealing-small c.writing ContentType.ApplicationData content))

pub close-small : (c : RecordConnection) → Small (close_record c)
close-small c =
    over-small (over_test c.handshake.phase c.writing.sequence) _
    (sealing-small c.writing ContentType.Alert (warning ∷ close_notify ∷ []))

-- the length of a closing alert's record is a byte
pub alert-small : (c : RecordConnection) → c.alert.length < 256 → Small (gives (alert_of c))
alert-small c h = omega (arith, length-take c.alert.length c.alert.bytes)

-- ---- a record that came

-- the content is as long as `opened` says, at most
content-short : (s : State) (b : List ℕ) {kind : ContentType} {n : ℕ} → opened s b ≡ holding kind n → length (content_of s b) ≤ 16384
content-short s b {kind} {n} e =
    let inside = opened_inside s b e in
    rw inside.3 (omega (arith, length-take n (drop 5 b), inside.1))

abbrev StepFits : Step → Type 0
StepFits (refuse r) = Unit
StepFits (accept a) = DataFits a.holds

module _ (v : View) (c : RecordConnection) where
  content-fits : (held content : List ℕ) (kind : ContentType) → length content ≤ 16384 → StepFits (content_step v c held content kind)
  content-fits held content ContentType.ApplicationData few = omega arith
  content-fits held content ContentType.Alert few = go (heard (get_or content 0 0) (get_or content 1 0))
    where
      go : (h : Heard) → StepFits (alert_step c held h)
      go Heard.Illegal = tt
      go Heard.Ends = tt
      go Heard.Ignored = tt
  content-fits held content ContentType.ChangeCipherSpec few = go (change_step c.handshake c.handshake.phase)
    where
      go : (s : Server.Step) → StepFits (changed_by c held s)
      go (Shared.refuse r) = tt
      go (Shared.accept flight next) = tt
  content-fits held content ContentType.Handshake few = go (judged v c.handshake (held ++ content))
    where
      go : (j : Judged) → StepFits (handshake_step c j)
      go (Judging.refuse r) = tt
      go (goes_on p) = tt

  test_fits : (t : Result Unit Refusal) (step : Step) → StepFits step → StepFits (after_test t step)
  test_fits (Ok tt) step h = h
  test_fits (Err r) step h = tt

  opened-fits : (held b : List ℕ) (o : Result Content Refusal) → opened c.reading b ≡ o → StepFits (opened_step v c held b o)
  opened-fits held b (Err r) e = tt
  opened-fits held b (Ok opens) e = go (unlisted_first c)
    where
      content : List ℕ
      content = content_of c.reading b

      go : (t : Bool) → StepFits (cond t (refuse DecryptError) (content_decided v c held content opens.kind))
      go true = tt
      go false =
          test_fits (content_test opens.kind (is_complete c.handshake.phase) (not (is_empty held)) content) _
          (content-fits held content opens.kind (content-short c.reading b e))

  taken-fits : (memory b : List ℕ) → StepFits (take_step v c memory b)
  taken-fits memory b =
      test_fits (over_test c.handshake.phase c.reading.sequence) _
      (opened-fits (held_in memory c.held) b (opened c.reading b) refl)

settled-fits : (c : RecordConnection) (out memory : List ℕ) (step : Step) → StepFits step → DataFits (settled c out memory step).holds
settled-fits c out memory (refuse r) h = tt
settled-fits c out memory (accept a) h = go (leb (length a.answer) (length out) && leb (length a.held) (length memory)) _ _ h tt
  where
    go : (t : Bool) (x y : Settled) → DataFits x.holds → DataFits y.holds → DataFits (cond t x y).holds
    go true x y p q = p
    go false x y p q = q

-- application data is no longer than a record's content may be
pub data-fits : (v : View) (c : RecordConnection) (b memory out : List ℕ) → DataFits (take_call v c b memory out).holds
data-fits v c b memory out = settled-fits c out memory (take_step v c memory b) (taken-fits v c memory b)

-- ---- numbers in bytes

-- a record whose layout passed has a header, and is no longer than that can say
pub read_length : (added : ℕ) (b : List ℕ) {kind : ContentType} → Bytes b → record_read added b ≡ Ok kind
    → (5 ≤ length b) × (length b ≤ 65540)
read_length added b {kind} bytes e =
    let inside = record-inside added b e in
    let few : length b - 5 < 65536 = go (whole b) refl e in
    (inside.0, omega arith)
  where
    go : (t : Bool) → whole b ≡ t → cond t (type_read added b (type_of (get_or b 0 0))) (Err DecodeError) ≡ Ok kind
        → length b - 5 < 65536
    go true w f =
        let says : stated 2 (drop 3 b) ≡ length b - 5 = eqb-true (stated 2 (drop 3 b)) (length b - 5) (and_right (leb 5 (length b)) _ w) in
        omega (arith, two_bytes (drop 3 b) (bytes_drop 3 b bytes))
    go false w f = let z : ◌≡◌ {A = ℕ} 0 1 = cc in omega arith
