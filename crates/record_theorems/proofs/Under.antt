-- Where a series stands under the client's protection, behind the change of cipher, and what every call that came makes of it there.
-- Assumes nothing.
use mathlib.Core.Path.{◌≡◌, refl, sym, ap, subst, ◌∙◌}
use mathlib.Core.Logic.{inl, inr}
use Prim.Native.Nat.{ℕ, ◌+◌}
use native.Mathlib.Omega.{arith}
use mathlib.Core.Bool.{Bool, true, false, cond, not, ◌&&◌, and-false, true≢false}
use mathlib.Core.List.{List, [], ◌∷◌, ◌++◌, append-nil}
use lib.ListN.{length, get_or, length-append}
use lib.Dec.{eqb}
use borrow.Author.Tests.{eq-eqb, eqb-true}
use Rattle.std.proofs.lemmas.Option.{none-some}
use Rattle.std.specs.Prelude.{Result, Ok, Err, Option, None, Some}
use Rattle.records.specs.declared.Content.{Content}
use Rattle.lists.specs.Lists.{same}
use Rattle.refusal.specs.declared.Refusal.{Refusal}
use Rattle.refusal.specs.declared.Refusal.TheVariants.{UnexpectedMessage, BadRecordMac, IllegalParameter, DecodeError, DecryptError}
use Rattle.refusal.specs.Table.{to_peer, number_of}
use Rattle.handshake.specs.declared.Heard.{Heard}
use Rattle.handshake.specs.Alert.{heard}
use Rattle.server.specs.declared.Phase.{Phase}
use Rattle.server.specs.Connection.{Settings, acceptable, ended}
use Rattle.server.specs.KeyExchange.{View}
use Rattle.records.specs.declared.ContentType.{ContentType}
use Rattle.records.specs.declared.State.{State}
use Rattle.records.specs.Record.{record_read}
use Rattle.records.specs.Protection.{last_sequence, following, added, right_mac, mac_read, opened, content_of, holding}
use Rattle.records.specs.Joining.{unfinished, held_in}
use Rattle.record_server.specs.declared.RecordConnection.{RecordConnection}
use Rattle.record_server.specs.Connection.{no_alert, closed_with}
use Rattle.record_server.specs.Answering.{change_of_cipher}
use Rattle.record_server.specs.Joining as Judging
use Rattle.record_server.specs.Joining.{Progress, goes_on, judged, is_empty}
use Rattle.record_server.specs.Taking.{Accepted, refuse, accept, front, take_step, opened_step, content_decided, unlisted_first, refused_as}
use Rattle.record_server.specs.Taking.{silently, one_more, handshake_step, is_first}
use Rattle.theorems.proofs.Finishing.{Right}
use Rattle.record_theorems.specs.Series.{Call, takes, sends, Kept, call, refused_to_host}
use Rattle.record_theorems.specs.Terms.{under, SealedRecord, Warning, Sealed, none as nothing-sealed, fragment, warning, ChangeCame, named}
use Rattle.record_theorems.proofs.Refusing.{Told}
use Rattle.record_theorems.proofs.Taking.{alerted, accepted, held-front, read-alerts, ignored-warning, warning-ignored}
use Rattle.record_theorems.proofs.Standing.{changed_to}
use Rattle.record_theorems.proofs.Finishing.{waiting, Finishing, waits, completes, refused, finishing}
use Rattle.record_theorems.proofs.Sealing.{sealed-record, sealed-append}

-- ---- the stage

-- the MAC key that the client's records are read with
abbrev pub mac_key : (s : Settings) (v : View) {first : List Call} → ChangeCame s first → List ℕ
mac_key s v began = (changed_to s v began).reading.key

-- the connection after n records under the client's protection, with so many bytes of an unfinished message held
abbrev pub protected_at : (s : Settings) (v : View) {first : List Call} → ChangeCame s first → (n held : ℕ) → RecordConnection
protected_at s v began n held =
    record {
      handshake = (changed_to s v began).handshake;
      reading = under (mac_key s v began) n;
      writing = (changed_to s v began).writing;
      pending = (changed_to s v began).pending;
      held = held;
      alert = no_alert;
    }

-- n records came whose handshake bytes, all of which wait, are these
pub record At (s : Settings) (v : View) {first : List Call} (began : ChangeCame s first) (n : ℕ) (bytes : List ℕ) (k : Kept) : Type 0 where
  pub short : unfinished bytes ≡ true
  pub waits : judged v (changed_to s v began).handshake bytes ≡ goes_on (waiting (changed_to s v began).handshake bytes)
  pub is : k.connection ≡ protected_at s v began n (length bytes)
  pub holds : held_in k.memory (length bytes) ≡ bytes

-- these calls came behind the change of cipher; where the identity is unlisted, none has
pub record Under (s : Settings) (v : View) {first : List Call} (began : ChangeCame s first) (calls : List Call) (k : Kept) : Type 0 where
  pub bytes : List ℕ
  pub protected : Sealed (mac_key s v began) 0 calls bytes
  pub at : At s v began (length calls) bytes k
  pub unlisted : v.lookup (named s began) ≡ None → calls ≡ []

pub under-begins : (s : Settings) (v : View) {first : List Call} (began : ChangeCame s first) (k : Kept) → k.connection ≡ changed_to s v began
    → At s v began 0 [] k
under-begins s v began k is = record { short = refl; waits = unfold Judging.judge_bytes in refl; is = is; holds = refl }

-- ---- the tests on a record refuse with alerts

opened-alerts : (state : State) (b : List ℕ) {r : Refusal} → opened state b ≡ Err r → to_peer r ≡ true
opened-alerts state b {r} e = of-read (record_read (added state) b) refl e
  where
    refusals : (q : Refusal) → to_peer q ≡ true → ◌≡◌ {A = Result Content Refusal} (Err q) (Err r) → to_peer r ≡ true
    refusals q told e = let is : q ≡ r = cc in rw (← is) told

    of-mac : (t : Bool) (kind : ContentType) (n : ℕ) → cond t (Err BadRecordMac) (holding kind n) ≡ Err r
        → to_peer r ≡ true
    of-mac true kind n e = refusals BadRecordMac refl e
    of-mac false kind n e = let z : ◌≡◌ {A = ℕ} 0 1 = cc in absurd (omega arith)

    of-read : (read : Result ContentType Refusal) → record_read (added state) b ≡ read → mac_read state b read ≡ Err r → to_peer r ≡ true
    of-read (Ok kind) is e = of-mac (state.protected && not (right_mac state b)) kind _ e
    of-read (Err q) is e = refusals q (read-alerts (added state) b is) e

refused-alerts : (c : RecordConnection) (r : Refusal) → to_peer r ≡ true → to_peer (refused_as c r) ≡ true
refused-alerts c r told = go (is_first c && eqb (number_of r) 20)
  where
    go : (t : Bool) → to_peer (cond t DecryptError r) ≡ true
    go true = refl
    go false = told

-- ---- a record under the client's protection

pub data AfterUnder (s : Settings) (v : View) {first : List Call} (began : ChangeCame s first) (calls : List Call) (k : Kept) : Type 0 where
  still : Under s v began calls k → AfterUnder s v began calls k
  finishes : (finished : List ℕ) → Sealed (mac_key s v began) 0 calls finished
      → Right s began.legal_hello began.exchange (v.lookup (named s began)) finished → AfterUnder s v began calls k
  closes : k.connection.handshake.phase ≡ Phase.Closed → AfterUnder s v began calls k

module _ (s : Settings) (v : View) {first : List Call} (began : ChangeCame s first) (n : ℕ) (bytes memory : List ℕ) where
  abbrev c : RecordConnection
  c = protected_at s v began n (length bytes)

  abbrev k : Kept
  k = record { connection = c; memory = memory }

  -- R9 is refused to the host
  not-spent : (b out : List ℕ) → refused_to_host (call v k (takes b out)).said ≡ false → eqb n last_sequence ≡ false
  not-spent b out comes = go (eqb n last_sequence) refl
    where
      go : (t : Bool) → eqb n last_sequence ≡ t → eqb n last_sequence ≡ false
      go true e = absurd (true≢false (rw e at comes))
      go false e = e

  module _ (at : At s v began n bytes k) where
    opens-to : (b out : List ℕ) → refused_to_host (call v k (takes b out)).said ≡ false
        → take_step v c memory b ≡ opened_step v c bytes b (opened (under (mac_key s v began) n) b)
    opens-to b out comes = rw (not-spent b out comes, at.holds)

    -- data cannot be sent yet
    none-sent : (content out : List ℕ) → refused_to_host (call v k (sends content out)).said ≡ false → ⊥
    none-sent content out comes = go (eqb c.writing.sequence last_sequence) refl
      where
        go : (t : Bool) → eqb c.writing.sequence last_sequence ≡ t → ⊥
        go true e = true≢false (rw e at comes)
        go false e = true≢false (rw e at comes)

    module _ (key : List ℕ) (listed : v.lookup (named s began) ≡ Some key) {kind : ContentType} {content : List ℕ} {x : Call}
        (sealed : SealedRecord (mac_key s v began) n kind content x) (comes : refused_to_host (call v k x).said ≡ false) where
      abbrev b : List ℕ
      b = sealed.bytes

      came : refused_to_host (call v k (takes b sealed.out)).said ≡ false
      came = rw sealed.is at comes

      listed-first : unlisted_first c ≡ false
      listed-first = rw (listed, and-false (is_first c))

      decided : take_step v c memory b ≡ content_decided v c bytes content kind
      decided = opens-to b sealed.out came ∙ rw (sealed.opens, listed-first, sealed.holds)

      kept-is : {a : Accepted} → content_decided v c bytes content kind ≡ accept a
          → (call v k x).kept ≡ record { connection = a.next; memory = front a.held memory }
      kept-is e = rw sealed.is (accepted v k b sealed.out (decided ∙ e) came)

      closed-by : (r : Refusal) → content_decided v c bytes content kind ≡ refuse r → to_peer r ≡ true
          → (call v k x).kept.connection.handshake.phase ≡ Phase.Closed
      closed-by r e told = rw sealed.is (alerted v k b sealed.out (decided ∙ e) told)

      next-number : following n ≡ n + 1
      next-number = rw (not-spent b sealed.out came)

    -- ---- what is in it

    module _ (key : List ℕ) (listed : v.lookup (named s began) ≡ Some key) {x : Call} (comes : refused_to_host (call v k x).said ≡ false) where
      -- an ignored warning counts, and nothing else
      pub warned : {content : List ℕ} → SealedRecord (mac_key s v began) n ContentType.Alert content x → Warning content
          → At s v began (n + 1) bytes (call v k x).kept
      warned {content} sealed ignored =
          let heard-so = warning-ignored content ignored in
          let e : content_decided v c bytes content ContentType.Alert ≡ silently (one_more c) bytes None =
          rw (eq-eqb (length content) 2 heard-so.0, heard-so.1) in
          record {
            short = at.short;
            waits = at.waits;
            is = rw (kept-is key listed sealed comes e, next-number key listed sealed comes);
            holds = rw (kept-is key listed sealed comes e) (held-front bytes memory at.short);
          }

      -- handshake bytes are judged behind those that wait
      module _ {d : ℕ} {ds : List ℕ} (sealed : SealedRecord (mac_key s v began) n ContentType.Handshake (d ∷ ds) x) where
        abbrev all : List ℕ
        all = bytes ++ (d ∷ ds)

        pub waits-on : unfinished all ≡ true → judged v c.handshake all ≡ goes_on (waiting c.handshake all)
            → At s v began (n + 1) all (call v k x).kept
        waits-on short e =
            let kept : (call v k x).kept ≡ record { connection = protected_at s v began (following n) (length all); memory = front all memory } =
            kept-is key listed sealed comes (ap (handshake_step c) e) in
            record {
              short = short;
              waits = e;
              is = rw (kept, next-number key listed sealed comes);
              holds = rw kept (held-front all memory short);
            }

        pub completes-on : {p : Progress} → p.connection ≡ ended Phase.Complete → judged v c.handshake all ≡ goes_on p
            → (call v k x).kept.connection.handshake.phase ≡ Phase.Complete
        completes-on {p} over e = rw (kept-is key listed sealed comes (ap (handshake_step c) e), over)

        refused-on : {r : Refusal} → to_peer r ≡ true → judged v c.handshake all ≡ Judging.refuse r
            → (call v k x).kept.connection.handshake.phase ≡ Phase.Closed
        refused-on {r} told e = closed-by key listed sealed comes r (ap (handshake_step c) e) told

    -- ---- every call that came

    module _ (ok : acceptable s ≡ true) (good : v.refusal ≡ None) (calls : List Call) (protected : Sealed (mac_key s v began) 0 calls bytes)
        (numbered : 0 + length calls ≡ n) (unlisted : v.lookup (named s began) ≡ None → calls ≡ []) (b out : List ℕ) where
      abbrev x : Call
      x = takes b out

      module _ (comes : refused_to_host (call v k x).said ≡ false) where
        abbrev Then : Type 0
        Then = AfterUnder s v began (calls ++ (x ∷ [])) (call v k x).kept

        one-more : n + 1 ≡ length (calls ++ (x ∷ []))
        one-more = omega (arith, length-append calls (x ∷ []))

        module _ (key : List ℕ) (listed : v.lookup (named s began) ≡ Some key) where
          not-unlisted : v.lookup (named s began) ≡ None → calls ++ (x ∷ []) ≡ []
          not-unlisted unknown = absurd (none-some key (sym unknown ∙ listed))

          of-handshake : (content : List ℕ) → SealedRecord (mac_key s v began) n ContentType.Handshake content x → Then
          of-handshake [] sealed = closes (closed-by key listed sealed comes DecodeError refl refl)
          of-handshake (d ∷ ds) sealed =
              go (finishing s v ok began.legal_hello began.legal_exchange (v.lookup (named s began)) (bytes ++ (d ∷ ds)))
            where
              joined : Sealed (mac_key s v began) 0 (calls ++ (x ∷ [])) (bytes ++ (d ∷ ds))
              joined =
                  let last : Sealed (mac_key s v began) n (x ∷ []) ((d ∷ ds) ++ []) = fragment sealed nothing-sealed in
                  sealed-append protected (rw numbered (rw append-nil at last))

              go : Finishing s v began.legal_hello began.exchange (v.lookup (named s began)) (bytes ++ (d ∷ ds)) → Then
              go (waits short e) =
                  let now : At s v began (n + 1) (bytes ++ (d ∷ ds)) (call v k x).kept = waits-on key listed comes sealed short e in
                  still (record { bytes = bytes ++ (d ∷ ds); protected = joined; at = rw one-more at now; unlisted = not-unlisted })
              go (completes right p over e) = finishes (bytes ++ (d ∷ ds)) joined right
              go (refused r told e) = closes (refused-on key listed comes sealed (of-told told) e)
                where
                  of-told : Told v r → to_peer r ≡ true
                  of-told (inl client) = client
                  of-told (inr table) = absurd (none-some r (sym good ∙ table))

          of-warning : {content : List ℕ} → SealedRecord (mac_key s v began) n ContentType.Alert content x → Warning content → Then
          of-warning sealed ignored =
              let now : At s v began (n + 1) bytes (call v k x).kept = warned key listed comes sealed ignored in
              let joined : Sealed (mac_key s v began) 0 (calls ++ (x ∷ [])) (bytes ++ []) =
              sealed-append protected (rw numbered (warning ignored sealed nothing-sealed)) in
              still (record { bytes = bytes; protected = rw append-nil at joined; at = rw one-more at now; unlisted = not-unlisted })

          of-alert : (content : List ℕ) → SealedRecord (mac_key s v began) n ContentType.Alert content x → Then
          of-alert content sealed = of_length (eqb (length content) 2) refl (heard (get_or content 0 0) (get_or content 1 0)) refl
            where
              of_length : (two : Bool) → eqb (length content) 2 ≡ two → (h : Heard) → heard (get_or content 0 0) (get_or content 1 0) ≡ h → Then
              of_length false other h e = closes (closed-by key listed sealed comes DecodeError (rw other) refl)
              of_length true two Heard.Illegal e = closes (closed-by key listed sealed comes IllegalParameter (rw (two, e)) refl)
              of_length true two Heard.Ends e =
                  let ended_by : content_decided v c bytes content ContentType.Alert ≡ silently (closed_with no_alert) bytes None =
                  rw (two, e) in
                  closes (ap (λ (kept : Kept). kept.connection.handshake.phase) (kept-is key listed sealed comes ended_by))
              of_length true two Heard.Ignored e = of-warning sealed (ignored-warning content (eqb-true (length content) 2 two) e)

          of-change : (content : List ℕ) → SealedRecord (mac_key s v began) n ContentType.ChangeCipherSpec content x → Then
          of-change content sealed = go (is_empty bytes) refl (same content change_of_cipher) refl
            where
              go : (empty : Bool) → is_empty bytes ≡ empty → (one : Bool) → same content change_of_cipher ≡ one → Then
              go false amid one e = closes (closed-by key listed sealed comes UnexpectedMessage (rw amid) refl)
              go true none-held true e = closes (closed-by key listed sealed comes UnexpectedMessage (rw (none-held, e)) refl)
              go true none-held false e = closes (closed-by key listed sealed comes DecodeError (rw (none-held, e)) refl)

          of-kind : (kind : ContentType) (content : List ℕ) → SealedRecord (mac_key s v began) n kind content x → Then
          of-kind ContentType.ChangeCipherSpec content sealed = of-change content sealed
          of-kind ContentType.Alert content sealed = of-alert content sealed
          of-kind ContentType.Handshake content sealed = of-handshake content sealed
          of-kind ContentType.ApplicationData content sealed = closes (closed-by key listed sealed comes UnexpectedMessage refl refl)

        of-listed : {kind : ContentType} {m : ℕ} → opened (under (mac_key s v began) n) b ≡ holding kind m
            → (found : Option (List ℕ)) → v.lookup (named s began) ≡ found → Then
        of-listed {kind} e (Some key) listed =
            of-kind key listed kind (content_of (under (mac_key s v began) n) b) (sealed-record (mac_key s v began) n b out e)
        of-listed e None unknown =
            let zeroth : eqb n 0 ≡ true = eq-eqb n 0 (omega (arith, ap length (unlisted unknown))) in
            let first : unlisted_first c ≡ true = rw (unknown, zeroth) in
            closes (alerted v k b out {r = DecryptError} (opens-to b out comes ∙ rw (e, first)) refl)

        of-opened : (o : Result Content Refusal) → opened (under (mac_key s v began) n) b ≡ o → Then
        of-opened (Err r) e =
            closes (alerted v k b out (opens-to b out comes ∙ ap (opened_step v c bytes b) e)
            (refused-alerts c r (opened-alerts (under (mac_key s v began) n) b e)))
        of-opened (Ok content) e = of-listed e (v.lookup (named s began)) refl

        taken : Then
        taken = of-opened (opened (under (mac_key s v began) n) b) refl

module _ (s : Settings) (v : View) (ok : acceptable s ≡ true) (good : v.refusal ≡ None) {first : List Call} (began : ChangeCame s first) where
  pub under-on : (calls : List Call) (k : Kept) (x : Call) → Under s v began calls k → refused_to_host (call v k x).said ≡ false
      → AfterUnder s v began (calls ++ (x ∷ [])) (call v k x).kept
  under-on calls k x stands comes =
      subst (λ (connection : RecordConnection). On x (record { connection = connection; memory = k.memory })) (sym stands.at.is) (go x) comes
    where
      On : Call → Kept → Type 0
      On y l = refused_to_host (call v l y).said ≡ false → AfterUnder s v began (calls ++ (y ∷ [])) (call v l y).kept

      now : Kept
      now = record { connection = protected_at s v began (length calls) (length stands.bytes); memory = k.memory }

      at : At s v began (length calls) stands.bytes now
      at = record { short = stands.at.short; waits = stands.at.waits; is = refl; holds = stands.at.holds }

      go : (y : Call) → On y now
      go (takes b out) came =
          taken s v began (length calls) stands.bytes k.memory at ok good calls stands.protected (omega arith) stands.unlisted b out came
      go (sends content out) came = absurd (none-sent s v began (length calls) stands.bytes k.memory at content out came)
