-- What every call that came makes of a series before the client's protection begins, up to the change of cipher.
-- Assumes nothing.
use mathlib.Core.Path.{◌≡◌, refl, sym, ap, subst, ◌∙◌}
use mathlib.Core.Logic.{inl, inr}
use Prim.Native.Nat.{ℕ}
use mathlib.Core.Bool.{Bool, true, false, cond, true≢false}
use mathlib.Core.List.{List, [], ◌∷◌, ◌++◌, append-nil, append_assoc}
use lib.ListN.{length, get_or}
use lib.Dec.{eqb}
use borrow.Author.Tests.{eqb-true}
use Rattle.std.specs.Prelude.{Result, Ok, Err, Option, None, Some}
use Rattle.lists.specs.Lists.{same}
use Rattle.lists.proofs.Equal.{same-eq}
use Rattle.refusal.specs.declared.Refusal.{Refusal}
use Rattle.refusal.specs.declared.Refusal.TheVariants.{UnexpectedMessage, IllegalParameter, DecodeError, SequenceSpent}
use Rattle.refusal.specs.Table.{to_peer}
use Rattle.handshake.specs.declared.Heard.{Heard}
use Rattle.handshake.specs.Alert.{heard}
use Rattle.server.specs.declared.Phase.{Phase}
use Rattle.server.specs.Connection.{Settings, rule_of, acceptable, started}
use Rattle.server.specs.KeyExchange.{View}
use Rattle.server.specs.Change.{after_change, change_step}
use Rattle.records.specs.declared.ContentType.{ContentType}
use Rattle.records.specs.Record.{fragment_of, record_read}
use Rattle.records.specs.Protection.{last_sequence, following}
use Rattle.records.specs.Joining.{held_in}
use Rattle.record_server.specs.Connection.{no_alert, closed_with}
use Rattle.record_server.specs.Answering.{change_of_cipher}
use Rattle.record_server.specs.Joining as Judging
use Rattle.record_server.specs.Joining.{Progress, Judged, goes_on, is_empty, judged}
use Rattle.record_server.specs.Taking.{Step, refuse, accept, Accepted, one_more, pending_with, progressed, take_step, front, settled, changed}
use Rattle.theorems.specs.Terms.{LegalHello}
use Rattle.theorems.proofs.Stages.{keyed, unknown}
use Rattle.record_theorems.specs.Series.{Call, takes, sends, Kept, call, run, refused_to_host}
use Rattle.record_theorems.specs.Terms.{PlainRecord, Warning, Plain, none, fragment, warning, ChangeCame, named}
use Rattle.record_theorems.specs.Demand3.{begun}
use Rattle.record_theorems.proofs.Refusing.{Told}
use Rattle.record_theorems.proofs.Coming.{Come, come-append, run-append}
use Rattle.record_theorems.proofs.Taking.{alerted, accepted, held-front, read-alerts, ignored-warning, warning-ignored}
use Rattle.record_theorems.proofs.Cutting.{refused-on, onto, cut, left-unfinished, judged-told}
use Rattle.record_theorems.proofs.Reaching.{from, keys_made, Reached, awaits-hello, awaits-exchange, awaits-change, exchange-judged}
use Rattle.record_theorems.proofs.Reaching.{exchange-refused, change-judged, reached}
use Rattle.record_theorems.proofs.Standing.{plainly, changed_to, StandsPlain, AfterPlain, still, changes, closes, Proper}
use Rattle.record_theorems.proofs.Standing.{plain_more, plain-warned, plain_step, step_of, quiet, change-step, early-change, alone}
use Rattle.record_theorems.proofs.Standing.{reached-going, more-judged, goes_on_lem, handshake-next, begins, empty-is}

-- ---- what every call that came makes of it

module _ (s : Settings) (v : View) where
  module _ {calls : List Call} {bytes : List ℕ} (k : Kept) (stands : StandsPlain s v calls bytes k) where
    abbrev n : ℕ
    n = stands.number

    abbrev p : Progress
    p = stands.progress

    stage : Reached s v bytes p
    stage = reached s v bytes p stands.goes

    -- data cannot be sent yet
    none-sent : (content out : List ℕ) → refused_to_host (call v k (sends content out)).said ≡ false → ⊥
    none-sent content out comes = go (eqb (plainly n p).writing.sequence last_sequence) refl
      where
        go : (last : Bool) → eqb (plainly n p).writing.sequence last_sequence ≡ last → ⊥
        go true e = true≢false (rw (stands.is, (reached-going s v stage).0, e) at comes)
        go false e = true≢false (rw (stands.is, (reached-going s v stage).0, (reached-going s v stage).1, e) at comes)

    module _ (b out : List ℕ) (comes : refused_to_host (call v k (takes b out)).said ≡ false) where
      abbrev x : Call
      x = takes b out

      abbrev step : Step
      step = take_step v k.connection k.memory b

      not-to-host : {r : Refusal} → step ≡ refuse r → refused_to_host (Err r) ≡ true → ⊥
      not-to-host e host =
          true≢false (sym host ∙ subst (λ (t : Step). refused_to_host (settled k.connection out k.memory t).said ≡ false) e comes)

      -- R9 is refused to the host
      step_is : step ≡ plain_step v n p b (record_read 0 b)
      step_is =
          go (eqb n last_sequence)
          (step_of v k n p stands.is (reached-going s v stage).0 (reached-going s v stage).1 stands.holds b (record_read 0 b) refl
          (eqb n last_sequence) refl)
        where
          go : (last : Bool) → step ≡ cond last (refuse SequenceSpent) (plain_step v n p b (record_read 0 b))
              → step ≡ plain_step v n p b (record_read 0 b)
          go true e = absurd (not-to-host e refl)
          go false e = e

      module _ {kind : ContentType} (read : record_read 0 b ≡ Ok kind) where
        decided : {t : Step} → plain_step v n p b (Ok kind) ≡ t → step ≡ t
        decided e = step_is ∙ ap (plain_step v n p b) read ∙ e

        closed-by : (r : Refusal) → to_peer r ≡ true → plain_step v n p b (Ok kind) ≡ refuse r
            → AfterPlain s v (calls ++ (x ∷ [])) (call v k x).kept
        closed-by r told e = closes (alerted v k b out (decided e) told)

        kept-is : (a : Accepted) → plain_step v n p b (Ok kind) ≡ accept a
            → (call v k x).kept ≡ record { connection = a.next; memory = front a.held k.memory }
        kept-is a e = accepted v k b out (decided e) comes

        -- one more record without protection
        stays_plain : (a : Accepted) → plain_step v n p b (Ok kind) ≡ accept a → (all : List ℕ) → Plain (calls ++ (x ∷ [])) all
            → (q : Progress) → judged v (started s) all ≡ goes_on q → a.next ≡ plainly (following n) q → a.held ≡ q.left
            → StandsPlain s v (calls ++ (x ∷ [])) all (call v k x).kept
        stays_plain a e all plain q goes_on_lem next held =
            record {
              came = plain;
              number = following n;
              progress = q;
              goes = goes_on_lem;
              is = ap (λ (l : Kept). l.connection) (kept-is a e) ∙ next;
              holds = ap (λ (l : Kept). held_in l.memory (length q.left)) (kept-is a e)
                  ∙ rw held (held-front q.left k.memory (left-unfinished v (from s all) q goes_on_lem));
            }

        abbrev this : PlainRecord kind (fragment_of b) x
        this = record { bytes = b; out = out; is = refl; read = read; holds = refl }

      -- an ignored warning
      warned : record_read 0 b ≡ Ok ContentType.Alert → eqb (length (fragment_of b)) 2 ≡ true
          → heard (get_or (fragment_of b) 0 0) (get_or (fragment_of b) 1 0) ≡ Heard.Ignored → StandsPlain s v (calls ++ (x ∷ [])) bytes (call v k x).kept
      warned read two is =
          stays_plain read (quiet (one_more (plainly n p)) p.left) (rw (two, is)) bytes
          (plain-warned stands.came (ignored-warning (fragment_of b) (eqb-true _ _ two) is) (this read)) p stands.goes refl refl

      -- handshake bytes that are judged to go on
      continued : record_read 0 b ≡ Ok ContentType.Handshake → (content : List ℕ) → fragment_of b ≡ content → is_empty content ≡ false
          → (q : Progress)
          → judged v p.connection (p.left ++ content) ≡ goes_on q → StandsPlain s v (calls ++ (x ∷ [])) (bytes ++ content) (call v k x).kept
      continued read [] is some_bytes q e = absurd (true≢false some_bytes)
      continued read (d ∷ ds) is some_bytes q e =
          stays_plain read (progressed (plainly n p) q (pending_with (plainly n p).pending q.connection q.master)) (rw (is, e))
          (bytes ++ (d ∷ ds))
          (plain_more stands.came (rw is at (this read))) (onto p.flight p.master q) (goes_on_lem s v bytes n p stands.goes (d ∷ ds) q e)
          (handshake-next s v bytes n p stands.goes (d ∷ ds) q e) refl

      -- the change of cipher
      changed-now : record_read 0 b ≡ Ok ContentType.ChangeCipherSpec → same (fragment_of b) change_of_cipher ≡ true → {hello : List ℕ}
          (legal : LegalHello s.suites hello) (exchange : List ℕ) (found : Option (List ℕ)) → p ≡ keys_made s legal exchange found []
          → (call v k x).kept.connection ≡ changed (plainly n (keys_made s legal exchange found [])) (after_change (keyed s legal exchange found))
      changed-now read one legal exchange found is =
          let awaits : p.connection.phase ≡ Phase.Change = ap (λ (q : Progress). q.connection.phase) is in
          let nothing_left : is_empty p.left ≡ true = ap (λ (q : Progress). is_empty q.left) is in
          ap (λ (l : Kept). l.connection) (kept-is read (quiet (changed (plainly n p) (after_change p.connection)) p.left)
          (change-step v n p b awaits nothing_left one))
          ∙ ap (λ (q : Progress). changed (plainly n q) (after_change q.connection)) is

      -- ---- what it is, by its content

      abbrev After : Type 0
      After = AfterPlain s v (calls ++ (x ∷ [])) (call v k x).kept

      after-alert : record_read 0 b ≡ Ok ContentType.Alert → After
      after-alert read = of_length (eqb (length (fragment_of b)) 2) refl (heard (get_or (fragment_of b) 0 0) (get_or (fragment_of b) 1 0)) refl
        where
          of_length : (two : Bool) → eqb (length (fragment_of b)) 2 ≡ two → (h : Heard)
              → heard (get_or (fragment_of b) 0 0) (get_or (fragment_of b) 1 0) ≡ h → After
          of_length false e h is = closed-by read DecodeError refl (rw e)
          of_length true e Heard.Illegal is = closed-by read IllegalParameter refl (rw (e, is))
          of_length true e Heard.Ends is =
              closes (ap (λ (l : Kept). l.connection.handshake.phase) (kept-is read (quiet (closed_with no_alert) p.left) (rw (e, is))))
          of_length true e Heard.Ignored is = still bytes (warned read e is)

      after-change : record_read 0 b ≡ Ok ContentType.ChangeCipherSpec → After
      unfolding started
      after-change read = of_left (is_empty p.left) refl (same (fragment_of b) change_of_cipher) refl stage
        where
          of_left : (nothing_left : Bool) → is_empty p.left ≡ nothing_left → (one : Bool) → same (fragment_of b) change_of_cipher ≡ one
              → Reached s v bytes p
              → After
          of_left false e one is r = closed-by read UnexpectedMessage refl (rw e)
          of_left true e false is r = closed-by read DecodeError refl (rw (e, is))
          of_left true e true is (awaits-hello q) =
              closed-by read UnexpectedMessage refl
              (early-change v n p b (ap (λ (r : Progress). change_step r.connection r.connection.phase) q) e is)
          of_left true e true is (awaits-exchange hello left legal split q) =
              closed-by read UnexpectedMessage refl
              (early-change v n p b (ap (λ (r : Progress). change_step r.connection r.connection.phase) q) e is)
          of_left true e true is (awaits-change hello exchange left legal legal-exchange split good known q) =
              let found = v.lookup legal-exchange.identity in
              let nothing : left ≡ [] = ap (λ (r : Progress). r.left) (sym q) ∙ empty-is p.left e in
              let plain : Plain calls (hello ++ exchange) = rw (split, nothing, append-nil exchange) at stands.came in
              let began : ChangeCame s (calls ++ (x ∷ [])) = record {
                first = calls;
                hello = hello;
                exchange = exchange;
                plain = plain;
                legal_hello = legal;
                legal_exchange = legal-exchange;
                change = x;
                changes = record { bytes = b; out = out; is = refl; read = read; holds = same-eq (fragment_of b) change_of_cipher is };
                is = refl;
              } in
              changes began good known (changed-now read is legal exchange found (q ∙ ap (keys_made s legal exchange found) nothing))

      module _ (proper : Proper v) where
        after-handshake : record_read 0 b ≡ Ok ContentType.Handshake → After
        after-handshake read = of-content (fragment_of b) refl
          where
            of-judged : (d : ℕ) (ds : List ℕ) → fragment_of b ≡ d ∷ ds → (j : Judged) → judged v p.connection (p.left ++ (d ∷ ds)) ≡ j → After
            of-judged d ds is (Judging.refuse r) e = of-told (judged-told v (alone p.connection (p.left ++ (d ∷ ds))) r e)
              where
                of-told : Told v r → After
                of-told (inl alerts) = closed-by read r alerts (rw (is, e))
                of-told (inr bad) = absurd (not-to-host {r = r} (decided read (rw (is, e))) (proper r bad))
            of-judged d ds is (goes_on q) e = still (bytes ++ (d ∷ ds)) (continued read (d ∷ ds) is refl q e)

            of-content : (content : List ℕ) → fragment_of b ≡ content → After
            of-content [] is = closed-by read DecodeError refl (rw is)
            of-content (d ∷ ds) is = of-judged d ds is (judged v p.connection (p.left ++ (d ∷ ds))) refl

        after-record : (read : Result ContentType Refusal) → record_read 0 b ≡ read → After
        after-record (Err r) e = closes (alerted v k b out (step_is ∙ ap (plain_step v n p b) e) (read-alerts 0 b e))
        after-record (Ok ContentType.ApplicationData) e = closed-by e UnexpectedMessage refl refl
        after-record (Ok ContentType.Alert) e = after-alert e
        after-record (Ok ContentType.ChangeCipherSpec) e = after-change e
        after-record (Ok ContentType.Handshake) e = after-handshake e

  pub plain-on : Proper v → {calls : List Call} {bytes : List ℕ} (k : Kept) (x : Call) → StandsPlain s v calls bytes k
      → refused_to_host (call v k x).said ≡ false → AfterPlain s v (calls ++ (x ∷ [])) (call v k x).kept
  plain-on proper k (takes b out) stands comes = after-record k stands b out comes proper (record_read 0 b) refl
  plain-on proper k (sends content out) stands comes = absurd (none-sent k stands content out comes)

  -- ---- the other way: calls that come, as Terms.antt has them, lead there

  -- where bytes are refused at all, the host is told
  abbrev ToHost : List ℕ → Type 0
  ToHost bytes = (r : Refusal) → judged v (started s) bytes ≡ Judging.refuse r → refused_to_host (Err r) ≡ true

  fragment-comes : {calls : List Call} {bytes : List ℕ} (k : Kept) (stands : StandsPlain s v calls bytes k) {x : Call} {d : ℕ} {ds : List ℕ}
      → PlainRecord ContentType.Handshake (d ∷ ds) x → refused_to_host (call v k x).said ≡ false → (rest : List ℕ)
      → ToHost ((bytes ++ (d ∷ ds)) ++ rest) → StandsPlain s v (calls ++ (x ∷ [])) (bytes ++ (d ∷ ds)) (call v k x).kept
  fragment-comes {calls} {bytes} k stands {x} {d} {ds} r comes rest host =
      of-judged (judged v stands.progress.connection (stands.progress.left ++ (d ∷ ds))) refl
    where
      came : refused_to_host (call v k (takes r.bytes r.out)).said ≡ false
      came = rw r.is at comes

      of-judged : (j : Judged) → judged v stands.progress.connection (stands.progress.left ++ (d ∷ ds)) ≡ j
          → StandsPlain s v (calls ++ (x ∷ [])) (bytes ++ (d ∷ ds)) (call v k x).kept
      of-judged (Judging.refuse q) e =
          let refused : judged v (started s) (bytes ++ (d ∷ ds)) ≡ Judging.refuse q =
          more-judged s v bytes stands.number stands.progress stands.goes (d ∷ ds) ∙ rw e in
          absurd (not-to-host k stands r.bytes r.out came {r = q}
          (decided k stands r.bytes r.out came r.read (rw (r.holds, e)))
          (host q (cut v (from s (bytes ++ (d ∷ ds))) rest ∙ rw refused)))
      of-judged (goes_on after) e = rw r.is (continued k stands r.bytes r.out came r.read (d ∷ ds) r.holds refl after e)

  warning-comes : {calls : List Call} {bytes : List ℕ} (k : Kept) (stands : StandsPlain s v calls bytes k) {x : Call} {content : List ℕ}
      → Warning content → PlainRecord ContentType.Alert content x → refused_to_host (call v k x).said ≡ false
      → StandsPlain s v (calls ++ (x ∷ [])) bytes (call v k x).kept
  warning-comes k stands {x} {content} w r comes =
      let came : refused_to_host (call v k (takes r.bytes r.out)).said ≡ false = rw r.is at comes in
      let ignored = warning-ignored content w in
      let two : eqb (length (fragment_of r.bytes)) 2 ≡ true = rw (r.holds, ignored.0) in
      rw r.is (warned k stands r.bytes r.out came r.read two (rw r.holds ignored.1))

  -- what a run of calls leads to
  abbrev Leads : (calls : List Call) (bytes : List ℕ) (k : Kept) (xs : List Call) (more : List ℕ) → Type 0
  Leads calls bytes k xs more =
      Come v k xs → ToHost (bytes ++ more) → StandsPlain s v (calls ++ xs) (bytes ++ more) (run v k xs)

  none-run : {calls : List Call} {bytes : List ℕ} (k : Kept) → StandsPlain s v calls bytes k → Leads calls bytes k [] []
  none-run {calls} {bytes} k stands comes host = rw (append-nil calls, append-nil bytes) stands

  fragment-run : {calls : List Call} {bytes : List ℕ} (k : Kept) → StandsPlain s v calls bytes k → {x : Call} {d : ℕ} {ds : List ℕ}
      → PlainRecord ContentType.Handshake (d ∷ ds) x → (xs : List Call) (rest : List ℕ)
      → ((next : Kept) → StandsPlain s v (calls ++ (x ∷ [])) (bytes ++ (d ∷ ds)) next → Leads (calls ++ (x ∷ [])) (bytes ++ (d ∷ ds)) next xs rest)
      → Leads calls bytes k (x ∷ xs) ((d ∷ ds) ++ rest)
  fragment-run {calls} {bytes} k stands {x} {d} {ds} r xs rest on comes host =
      let to-host : ToHost ((bytes ++ (d ∷ ds)) ++ rest) = rw (append_assoc bytes (d ∷ ds) rest) host in
      rw (append_assoc calls (x ∷ []) xs, append_assoc bytes (d ∷ ds) rest)
      at (on (call v k x).kept (fragment-comes k stands r comes.0 rest to-host) comes.1 to-host)

  warning-run : {calls : List Call} {bytes : List ℕ} (k : Kept) → StandsPlain s v calls bytes k → {x : Call} {content : List ℕ}
      → Warning content → PlainRecord ContentType.Alert content x → (xs : List Call) (rest : List ℕ)
      → ((next : Kept) → StandsPlain s v (calls ++ (x ∷ [])) bytes next → Leads (calls ++ (x ∷ [])) bytes next xs rest)
      → Leads calls bytes k (x ∷ xs) rest
  warning-run {calls} k stands {x} w r xs rest on comes host =
      rw (append_assoc calls (x ∷ []) xs) at (on (call v k x).kept (warning-comes k stands w r comes.0) comes.1 host)

  plain-run : {xs : List Call} {more : List ℕ} → Plain xs more → {calls : List Call} {bytes : List ℕ} (k : Kept) → StandsPlain s v calls bytes k
      → Leads calls bytes k xs more
  plain-run none k stands = none-run k stands
  plain-run (fragment {xs = xs} {rest = rest} r plain) k stands = fragment-run k stands r xs rest (λ next on. plain-run plain next on)
  plain-run (warning {xs = xs} {rest = rest} w r plain) k stands = warning-run k stands w r xs rest (λ next on. plain-run plain next on)

  -- from the start, with the change of cipher behind, it leads to `changed_to` of that very record
  module _ (proper : Proper v) {calls : List Call} (began : ChangeCame s calls) (known : unknown (rule_of s.named) (v.lookup (named s began))
      ≡ false) where
    abbrev keyed-now : Progress
    keyed-now = keys_made s began.legal_hello began.exchange (v.lookup (named s began)) []

    -- a refusal of the table is the only one
    first-judged : (v.refusal ≡ None → judged v (started s) (began.hello ++ began.exchange) ≡ goes_on keyed-now)
        × ((r : Refusal) → v.refusal ≡ Some r → judged v (started s) (began.hello ++ began.exchange) ≡ Judging.refuse r)
    first-judged =
        let last : judged v (started s) (began.hello ++ began.exchange) ≡ judged v (started s) (began.hello ++ (began.exchange ++ [])) =
        ap (λ (l : List ℕ). judged v (started s) (began.hello ++ l)) (sym (append-nil began.exchange)) in (
          λ good. last ∙ exchange-judged s v began.legal_hello began.legal_exchange [] good known ∙ change-judged v keyed-now refl,
          λ r bad. last ∙ exchange-refused s v began.legal_hello began.legal_exchange [] r bad,
        )

    first-to-host : ToHost (began.hello ++ began.exchange)
    first-to-host r e = of-table v.refusal refl
      where
        of-table : (o : Option Refusal) → v.refusal ≡ o → refused_to_host (Err r) ≡ true
        of-table None good = absurd (refused-on (sym e ∙ first-judged.0 good))
        of-table (Some q) bad = let is : q ≡ r = cc (first-judged.1 q bad) in rw (← is) (proper q bad)

    first_goes : (p : Progress) → judged v (started s) (began.hello ++ began.exchange) ≡ goes_on p → p ≡ keyed-now
    first_goes p e = of-table v.refusal refl
      where
        of-table : (o : Option Refusal) → v.refusal ≡ o → p ≡ keyed-now
        of-table None good = cc (first-judged.0 good)
        of-table (Some q) bad = absurd (refused-on (sym (first-judged.1 q bad) ∙ e))

    pub change-run : (memory : List ℕ) → acceptable s ≡ true → Come v (begun s memory) calls
        → (run v (begun s memory) calls).connection ≡ changed_to s v began
    change-run memory ok comes =
        let both = come-append v (begun s memory) began.first (began.change ∷ []) (subst (Come v (begun s memory)) began.is comes) in
        let k : Kept = run v (begun s memory) began.first in
        let stands = plain-run began.plain (begun s memory) (begins s v memory ok) both.0 first-to-host in
        let b = began.changes.bytes in
        let out = began.changes.out in
        let came : refused_to_host (call v k (takes b out)).said ≡ false = rw began.changes.is at both.1.0 in
        let one : same (fragment_of b) change_of_cipher ≡ true = rw began.changes.holds in
        ap (λ (l : Kept). l.connection)
        (ap (run v (begun s memory)) began.is ∙ run-append v (begun s memory) began.first (began.change ∷ [])
        ∙ ap (λ (y : Call). (call v k y).kept) began.changes.is)
        ∙ changed-now k stands b out came began.changes.read one began.legal_hello began.exchange (v.lookup (named s began))
        (first_goes stands.progress stands.goes)
