-- Demand 3, second half: a record connection completes exactly where the right records came in order. One way, a series at which it is complete
-- stands at `complete` (Progress.antt); the other way, each record of those that came right takes the connection on.
-- Assumes nothing.
use mathlib.Core.Path.{◌≡◌, refl, sym, ap, subst, ◌∙◌}
use mathlib.Core.Logic.{◌↔◌}
use Prim.Native.Nat.{ℕ, ◌+◌}
use mathlib.Core.Bool.{Bool, true, false, cond, false≢true}
use mathlib.Core.List.{List, [], ◌∷◌, ◌++◌, append-nil, append_assoc}
use lib.ListN.{length}
use Rattle.std.proofs.lemmas.Option.{none-some}
use Rattle.std.specs.Prelude.{Err, Option, None, Some}
use Rattle.refusal.specs.declared.Refusal.TheVariants.{BadTable, BadList}
use Rattle.keytable.specs.Table.{well_formed}
use Rattle.keytable.specs.Starts.{is_list}
use Rattle.server.specs.declared.Rule.{Rule}
use Rattle.server.specs.declared.Phase.{Phase}
use Rattle.server.specs.declared.Connection.{Connection}
use Rattle.server.specs.Connection.{Settings, rule_of, acceptable, ended}
use Rattle.server.specs.KeyExchange.{View, view_of}
use Rattle.records.specs.declared.ContentType.{ContentType}
use Rattle.record_server.specs.declared.RecordConnection.{RecordConnection}
use Rattle.record_server.specs.Connection.{is_complete}
use Rattle.record_server.specs.Joining as Judging
use Rattle.record_server.specs.Joining.{Progress, goes_on, judged}
use Rattle.theorems.proofs.Stages.{unknown}
use Rattle.record_theorems.specs.Series.{Call, Kept, call, run, refused_to_host, came}
use Rattle.record_theorems.specs.Terms.{SealedRecord, Warning, Sealed, ChangeCame, named}
use Rattle.record_theorems.specs.Terms as Terms
use Rattle.record_theorems.specs.Demand3.{begun, CameRight, Completes, CompletesExactly}
use Rattle.record_theorems.proofs.Coming.{Come, came-come, run-came, come-append}
use Rattle.record_theorems.proofs.Cutting.{refused-on, cut}
use Rattle.record_theorems.proofs.Reaching.{reached}
use Rattle.record_theorems.proofs.Standing.{Proper, reached-going, begins, changed_to}
use Rattle.record_theorems.proofs.Onward.{change-run}
use Rattle.record_theorems.proofs.Finishing.{waiting, Finishing, waits, completes, refused, finishing, right-completes}
use Rattle.record_theorems.proofs.Under.{mac_key, protected_at, At, under-begins, warned, waits-on, completes-on}
use Rattle.record_theorems.proofs.Series.{came-append, completes-behind, completes-before, completes-came}
use Rattle.record_theorems.proofs.Progress.{Stands, plain, protected, complete, closed, right-behind, reads, run-stands}

module _ (s : Settings) (v : View) (ok : acceptable s ≡ true) (proper : Proper v) where
  -- ---- a series that completes came right

  complete-came-right : {calls : List Call} {k : Kept} → Stands s v calls k
      → is_complete k.connection.handshake.phase ≡ true → CameRight s v calls
  complete-came-right (plain bytes stands) e =
      let going = (reached-going s v (reached s v bytes stands.progress stands.goes)).1 in
      absurd (false≢true (sym going ∙ (rw stands.is at e)))
  complete-came-right (protected good first began sealed split stands) e = absurd (false≢true (rw stands.at.is at e))
  complete-came-right (complete right) e = right
  complete-came-right (closed is) e = absurd (false≢true (rw is at e))

  -- ---- a series that came right completes

  module _ {first : List Call} (began : ChangeCame s first) (key : List ℕ) (listed : v.lookup (named s began) ≡ Some key) where
    abbrev c : Connection
    c = (changed_to s v began).handshake

    -- records under the client's protection whose bytes, behind those that wait, are judged to complete
    abbrev Runs : ℕ → List Call → List ℕ → Type 0
    Runs n xs rest =
        (bytes : List ℕ) (k : Kept) → At s v began n bytes k → Come v k xs → (q : Progress) → q.connection ≡ ended Phase.Complete
        → judged v c (bytes ++ rest) ≡ goes_on q → Completes v k xs

    -- of what is kept, its connection written out
    at-is : {n : ℕ} {bytes : List ℕ} {k : Kept} → At s v began n bytes k → (P : Kept → Type 0)
        → P (record { connection = protected_at s v began n (length bytes); memory = k.memory }) → P k
    at-is {k} at P now = subst (λ (l : RecordConnection). P (record { connection = l; memory = k.memory })) (sym at.is) now

    one-before : (k : Kept) (x : Call) (xs : List Call) → Completes v (call v k x).kept xs → Completes v k (x ∷ xs)
    one-before k x xs = completes-behind v k (x ∷ []) xs

    run_none : {n : ℕ} → Runs n [] []
    run_none bytes k at all q over e =
        let f : judged v c bytes ≡ goes_on q = rw (append-nil bytes) at e in
        let same : waiting c bytes ≡ q = cc in
        absurd (false≢true (ap (λ (p : Progress). is_complete p.connection.phase) same ∙ ap (λ (d : Connection). is_complete d.phase) over))

    run-warning : {n : ℕ} {x : Call} {xs : List Call} {content : List ℕ} (rest : List ℕ) → Warning content
        → SealedRecord (mac_key s v began) n ContentType.Alert content x → Runs (n + 1) xs rest → Runs n (x ∷ xs) rest
    run-warning {n} {x} {xs} rest ignored sealed others bytes k at all q over e =
        one-before k x xs (others bytes (call v k x).kept next all.1 q over e)
      where
        next : At s v began (n + 1) bytes (call v k x).kept
        next =
            at-is at (λ l. At s v began n bytes l → refused_to_host (call v l x).said ≡ false → At s v began (n + 1) bytes (call v l x).kept)
            (λ now comes. warned s v began n bytes k.memory now key listed comes sealed ignored) at all.0

    run-fragment : {n : ℕ} {x : Call} {xs : List Call} {d : ℕ} {ds : List ℕ} (rest : List ℕ)
        → SealedRecord (mac_key s v began) n ContentType.Handshake (d ∷ ds) x → Runs (n + 1) xs rest → Runs n (x ∷ xs) ((d ∷ ds) ++ rest)
    run-fragment {n} {x} {xs} {d} {ds} rest sealed others bytes k at all q over e =
        go (finishing s v ok began.legal_hello began.legal_exchange (v.lookup (named s began)) more)
      where
        more : List ℕ
        more = bytes ++ (d ∷ ds)

        joined : judged v c (more ++ rest) ≡ goes_on q
        joined = rw (append_assoc bytes (d ∷ ds) rest) e

        go : Finishing s v began.legal_hello began.exchange (v.lookup (named s began)) more → Completes v k (x ∷ xs)
        go (waits short f) =
            let next : At s v began (n + 1) more (call v k x).kept =
            at-is at (λ l. At s v began n bytes l → refused_to_host (call v l x).said ≡ false → At s v began (n + 1) more (call v l x).kept)
            (λ now comes. waits-on s v began n bytes k.memory now key listed comes sealed short f) at all.0 in
            one-before k x xs (others more (call v k x).kept next all.1 q over joined)
        go (completes right p done f) =
            let now : (call v k x).kept.connection.handshake.phase ≡ Phase.Complete =
            at-is at (λ l. At s v began n bytes l → refused_to_host (call v l x).said ≡ false
            → (call v l x).kept.connection.handshake.phase ≡ Phase.Complete)
            (λ now comes. completes-on s v began n bytes k.memory now key listed comes sealed done f) at all.0 in
            record { before = x ∷ []; after = xs; is = refl; complete = now }
        go (refused r told f) =
            let e : judged v c (more ++ rest) ≡ Judging.refuse r = cut v (waiting c more) rest ∙ rw f in
            absurd (refused-on (sym e ∙ joined))

    sealed-run : {n : ℕ} {xs : List Call} {rest : List ℕ} → Sealed (mac_key s v began) n xs rest → Runs n xs rest
    sealed-run Terms.none = run_none
    sealed-run (Terms.fragment {rest = rest} sealed others) = run-fragment rest sealed (sealed-run others)
    sealed-run (Terms.warning {rest = rest} ignored sealed others) = run-warning rest ignored sealed (sealed-run others)

  listed-known : (rule : Rule) {found : Option (List ℕ)} {key : List ℕ} → found ≡ Some key → unknown rule found ≡ false
  listed-known Rule.Tell e = rw e
  listed-known Rule.Hide e = refl

  came-right-completes : (memory : List ℕ) (calls : List Call)
      → Come v (begun s memory) calls → CameRight s v calls → Completes v (begun s memory) calls
  came-right-completes memory calls all right =
      rw right.is (completes-behind v k right.first (right.sealed ++ right.rest)
      (completes-before v (run v k right.first) right.sealed right.rest
      (sealed-run began right.key right.listed protected-by [] (run v k right.first)
      (under-begins s v began (run v k right.first) changed)
      (come-append v (run v k right.first) right.sealed right.rest parts.1).0 done.0 done.1 done.2)))
    where
      k : Kept
      k = begun s memory

      began : ChangeCame s right.first
      began = right.began

      protected-by : Sealed (mac_key s v began) 0 right.sealed right.finished
      protected-by = rw (reads s v began right.key right.mac_key right.listed right.under-key) right.protected

      parts : Come v k right.first × Come v (run v k right.first) (right.sealed ++ right.rest)
      parts = come-append v k right.first (right.sealed ++ right.rest) (rw right.is at all)

      changed : (run v k right.first).connection ≡ changed_to s v began
      changed =
          change-run s v proper began (listed-known (rule_of s.named) right.listed) memory ok parts.0

      done : (p : Progress) × (p.connection ≡ ended Phase.Complete) × (judged v (changed_to s v began).handshake right.finished ≡ goes_on p)
      done =
          right-completes s v ok began.legal_hello began.legal_exchange (v.lookup (named s began)) right.finished
          (record { finished = right.legal; key = right.key; listed = right.listed; right = right.right })

  -- both, for a table of which only its view is known
  exactly : (memory : List ℕ) (calls : List Call) → Completes v (begun s memory) calls ↔ CameRight s v (came v (begun s memory) calls)
  exactly memory calls = (
    λ c.
        let k = begun s memory in
        let stands = run-stands s v ok proper [] k (came v k c.before) (plain [] (begins s v memory ok)) (came-come v k c.before) in
        let over : is_complete (run v k (came v k c.before)).connection.handshake.phase ≡ true = rw (run-came v k c.before, c.complete) in
        rw (c.is, came-append v k c.before c.after) (right-behind s v (came v k c.before) _ (complete-came-right stands over)),
    λ right. completes-came v (begun s memory) calls
        (came-right-completes memory (came v (begun s memory) calls) (came-come v (begun s memory) calls) right),
  )

-- a table that is not well formed and a list that is not its own are refused to the host, R2 and R10
table-proper : (table starts : List ℕ) (count : ℕ) → Proper (view_of table starts count)
table-proper table starts count r e = go (well_formed table) (is_list table starts count) e
  where
    go : (formed own : Bool) → cond formed (cond own None (Some BadList)) (Some BadTable) ≡ Some r → refused_to_host (Err r) ≡ true
    go true true e = absurd (none-some r e)
    go true false e = let is : BadList ≡ r = cc in rw (← is)
    go false own e = let is : BadTable ≡ r = cc in rw (← is)

pub completes-exactly : CompletesExactly
completes-exactly s ok memory table starts count calls =
    exactly s (view_of table starts count) ok.acceptable (table-proper table starts count) memory calls
