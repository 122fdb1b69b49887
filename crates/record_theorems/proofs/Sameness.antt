-- The first half of demand 3 for record connections: two servers' connections are the same until a ClientKeyExchange names an identity that their
-- tables differ in, and from there differ only in what a record with a right MAC would show.
-- Assumes nothing.
use mathlib.Core.Path.{◌≡◌, refl, sym, ap, ap₂, subst, ◌∙◌}
use mathlib.Core.Logic.{◌⊎◌, inl, inr}
use Prim.Native.Nat.{ℕ}
use mathlib.Core.Bool.{Bool, true, false, cond, not, true≢false}
use mathlib.Core.List.{List, [], ◌∷◌, ◌++◌, append_assoc}
use lib.Dec.{eqb}
use Rattle.std.proofs.lemmas.Option.{none-some}
use Rattle.std.specs.Prelude.{Result, Ok, Err, Option, None, Some}
use Rattle.refusal.specs.declared.Refusal.{Refusal}
use Rattle.lists.specs.Lists.{same}
use Rattle.lists.proofs.Equal.{same-eq, same_refl}
use Rattle.refusal.specs.declared.Refusal.TheVariants.{SequenceSpent}
use Rattle.keytable.specs.Table.{key_of}
use Rattle.keytable.proofs.Laws.{removed-gone, removed-else}
use Rattle.handshake.specs.Flight.{Flight}
use Rattle.server.specs.declared.Rule.{Rule}
use Rattle.handshake.specs.declared.Answer.{Answer}
use Rattle.server.specs.declared.Phase.{Phase}
use Rattle.server.specs.declared.Connection.{Connection}
use Rattle.server.specs.Connection.{Settings, rule_of, started}
use Rattle.server.specs.KeyExchange.{View, view_of}
use Rattle.records.specs.declared.ContentType.{ContentType}
use Rattle.records.specs.declared.State.{State}
use Rattle.records.specs.Record.{fragment_of, record_read}
use Rattle.records.specs.Protection.{last_sequence}
use Rattle.record_server.specs.declared.RecordConnection.{RecordConnection}
use Rattle.record_server.specs.Connection.{around, no_alert}
use Rattle.record_server.specs.Answering.{flight_records}
use Rattle.record_server.specs.Joining.{Progress, Judged, goes_on, is_empty, judged}
use Rattle.record_server.specs.Taking.{Accepted, Step, refuse, accept, front, take_step, progressed, pending_with, handshake_step}
use Rattle.record_server.specs.Taking.{content_test, after_test}
use Rattle.theorems.specs.Agreeing.{AgreeOutside}
use Rattle.theorems.proofs.Sameness.{hides, alike-start}
use Rattle.theorems.proofs.Stages.{unknown}
use Rattle.record_theorems.specs.Series.{Call, takes, sends, Kept, Done, Seen, call, run, seen, answers, refused_to_host, came}
use Rattle.record_theorems.specs.Terms.{named}
use Rattle.record_theorems.specs.Demand3.{begun, JudgedRight, NoneJudgedRight, SamenessOfLookups, Sameness}
use Rattle.record_theorems.proofs.Coming.{run-append}
use Rattle.record_theorems.proofs.Series.{came-append}
use Rattle.record_theorems.proofs.Taking.{took, accepted}
use Rattle.record_theorems.proofs.Reaching.{keys_made, Reached, awaits-hello, awaits-exchange, awaits-change, exchange-judged}
use Rattle.record_theorems.proofs.Reaching.{change-waits, reached}
use Rattle.record_theorems.proofs.Standing.{plainly, StandsPlain, AfterPlain, still, changes, closes, Proper, plain-once, plain_step, step_of}
use Rattle.record_theorems.proofs.Standing.{none-protected, reached-going, begins}
use Rattle.record_theorems.proofs.Onward.{plain-on}
use Rattle.record_theorems.proofs.Beyond.{Beyond, beyond-same}
use Rattle.record_theorems.proofs.Parting.{Pair, equal, parted, reached-pair}
use Rattle.record_theorems.proofs.Seeing.{near-self, accepted-seen}
use Rattle.record_theorems.proofs.Together.{Together, same-plain, same-beyond, changing, finishing, Goes, goes}
use Rattle.record_theorems.proofs.Differing.{changing-on, Unjudged, finishing-on}

-- not the phase in which the change of cipher is awaited
abbrev Apart : Phase → Type 0
Apart Phase.Hello = Unit
Apart Phase.KeyExchange = Unit
Apart Phase.Change = ⊥
Apart Phase.Finished = Unit
Apart Phase.Complete = Unit
Apart Phase.Closed = Unit

-- without messages behind a change of cipher no key is used
unprotected : (state : State) (key key' : List ℕ) (f : Flight) → f.protected ≡ [] → flight_records state key f ≡ flight_records state key' f
unprotected state key key' f e = rw e

module _ (s : Settings) (hide : rule_of s.named ≡ Rule.Hide) (Set : List ℕ → Type 0) (v v' : View)
    (good : v.refusal ≡ None) (good' : v'.refusal ≡ None) (agree : AgreeOutside Set v v') where
  -- ---- on the same connection

  proper : Proper v
  proper r bad = absurd (none-some r (sym good ∙ bad))

  proper' : Proper v'
  proper' r bad = absurd (none-some r (sym good' ∙ bad))

  beyond-on : (calls : List Call) (x : Call) (k : Kept) → Beyond k.connection.handshake.phase → Goes s Set v v' calls x k k
  beyond-on calls x k past =
      let both = beyond-same v v' k x past in
      goes s Set v v' calls x {k = k} {k' = k} (ap seen both.0) (same-beyond past refl) (λ comes. same-beyond both.1 (ap (λ (d : Done). d.kept) both.0))

  module _ (calls : List Call) (bytes : List ℕ) (k : Kept) (stands : StandsPlain s v calls bytes k) (stands' : StandsPlain s v' calls bytes k) where
    plain-same : (x : Call) → call v k x ≡ call v' k x → Goes s Set v v' calls x k k
    plain-same x e =
        goes s Set v v' calls x (ap seen e) (same-plain bytes stands stands' refl)
        (λ comes. after (plain-on s v proper k x stands comes)
        (plain-on s v' proper' k x stands' (ap (λ (d : Done). refused_to_host d.said) (sym e) ∙ comes)))
      where
        kept : (call v k x).kept ≡ (call v' k x).kept
        kept = ap (λ (d : Done). d.kept) e

        after : AfterPlain s v (calls ++ (x ∷ [])) (call v k x).kept → AfterPlain s v' (calls ++ (x ∷ [])) (call v' k x).kept
            → Together s v v' Set (calls ++ (x ∷ [])) (call v k x).kept (call v' k x).kept
        after (changes began ok known is) other = same-beyond (rw is tt) kept
        after (closes is) other = same-beyond (rw is tt) kept
        after (still all on) (changes began ok known is) = same-beyond (rw (kept, is) tt) kept
        after (still all on) (closes is) = same-beyond (rw (kept, is) tt) kept
        after (still all on) (still all' on') =
            same-plain all on (rw (← plain-once on.came on'.came, ← kept) at on') kept

  -- ---- where they part

  known : (identity : List ℕ) (w : View) → unknown (rule_of s.named) (w.lookup identity) ≡ false
  known identity w = rw hide

  after-parted : (calls : List Call) (k k' : Kept) → AfterPlain s v calls k → AfterPlain s v' calls k'
      → k.connection.handshake.phase ≡ Phase.Change
      → k'.connection.handshake.phase ≡ Phase.Change → k.connection.reading ≡ k'.connection.reading → k.memory ≡ k'.memory
      → Together s v v' Set calls k k'
  unfolding started
  after-parted calls k k' after after' awaits awaits' reading memory = go after after'
    where
      of-stage : (all : List ℕ) (on : StandsPlain s v calls all k) (on' : StandsPlain s v' calls all k') → Reached s v all on.progress
          → Together s v v' Set calls k k'
      of-stage all on on' (awaits-hello is) =
          absurd (subst Apart (sym (ap (λ (p : Progress). p.connection.phase) is)
          ∙ sym (ap (λ (c : RecordConnection). c.handshake.phase) on.is) ∙ awaits) tt)
      of-stage all on on' (awaits-exchange hello left legal split is) =
          absurd (subst Apart (sym (ap (λ (p : Progress). p.connection.phase) is)
          ∙ sym (ap (λ (c : RecordConnection). c.handshake.phase) on.is) ∙ awaits) tt)
      of-stage all on on' (awaits-change hello exchange left legal legal-exchange split fine told is) = of-identity (agree legal-exchange.identity)
        where
          keys_by : View → Progress
          keys_by w = keys_made s legal exchange (w.lookup legal-exchange.identity) left

          is' : on'.progress ≡ keys_by v'
          is' =
              change-waits v' (keys_by v') on'.progress refl
              (sym (exchange-judged s v' legal legal-exchange left good' (known legal-exchange.identity v'))
              ∙ ap (judged v' (started s)) (sym split)
              ∙ on'.goes)

          numbers : on.number ≡ on'.number
          numbers =
              sym (ap (λ (c : RecordConnection). c.reading.sequence) on.is) ∙ ap (λ (state : State). state.sequence) reading
              ∙ ap (λ (c : RecordConnection). c.reading.sequence) on'.is

          first : k.connection ≡ plainly on.number (keys_by v)
          first = on.is ∙ ap (plainly on.number) is

          second : k'.connection ≡ plainly on.number (keys_by v')
          second = on'.is ∙ ap₂ plainly (sym numbers) is'

          of-identity : (v.lookup legal-exchange.identity ≡ v'.lookup legal-exchange.identity) ⊎ Set legal-exchange.identity
              → Together s v v' Set calls k k'
          of-identity (inl alike) =
              let connection : k.connection ≡ k'.connection =
              first ∙ ap (λ (found : Option (List ℕ)). plainly on.number (keys_made s legal exchange found left)) alike ∙ sym second in
              same-beyond (subst Beyond (sym awaits) tt)
              (ap₂ (λ (c : RecordConnection) (l : List ℕ). record { connection = c; memory = l }) connection memory)
          of-identity (inr set) =
              changing (record {
                hello = hello;
                exchange = exchange;
                left = left;
                legal = legal;
                legal-exchange = legal-exchange;
                set = set;
                came = rw split at on.came;
                number = on.number;
                is = first;
                is' = second;
                memory = memory;
                holds = rw (ap (λ (p : Progress). p.left) is) at on.holds;
              })

      go : AfterPlain s v calls k → AfterPlain s v' calls k' → Together s v v' Set calls k k'
      go (changes began fine told is) other = absurd (subst Apart (sym (ap (λ (c : RecordConnection). c.handshake.phase) is) ∙ awaits) tt)
      go (closes is) other = absurd (subst Apart (sym is ∙ awaits) tt)
      go (still all on) (changes began fine told is) = absurd (subst Apart (sym (ap (λ (c : RecordConnection). c.handshake.phase) is) ∙ awaits') tt)
      go (still all on) (closes is) = absurd (subst Apart (sym is ∙ awaits') tt)
      go (still all on) (still all' on') =
          of-stage all on (rw (← plain-once on.came on'.came) at on') (reached s v all on.progress on.goes)

  module _ (calls : List Call) (bytes : List ℕ) (k : Kept) (stands : StandsPlain s v calls bytes k) (stands' : StandsPlain s v' calls bytes k)
      (b out : List ℕ) where
    abbrev p : Progress
    p = stands.progress

    abbrev n : ℕ
    n = stands.number

    abbrev x : Call
    x = takes b out

    stage : Reached s v bytes p
    stage = reached s v bytes p stands.goes

    plain-step-at : (w : View) (read : Result ContentType Refusal) → record_read 0 b ≡ read → (last : Bool) → eqb n last_sequence ≡ last
        → take_step w k.connection k.memory b ≡ cond last (refuse SequenceSpent) (plain_step w n p b read)
    plain-step-at w = step_of w k n p stands.is (reached-going s v stage).0 (reached-going s v stage).1 stands.holds b

    -- most records are taken alike
    alike-on : (read : Result ContentType Refusal) → record_read 0 b ≡ read → plain_step v n p b read ≡ plain_step v' n p b read → Goes s Set v v' calls x k k
    alike-on read is e =
        plain-same calls bytes k stands stands' x
        (ap (took k out) (plain-step-at v read is (eqb n last_sequence) refl ∙ ap (λ (t : Step). cond (eqb n last_sequence) (refuse SequenceSpent) t) e
        ∙ sym (plain-step-at v' read is (eqb n last_sequence) refl)))

    module _ (read : record_read 0 b ≡ Ok ContentType.Handshake) where
      handshake-alike : (j j' : Judged) → judged v p.connection (p.left ++ fragment_of b) ≡ j
          → judged v' p.connection (p.left ++ fragment_of b) ≡ j' → j ≡ j'
          → Goes s Set v v' calls x k k
      handshake-alike j j' e e' same-judged =
          alike-on (Ok ContentType.Handshake) read
          (ap (λ (i : Judged). after_test (content_test ContentType.Handshake false (not (is_empty p.left)) (fragment_of b))
          (handshake_step (plainly n p) i))
          (e ∙ same-judged ∙ sym e'))

      module _ (q q' : Progress) (e : judged v p.connection (p.left ++ fragment_of b) ≡ goes_on q)
          (e' : judged v' p.connection (p.left ++ fragment_of b) ≡ goes_on q') (awaits : q.connection.phase ≡ Phase.Change)
          (awaits' : q'.connection.phase ≡ Phase.Change) (flight : q.flight ≡ q'.flight) (left : q.left ≡ q'.left) where
        abbrev progress_by : Progress → Accepted
        progress_by r = progressed (plainly n p) r (pending_with (plainly n p).pending r.connection r.master)

        parted-on : eqb n last_sequence ≡ false → is_empty (fragment_of b) ≡ false → Goes s Set v v' calls x k k
        parted-on not_last some_bytes =
            goes s Set v v' calls x alike (same-plain bytes stands stands' refl)
            (λ comes.
            let comes' : refused_to_host (call v' k x).said ≡ false = ap (λ (l : Seen). refused_to_host l.said) (sym alike) ∙ comes in
            let kept = accepted v k b out (step v q e) comes in
            let kept' = accepted v' k b out (step v' q' e') comes' in
            after-parted (calls ++ (x ∷ [])) (call v k x).kept (call v' k x).kept (plain-on s v proper k x stands comes)
            (plain-on s v' proper' k x stands' comes')
            (ap (λ (l : Kept). l.connection.handshake.phase) kept ∙ awaits) (ap (λ (l : Kept). l.connection.handshake.phase) kept' ∙ awaits')
            (ap (λ (l : Kept). l.connection.reading) kept ∙ sym (ap (λ (l : Kept). l.connection.reading) kept'))
            (ap (λ (l : Kept). l.memory) kept ∙ ap (λ (l : List ℕ). front l k.memory) left ∙ sym (ap (λ (l : Kept). l.memory) kept')))
          where
            step : (w : View) (r : Progress) → judged w p.connection (p.left ++ fragment_of b) ≡ goes_on r
                → take_step w k.connection k.memory b ≡ accept (progress_by r)
            step w r is = plain-step-at w (Ok ContentType.Handshake) read false not_last ∙ rw (some_bytes, is)

            answers-alike : (progress_by q).answer ≡ (progress_by q').answer
            answers-alike =
                unprotected (plainly n p).writing _ _ q.flight (none-protected s v bytes n p stands.goes (fragment_of b) q e)
                ∙ ap (flight_records (plainly n p).writing (pending_with (plainly n p).pending q'.connection q'.master).server) flight

            alike : seen (call v k x) ≡ seen (call v' k x)
            alike =
                ap (λ (t : Step). seen (took k out t)) (step v q e)
                ∙ accepted-seen (near-self k) out (progress_by q) (progress_by q') answers-alike left refl
                ∙ sym (ap (λ (t : Step). seen (took k out t)) (step v' q' e'))

      handshake-on : Pair (judged v p.connection (p.left ++ fragment_of b)) (judged v' p.connection (p.left ++ fragment_of b))
          → Goes s Set v v' calls x k k
      handshake-on (equal e) = handshake-alike _ _ refl refl e
      handshake-on (parted q q' e e' awaits awaits' flight left) = of-tests (eqb n last_sequence) refl (is_empty (fragment_of b)) refl
        where
          of-tests : (last : Bool) → eqb n last_sequence ≡ last → (empty : Bool) → is_empty (fragment_of b) ≡ empty → Goes s Set v v' calls x k k
          of-tests true spent empty is =
              plain-same calls bytes k stands stands' x
              (ap (took k out) (plain-step-at v (Ok ContentType.Handshake) read true spent
              ∙ sym (plain-step-at v' (Ok ContentType.Handshake) read true spent)))
          of-tests false not_last true is = alike-on (Ok ContentType.Handshake) read (rw is)
          of-tests false not_last false is = parted-on q q' e e' awaits awaits' flight left not_last is

    takes-on : (read : Result ContentType Refusal) → record_read 0 b ≡ read → Goes s Set v v' calls x k k
    takes-on (Err r) is = alike-on (Err r) is refl
    takes-on (Ok ContentType.ApplicationData) is = alike-on (Ok ContentType.ApplicationData) is refl
    takes-on (Ok ContentType.Alert) is = alike-on (Ok ContentType.Alert) is refl
    takes-on (Ok ContentType.ChangeCipherSpec) is = alike-on (Ok ContentType.ChangeCipherSpec) is refl
    takes-on (Ok ContentType.Handshake) is = handshake-on is (reached-pair s hide v v' good good' stage (p.left ++ fragment_of b))

  plain-on-both : (calls : List Call) (bytes : List ℕ) (k : Kept) → StandsPlain s v calls bytes k → StandsPlain s v' calls bytes k → (x : Call)
      → Goes s Set v v' calls x k k
  plain-on-both calls bytes k stands stands' (takes b out) = takes-on calls bytes k stands stands' b out (record_read 0 b) refl
  plain-on-both calls bytes k stands stands' (sends content out) = plain-same calls bytes k stands stands' (sends content out) refl

  -- ---- the whole series

  together-on : (calls : List Call) (x : Call) {k k' : Kept} → Together s v v' Set calls k k' → Unjudged s Set v v' v calls x
      → Unjudged s Set v v' v' calls x
      → Goes s Set v v' calls x k k'
  together-on calls x {k} {k'} (same-plain bytes stands stands' is) never never' =
      subst (λ (l : Kept). Goes s Set v v' calls x k l) is (plain-on-both calls bytes k stands stands' x)
  together-on calls x {k} {k'} (same-beyond past is) never never' = subst (λ (l : Kept). Goes s Set v v' calls x k l) is (beyond-on calls x k past)
  together-on calls x {k} {k'} (changing c) never never' = changing-on s Set v v' calls k k' c x
  together-on calls x {k} {k'} (finishing began set is is' memory) never never' =
      finishing-on s Set v v' calls k k' began set is is' memory x never never'

  module _ (memory : List ℕ) where
    abbrev start : Kept
    start = begun s memory

    unjudged : (w : View) (before : List Call) (x : Call) → ((identity : List ℕ) → Set identity → ¬ JudgedRight s w memory identity before x)
        → Unjudged s Set v v' w (came w start before) x
    unjudged w before x never began set key listed b out is kind tested right =
        never (named s began) set
        (record {
          awaits = began;
          names = refl;
          key = key;
          listed = listed;
          bytes = b;
          out = out;
          is = is;
          kind = kind;
          tested = tested;
          right = right;
        })

    grown : (w : View) (before : List Call) (x : Call) (k : Kept) → run w start before ≡ k
        → came w start (before ++ (x ∷ [])) ≡ came w start before ++ cond (refused_to_host (call w k x).said) [] (x ∷ [])
    grown w before x k e =
        came-append w start before (x ∷ [])
        ∙ ap (λ (l : Kept). came w start before ++ cond (refused_to_host (call w l x).said) [] (x ∷ [])) e

    abbrev NoneOf : List Call → Type 0
    NoneOf calls = (identity : List ℕ) → Set identity → NoneJudgedRight s v memory identity calls × NoneJudgedRight s v' memory identity calls

    answers_agree : (xs before : List Call) (k k' : Kept) → run v start before ≡ k → run v' start before ≡ k'
        → came v' start before ≡ came v start before → Together s v v' Set (came v start before) k k' → NoneOf (before ++ xs)
        → answers v k xs ≡ answers v' k' xs
    answers_agree [] before k k' e e' same-came together never = refl
    answers_agree (x ∷ xs) before k k' e e' same-came together never =
        let here = unjudged v before x (λ i set. (never i set).0 before x xs refl) in
        let there : Unjudged s Set v v' v' (came v start before) x =
        subst (λ (l : List Call). Unjudged s Set v v' v' l x) same-came (unjudged v' before x (λ i set. (never i set).1 before x xs refl)) in
        let both = together-on (came v start before) x together here there in
        ap₂ (λ (a : Seen) (l : List Seen). a ∷ l) both.0
        (answers_agree xs (before ++ (x ∷ [])) (call v k x).kept (call v' k' x).kept
        (run-append v start before (x ∷ []) ∙ ap (λ (l : Kept). (call v l x).kept) e)
        (run-append v' start before (x ∷ []) ∙ ap (λ (l : Kept). (call v' l x).kept) e')
        (grown v' before x k' e'
        ∙ ap₂ (λ (l : List Call) (a : Seen). l ++ cond (refused_to_host a.said) [] (x ∷ [])) same-came (sym both.0)
        ∙ sym (grown v before x k e))
        (subst (λ (l : List Call). Together s v v' Set l (call v k x).kept (call v' k' x).kept) (sym (grown v before x k e)) both.1)
        (rw (append_assoc before (x ∷ []) xs) never))

-- ---- from the start on

pub sameness-of-lookups : SamenessOfLookups
sameness-of-lookups s s' alike ok hide hide' Set v v' good good' agree memory calls never =
    answers_agree s (hides s.named hide) Set v v' good good' agree memory calls [] (begun s memory) (begun s memory) refl refl refl
    (same-plain [] (begins s v memory ok.acceptable) (begins s v' memory ok.acceptable) refl) never
    ∙ ap (λ (a : Answer Connection). answers v' (record { connection = around a.next no_alert; memory = memory }) calls) (alike-start s s' alike hide hide')

-- ---- the second table is the first one without a line

pub sameness : Sameness
sameness s s' alike ok hide hide' identity table without removed good good' starts starts' count count' own own' memory calls never =
    sameness-of-lookups s s' alike ok hide hide' (λ i. i ≡ identity) (view_of table starts count) (view_of without starts' count')
    (rw (good, own)) (rw (good', own')) agree memory calls never-judged
  where
    agree : AgreeOutside (λ i. i ≡ identity) (view_of table starts count) (view_of without starts' count')
    agree i = go (same i identity) refl
      where
        go : (b : Bool) → same i identity ≡ b → (key_of table i ≡ key_of without i) ⊎ (i ≡ identity)
        go true e = inr (same-eq i identity e)
        go false e = inl (removed-else identity table without removed good i (λ is. true≢false (sym (rw is (same_refl identity)) ∙ e)))

    -- the second table has no key for it
    unlisted : (i : List ℕ) → i ≡ identity → (before : List Call) (x : Call) → ¬ JudgedRight s (view_of without starts' count') memory i before x
    unlisted i is before x judged =
        let gone : key_of without identity ≡ None = removed-gone identity table without removed good in
        let found : key_of without identity ≡ Some judged.key = rw (← is) judged.listed in
        none-some judged.key (sym gone ∙ found)

    never-judged : (i : List ℕ) → i ≡ identity
        → NoneJudgedRight s (view_of table starts count) memory i calls × NoneJudgedRight s (view_of without starts' count') memory i calls
    never-judged i is = (rw is never, λ before x after split. unlisted i is before x)
