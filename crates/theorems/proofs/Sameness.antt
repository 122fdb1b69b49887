-- The first half of demand 3: the two servers' connections are the same until a ClientKeyExchange names an identity that their tables differ in, and
-- from there differ only in what a right Finished would show.
-- Assumes nothing.
use mathlib.Core.Path.{◌≡◌, refl, sym, ap, ap₂, ◌∙◌}
use mathlib.Core.Logic.{◌⊎◌, inl, inr}
use Prim.Native.Nat.{ℕ}
use native.Mathlib.Omega.{arith}
use mathlib.Core.Bool.{Bool, true, false, true≢false}
use mathlib.Core.List.{List, [], ◌∷◌, ◌++◌, append_assoc, append-nil}
use Rattle.std.proofs.lemmas.Option.{none-some}
use Rattle.std.specs.Prelude.{Option, None, Some}
use Rattle.messages.specs.KeyExchange.{read_vector}
use Rattle.lists.specs.Lists.{same, Each}
use Rattle.keytable.specs.Table.{key_of}
use Rattle.lists.proofs.Equal.{same-eq, same_refl}
use Rattle.keytable.proofs.Laws.{removed-gone, removed-else}
use Rattle.lists.proofs.Every.{every_append, every_map}
use Rattle.handshake.specs.declared.Heard.{Heard}
use Rattle.handshake.specs.Alert.{heard, heard_step}
use Rattle.handshake.specs.Flight.{silence}
use Rattle.handshake.specs.Series.{Call, message, change_of_cipher, alert, IgnoredWarning}
use Rattle.handshake.specs.Step.{refuse, accept, outcome}
use Rattle.server.specs.declared.Rule.{Rule}
use Rattle.server.specs.declared.Phase.{Phase}
use Rattle.server.specs.declared.Connection.{Connection}
use Rattle.server.specs.Connection.{Settings, rule_of, acceptable, started, start_answer, ended}
use Rattle.server.specs.KeyExchange.{View, view_of, key_found}
use Rattle.server.specs.Step.{Step, Settled, settled}
use Rattle.server.specs.Connection.{is_over}
use Rattle.server.specs.Message.{message_step}
use Rattle.server.specs.Alert.{alert_step, alert_call}
use Rattle.theorems.specs.Series.{call, Seen, seen, answers}
use Rattle.theorems.specs.Terms.{LegalKeyExchange, Aside, BadTableCall, HelloCame, KeyExchangeCame, ChangeCame, named, ShortFinished}
use Rattle.theorems.specs.Demand3.{Hiding, Alike, JudgedRight, Sameness}
use Rattle.theorems.specs.Agreeing.{AgreeOutside, NoneJudgedRightOf, SamenessOfLookups}
use Rattle.handshake.proofs.Settling.{refused-closes, accepted-next, unread, or_refuse}
use Rattle.theorems.proofs.Settling.{Closes, Fate, warning-stays, alert-fate}
use Rattle.theorems.proofs.Stages.{helloed, keyed, exchange-read, exchange-legal, changed, change-stays, change-fate}
use Rattle.theorems.proofs.Finishing.{Right, wrong, wrong-alerts, finished-other, awaiting}
use Rattle.theorems.proofs.Progress.{exchanged, Stands, awaits-hello, awaits-exchange, awaits-change, awaits-finished, complete}
use Rattle.theorems.proofs.Progress.{closed, one-call-more, exchange-now, change-now, stands_on}

-- ---- two servers at one call

-- what is seen of a step is what there is to be written
seen-outcome : (c c' : Connection) (out : List ℕ) {step step' one other : Step} → step ≡ one → step' ≡ other → outcome one ≡ outcome other
    → seen (settled c out step) ≡ seen (settled c' out step')
seen-outcome c c' out e e' alike = rw (e, e', alike)

-- a received alert shows nothing of a connection but whether it is over
alert-alike : (c c' : Connection) → is_over c.phase ≡ false → is_over c'.phase ≡ false → (level description : ℕ)
    → seen (alert_call c level description) ≡ seen (alert_call c' level description)
alert-alike c c' going going' level description =
    seen-outcome c c' [] {step = alert_step c level description} {step' = alert_step c' level description} refl refl
    (rw (going, going') (go (heard level description)))
  where
    go : (h : Heard) → outcome (heard_step (ended Phase.Closed) c h) ≡ outcome (heard_step (ended Phase.Closed) c' h)
    go Heard.Illegal = refl
    go Heard.Ends = refl
    go Heard.Ignored = refl

-- where staying and coming do not depend on the table, both servers do the same
both-fates : (v v' : View) (c c' : Connection) (Stays Comes : Call → Type 0) (x : Call) → Fate v c Stays Comes x → Fate v' c' Stays Comes x
    → Stays x ⊎ (Comes x ⊎ (Closes v c x × Closes v' c' x))
both-fates v v' c c' Stays Comes x (inl stays) fate = inl stays
both-fates v v' c c' Stays Comes x (inr (inl comes)) fate = inr (inl comes)
both-fates v v' c c' Stays Comes x (inr (inr closes)) (inl stays) = inl stays
both-fates v v' c c' Stays Comes x (inr (inr closes)) (inr (inl comes)) = inr (inl comes)
both-fates v v' c c' Stays Comes x (inr (inr closes)) (inr (inr closes')) = inr (inr (closes, closes'))

-- ---- the two connections after the same calls

-- They are the same; or a ClientKeyExchange named an identity of the set, nothing but warnings stood aside since, and the second connection is what
-- its own table's answer for that identity makes of it.
data Together (s : Settings) (v v' : View) (Set : List ℕ → Type 0) (calls : List Call) (c c' : Connection) : Type 0 where
  same-yet : c ≡ c' → Together s v v' Set calls c c'
  changing : (first : List Call) (came : KeyExchangeCame s v first) (between : List Call) → calls ≡ first ++ between → Each IgnoredWarning between
      → Set came.legal.identity → c ≡ exchanged s v came → c' ≡ keyed s came.came.legal came.exchange (v'.lookup came.legal.identity)
      → Together s v v' Set calls c c'
  finishing : (first : List Call) (came : ChangeCame s v first) (between : List Call) → calls ≡ first ++ between → Each IgnoredWarning between
      → Set (named s v came) → c ≡ awaiting s v came → c' ≡ changed s came.came.came.legal came.came.exchange (v'.lookup (named s v came))
      → Together s v v' Set calls c c'

module _ (s : Settings) (ok : acceptable s ≡ true) (hide : rule_of s.named ≡ Rule.Hide) (Set : List ℕ → Type 0) (v v' : View)
    (good : v.refusal ≡ None)
    (good' : v'.refusal ≡ None) (agree : AgreeOutside Set v v') where
  -- ---- what came is the same for both

  never-bad : (x : Call) → Aside (BadTableCall v) x → Aside (BadTableCall v') x
  never-bad x (inl warning) = inl warning
  never-bad x (inr bad) = absurd (none-some bad.refusal (sym good ∙ bad.bad))

  abbrev exchange-too : {calls : List Call} → KeyExchangeCame s v calls → KeyExchangeCame s v' calls
  exchange-too k = record {
    first = k.first;
    came = k.came;
    between = k.between;
    exchange = k.exchange;
    out = k.out;
    is = k.is;
    aside = every_map (Aside (BadTableCall v)) (Aside (BadTableCall v')) never-bad k.between k.aside;
    good = good';
    legal = k.legal;
  }

  abbrev change-too : {calls : List Call} → ChangeCame s v calls → ChangeCame s v' calls
  change-too k = record { first = k.first; came = exchange-too k.came; between = k.between; is = k.is; aside = k.aside }

  -- ---- one call more

  -- no Finished right under a key for an identity of the set is judged at x
  abbrev NotJudged : List Call → Call → Type 0
  NotJudged calls x = (identity : List ℕ) → Set identity → (¬ JudgedRight s v identity calls x) × (¬ JudgedRight s v' identity calls x)

  -- at the call x both show the same, and stay together
  abbrev Goes : List Call → Call → Connection → Connection → Type 0
  Goes calls x c c' = (seen (call v c x) ≡ seen (call v' c' x)) × Together s v v' Set (calls ++ (x ∷ [])) (call v c x).next (call v' c' x).next

  same-on : (calls : List Call) (x : Call) (c : Connection) → call v c x ≡ call v' c x → Goes calls x c c
  same-on calls x c e = (ap seen e, same-yet (ap (λ (r : Settled). r.next) e))

  -- ---- where no table is looked at

  abbrev Elsewhere : Phase → Type 0
  Elsewhere Phase.Hello = Unit
  Elsewhere Phase.KeyExchange = ⊥
  Elsewhere Phase.Change = Unit
  Elsewhere Phase.Finished = Unit
  Elsewhere Phase.Complete = Unit
  Elsewhere Phase.Closed = Unit

  elsewhere-on : (calls : List Call) (x : Call) (c : Connection) → Elsewhere c.phase → Goes calls x c c
  elsewhere-on calls (message m out) c h = same-on calls (message m out) c (ap (settled c out) (go c.phase h))
    where
      go : (p : Phase) → Elsewhere p → message_step v c m p ≡ message_step v' c m p
      go Phase.Hello h = refl
      go Phase.KeyExchange h = absurd h
      go Phase.Change h = refl
      go Phase.Finished h = refl
      go Phase.Complete h = refl
      go Phase.Closed h = refl
  elsewhere-on calls change_of_cipher c h = same-on calls change_of_cipher c refl
  elsewhere-on calls (alert level description) c h = same-on calls (alert level description) c refl

  -- ---- awaiting the ClientKeyExchange

  module _ (calls first : List Call) (came : HelloCame s first) (between : List Call) (split : calls ≡ first ++ between)
      (aside : Each (Aside (BadTableCall v)) between) where
    abbrev here : Connection
    here = helloed s came.legal

    exchange-same : (m : List ℕ) → ((i : List ℕ) → read_vector 16 m ≡ Some i → v.lookup i ≡ v'.lookup i)
        → message_step v here m Phase.KeyExchange ≡ message_step v' here m Phase.KeyExchange
    exchange-same m alike = exchange-read s v came.legal m good ∙ go (read_vector 16 m) alike ∙ sym (exchange-read s v' came.legal m good')
      where
        go : (o : Option (List ℕ)) → ((i : List ℕ) → o ≡ Some i → v.lookup i ≡ v'.lookup i)
            → or_refuse (unread 16 m) (λ i. key_found here m (v.lookup i)) o ≡ or_refuse (unread 16 m) (λ i. key_found here m (v'.lookup i)) o
        go None h = refl
        go (Some i) h = ap (key_found here m) (h i refl)

    -- from here on the connections differ
    names-one : (m out : List ℕ) (legal : LegalKeyExchange m) → Set legal.identity → Goes calls (message m out) here here
    names-one m out legal set = (
      seen-outcome here here out (accepted v good) (accepted v' good') refl,
      changing (calls ++ (message m out ∷ [])) now [] (sym (append-nil _)) tt set (next v good) (next v' good'),
    )
      where
        accepted : (w : View) → w.refusal ≡ None
            → message_step w here m Phase.KeyExchange ≡ accept silence (keyed s came.legal m (w.lookup legal.identity))
        accepted w h = exchange-legal s w came.legal h legal ∙ rw hide

        next : (w : View) → w.refusal ≡ None → (call w here (message m out)).next ≡ keyed s came.legal m (w.lookup legal.identity)
        next w h = accepted-next (ended Phase.Closed) here out _ silence _ (accepted w h) (omega arith)

        now : KeyExchangeCame s v (calls ++ (message m out ∷ []))
        now = exchange-now s v first came between split aside (record { exchange = m; out = out; is = refl; good = good; legal = legal })

    exchange-on : (x : Call) → Goes calls x here here
    exchange-on (message m out) = of-read (read_vector 16 m) refl
      where
        alike : ((i : List ℕ) → read_vector 16 m ≡ Some i → v.lookup i ≡ v'.lookup i) → Goes calls (message m out) here here
        alike h = same-on calls (message m out) here (ap (settled here out) (exchange-same m h))

        of-identity : (i : List ℕ) → read_vector 16 m ≡ Some i → (v.lookup i ≡ v'.lookup i) ⊎ Set i → Goes calls (message m out) here here
        of-identity i read (inl e) = alike (λ j read'. let is : i ≡ j = cc in rw (← is) e)
        of-identity i read (inr set) = names-one m out (record { identity = i; read = read }) set

        of-read : (o : Option (List ℕ)) → read_vector 16 m ≡ o → Goes calls (message m out) here here
        of-read None read = alike (λ i read'. absurd (none-some i (sym read ∙ read')))
        of-read (Some i) read = of-identity i read (agree i)
    exchange-on change_of_cipher = same-on calls change_of_cipher here refl
    exchange-on (alert level description) = same-on calls (alert level description) here refl

  -- ---- awaiting the change of cipher, on connections that differ

  module _ (calls first : List Call) (came : KeyExchangeCame s v first) (between : List Call) (split : calls ≡ first ++ between)
      (aside : Each IgnoredWarning between) (set : Set came.legal.identity) where
    abbrev keyed_by : View → Connection
    keyed_by w = keyed s came.came.legal came.exchange (w.lookup came.legal.identity)

    change-seen : (x : Call) → seen (call v (keyed_by v) x) ≡ seen (call v' (keyed_by v') x)
    change-seen (message m out) = refl
    change-seen change_of_cipher = refl
    change-seen (alert level description) = alert-alike (keyed_by v) (keyed_by v') refl refl level description

    change-on : (x : Call) → Goes calls x (keyed_by v) (keyed_by v')
    change-on x = (change-seen x, go (both-fates v v' (keyed_by v) (keyed_by v') IgnoredWarning (λ y. y ≡ change_of_cipher) x (fate v) (fate v')))
      where
        fate : (w : View) → Fate w (keyed_by w) IgnoredWarning (λ y. y ≡ change_of_cipher) x
        fate w = change-fate s w came.came.legal came.exchange (w.lookup came.legal.identity) x

        stays : (w : View) → IgnoredWarning x → (call w (keyed_by w) x).next ≡ keyed_by w
        stays w = change-stays s w came.came.legal came.exchange (w.lookup came.legal.identity) x

        go : IgnoredWarning x ⊎ ((x ≡ change_of_cipher) ⊎ (Closes v (keyed_by v) x × Closes v' (keyed_by v') x))
            → Together s v v' Set (calls ++ (x ∷ [])) (call v (keyed_by v) x).next (call v' (keyed_by v') x).next
        go (inl warning) =
            changing first came (between ++ (x ∷ [])) (one-call-more first between x split)
            (every_append IgnoredWarning between (x ∷ []) aside (warning, tt)) set
            (stays v warning) (stays v' warning)
        go (inr (inl comes)) =
            finishing (calls ++ (x ∷ [])) (change-now s v first came between split aside comes) [] (sym (append-nil _)) tt set (rw comes) (rw comes)
        go (inr (inr closes)) = same-yet (closes.0 ∙ sym closes.1)

  -- ---- awaiting the Finished, on connections that differ

  module _ (calls first between : List Call) (split : calls ≡ first ++ between) (aside : Each IgnoredWarning between) where
    judged-right : (w : View) (came : ChangeCame s w first) (m out : List ℕ)
        → Right s came.came.came.legal came.came.exchange (w.lookup (named s w came)) m
        → JudgedRight s w (named s w came) calls (message m out)
    judged-right w came m out right = record {
      awaits = record {
        first = first;
        came = came;
        between = between;
        is = split;
        aside = every_map IgnoredWarning (Aside (ShortFinished s w came)) (λ y. inl) between aside;
      };
      names = refl;
      finished = m;
      out = out;
      is = refl;
      right = record { legal = right.finished; key = right.key; listed = right.listed; right = right.right };
    }

    module _ (came : ChangeCame s v first) (set : Set (named s v came)) where
      abbrev changed_by : View → Connection
      changed_by w = changed s came.came.came.legal came.came.exchange (w.lookup (named s v came))

      refused-both : (m out : List ℕ) → NotJudged calls (message m out) → (message_step v (changed_by v) m Phase.Finished ≡ refuse (wrong m))
          × (message_step v' (changed_by v') m Phase.Finished ≡ refuse (wrong m))
      refused-both m out never = (go v came (never (named s v came) set).0, go v' (change-too came) (never (named s v came) set).1)
        where
          go : (w : View) (own : ChangeCame s w first) → ¬ JudgedRight s w (named s w own) calls (message m out)
              → message_step w (awaiting s w own) m Phase.Finished ≡ refuse (wrong m)
          go w own never-right = of-value (finished-other s w own.came.came.legal own.came.exchange (w.lookup (named s w own)) m)
            where
              of-value : Right s own.came.came.legal own.came.exchange (w.lookup (named s w own)) m
                  ⊎ (message_step w (awaiting s w own) m Phase.Finished ≡ refuse (wrong m))
                  → message_step w (awaiting s w own) m Phase.Finished ≡ refuse (wrong m)
              of-value (inl right) = absurd (never-right (judged-right w own m out right))
              of-value (inr refused) = refused

      warned-on : (x : Call) → IgnoredWarning x ⊎ (⊥ ⊎ (Closes v (changed_by v) x × Closes v' (changed_by v') x))
          → Together s v v' Set (calls ++ (x ∷ [])) (call v (changed_by v) x).next (call v' (changed_by v') x).next
      warned-on x (inl warning) =
          finishing first came (between ++ (x ∷ [])) (one-call-more first between x split)
          (every_append IgnoredWarning between (x ∷ []) aside (warning, tt)) set
          (warning-stays v (changed_by v) refl x warning) (warning-stays v' (changed_by v') refl x warning)
      warned-on x (inr (inl comes)) = absurd comes
      warned-on x (inr (inr closes)) = same-yet (closes.0 ∙ sym closes.1)

      finish-on : (x : Call) → NotJudged calls x → Goes calls x (changed_by v) (changed_by v')
      finish-on (message m out) never =
          let e = refused-both m out never in (
            seen-outcome (changed_by v) (changed_by v') out e.0 e.1 refl,
            same-yet (refused-closes (ended Phase.Closed) (changed_by v) out _ (wrong m) e.0 (wrong-alerts m)
                ∙ sym (refused-closes (ended Phase.Closed) (changed_by v') out _ (wrong m) e.1 (wrong-alerts m))),
          )
      finish-on change_of_cipher never = (refl, same-yet refl)
      finish-on (alert level description) never = (
        alert-alike (changed_by v) (changed_by v') refl refl level description,
        warned-on (alert level description)
            (both-fates v v' (changed_by v) (changed_by v') IgnoredWarning (λ y. ⊥) (alert level description) (fate v) (fate v')),
      )
        where
          fate : (w : View) → Fate w (changed_by w) IgnoredWarning (λ y. ⊥) (alert level description)
          fate w = alert-fate w (changed_by w) refl IgnoredWarning (λ y. ⊥) (λ y h. h) level description

  -- ---- the whole series

  stage-on : (calls : List Call) (x : Call) {c : Connection} → Stands s v calls c → Goes calls x c c
  unfolding started
  stage-on calls x (awaits-hello aside is) = rw is (elsewhere-on calls x (started s) tt)
  stage-on calls x (awaits-exchange first came between split aside is) = rw is (exchange-on calls first came between split aside x)
  stage-on calls x (awaits-change first came between split aside is) = rw is (elsewhere-on calls x (exchanged s v came) tt)
  stage-on calls x (awaits-finished awaits is) = rw is (elsewhere-on calls x (awaiting s v awaits.came) tt)
  stage-on calls x (complete came is) = rw is (elsewhere-on calls x (ended Phase.Complete) tt)
  stage-on calls x (closed is) = rw is (elsewhere-on calls x (ended Phase.Closed) tt)

  together-on : (calls : List Call) (x : Call) {c c' : Connection} → Stands s v calls c → Together s v v' Set calls c c' → NotJudged calls x
      → Goes calls x c c'
  together-on calls x stands (same-yet is) never = rw (← is) (stage-on calls x stands)
  together-on calls x stands (changing first came between split aside set is is') never =
      rw (is, is') (change-on calls first came between split aside set x)
  together-on calls x stands (finishing first came between split aside set is is') never =
      rw (is, is') (finish-on calls first between split aside came set x never)

  answers_agree : (calls before : List Call) (c c' : Connection) → Stands s v before c → Together s v v' Set before c c'
      → NoneJudgedRightOf Set s v v' (before ++ calls) → answers v c calls ≡ answers v' c' calls
  answers_agree [] before c c' stands together never = refl
  answers_agree (x ∷ xs) before c c' stands together never =
      let goes = together-on before x stands together (λ i set. ((never i set).0 before x xs refl, (never i set).1 before x xs refl)) in
      ap₂ (λ (a : Seen) (l : List Seen). a ∷ l) goes.0
      (answers_agree xs (before ++ (x ∷ [])) (call v c x).next (call v' c' x).next (stands_on s v ok before x stands) goes.1
      (rw (append_assoc before (x ∷ []) xs) never))

-- ---- from the start on

pub hides : (named : Option Rule) → Hiding named → rule_of named ≡ Rule.Hide
hides named (inl e) = rw e
hides named (inr e) = rw e

-- whether hide is named or nothing is, the connection is the same
pub alike-start : (s s' : Settings) → Alike s s' → Hiding s.named → Hiding s'.named → start_answer s ≡ start_answer s'
unfolding started
alike-start s s' alike hide hide' =
    rw (hides s.named hide, hides s'.named hide', alike.random, alike.hint, alike.stand_in, alike.suites)

pub sameness-of-lookups : SamenessOfLookups
sameness-of-lookups s s' alike ok hide hide' Set v v' good good' agree calls never =
    rw (← alike-start s s' alike hide hide', ok)
    (answers_agree s ok (hides s.named hide) Set v v' good good' agree calls [] (started s) (started s) (awaits-hello tt refl) (same-yet refl)
    never)

-- ---- the second table is the first one without a line

pub sameness : Sameness
sameness s s' alike ok hide hide' identity table without removed good good' starts starts' count count' own own' calls never =
    sameness-of-lookups s s' alike ok hide hide' (λ i. i ≡ identity) (view_of table starts count) (view_of without starts' count')
    (rw (good, own)) (rw (good', own')) agree calls never-judged
  where
    agree : AgreeOutside (λ i. i ≡ identity) (view_of table starts count) (view_of without starts' count')
    agree i = go (same i identity) refl
      where
        go : (b : Bool) → same i identity ≡ b → (key_of table i ≡ key_of without i) ⊎ (i ≡ identity)
        go true e = inr (same-eq i identity e)
        go false e = inl (removed-else identity table without removed good i (λ is. true≢false (sym (rw is (same_refl identity)) ∙ e)))

    -- the second table has no key for it
    unlisted : (i : List ℕ) → i ≡ identity → (before : List Call) (x : Call) → ¬ JudgedRight s (view_of without starts' count') i before x
    unlisted i is before x judged =
        let gone : key_of without identity ≡ None = removed-gone identity table without removed good in
        let found : key_of without identity ≡ Some judged.right.key = rw (← is, ← judged.names) judged.right.listed in
        none-some judged.right.key (sym gone ∙ found)

    never-judged : NoneJudgedRightOf (λ i. i ≡ identity) s (view_of table starts count) (view_of without starts' count') calls
    never-judged i is = (rw is never, λ before x after split. unlisted i is before x)
