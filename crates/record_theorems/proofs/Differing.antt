-- The two servers' connections where they differ: from a ClientKeyExchange that named an identity of the set to the first record under the client's
-- protection, which closes both alike.
-- Assumes nothing.
use mathlib.Core.Path.{◌≡◌, refl, sym, ap, ◌∙◌}
use mathlib.Core.Logic.{inl, inr}
use Prim.Native.Nat.{ℕ}
use mathlib.Core.Bool.{Bool, true, false, cond, true≢false}
use mathlib.Core.List.{List, [], ◌∷◌, ◌++◌, append-nil, append_assoc}
use lib.ListN.{length, get_or}
use lib.Dec.{eqb, ltb}
use borrow.Author.Tests.{eqb-true}
use Rattle.std.specs.Prelude.{Result, Ok, Err, None, Some}
use Rattle.lists.specs.Lists.{same}
use Rattle.lists.proofs.Equal.{same-eq}
use Rattle.refusal.specs.declared.Refusal.{Refusal}
use Rattle.refusal.specs.declared.Refusal.TheVariants.{UnexpectedMessage, IllegalParameter, DecodeError, SequenceSpent}
use Rattle.refusal.specs.Lent.{bytes_of}
use Rattle.refusal.specs.Table.{to_peer}
use Rattle.handshake.specs.declared.Heard.{Heard}
use Rattle.handshake.specs.Alert.{heard}
use Rattle.server.specs.Connection.{Settings}
use Rattle.server.specs.KeyExchange.{View}
use Rattle.server.specs.Change.{after_change}
use Rattle.records.specs.declared.ContentType.{ContentType}
use Rattle.records.specs.Record.{fragment_of, record_read}
use Rattle.records.specs.Protection.{last_sequence, following, mac_length, right_mac}
use Rattle.records.specs.Joining.{unfinished}
use Rattle.record_server.specs.declared.RecordConnection.{RecordConnection}
use Rattle.record_server.specs.Connection.{no_alert, closed_with}
use Rattle.record_server.specs.Answering.{change_of_cipher}
use Rattle.record_server.specs.Joining as Judging
use Rattle.record_server.specs.Joining.{Progress, goes_on, is_empty, judged}
use Rattle.record_server.specs.Taking.{Accepted, refuse, accept, one_more, changed, front, take_step, progressed, pending_with}
use Rattle.record_theorems.specs.Series.{Call, takes, sends, Kept}
use Rattle.record_theorems.specs.Terms.{under, PlainRecord, Plain, ChangeCame, named, client_key}
use Rattle.record_theorems.proofs.Taking.{held-front, held-short, read-alerts, ignored-warning}
use Rattle.record_theorems.proofs.Reaching.{keys_made, change-judged}
use Rattle.record_theorems.proofs.Standing.{plainly, changed_to, plain_step, step_of}
use Rattle.record_theorems.proofs.Standing.{alone, plain_more, plain-warned, quiet, change-step, empty-is}
use Rattle.record_theorems.proofs.FirstRecord.{first_refusal, first-alerts, first-refused}
use Rattle.record_theorems.proofs.Seeing.{Near, unsent-seen}
use Rattle.record_theorems.proofs.Together.{Changing, Together, same-beyond, changing, finishing, Goes, goes, refused-goes, accepted-goes}

module _ (s : Settings) (Set : List ℕ → Type 0) (v v' : View) where
  -- ---- awaiting the change of cipher, on connections that differ

  module _ (calls : List Call) (k k' : Kept) (c : Changing s v v' Set calls k k') where
    abbrev keys_by : View → Progress
    keys_by w = keys_made s c.legal c.exchange (w.lookup c.legal-exchange.identity) c.left

    near : Near k k'
    near = record {
      memory = c.memory;
      writing = ap (λ (d : RecordConnection). d.writing) c.is ∙ sym (ap (λ (d : RecordConnection). d.writing) c.is');
      alert = ap (λ (d : RecordConnection). d.alert) c.is ∙ sym (ap (λ (d : RecordConnection). d.alert) c.is');
    }

    step-at : (last : Bool) → eqb c.number last_sequence ≡ last → (b : List ℕ) (read : Result ContentType Refusal) → record_read 0 b ≡ read
        → (take_step v k.connection k.memory b ≡ cond last (refuse SequenceSpent) (plain_step v c.number (keys_by v) b read))
        × (take_step v' k'.connection k'.memory b ≡ cond last (refuse SequenceSpent) (plain_step v' c.number (keys_by v') b read))
    step-at last e b read is = (
      step_of v k c.number (keys_by v) c.is refl refl c.holds b read is last e,
      step_of v' k' c.number (keys_by v') c.is' refl refl (rw c.memory at c.holds) b read is last e,
    )

    changing-sends : (content out : List ℕ) → Goes s Set v v' calls (sends content out) k k'
    changing-sends content out =
        let both = unsent-seen v v' near (rw c.is) (rw c.is) (rw c.is') (rw c.is') content out in
        goes s Set v v' calls (sends content out) both.0 (changing c) (λ comes. absurd (true≢false (sym both.1 ∙ comes)))

    module _ (b out : List ℕ) (not_last : eqb c.number last_sequence ≡ false) {kind : ContentType} (read : record_read 0 b ≡ Ok kind) where
      both-refuse : (r : Refusal) → to_peer r ≡ true → plain_step v c.number (keys_by v) b (Ok kind) ≡ refuse r
          → plain_step v' c.number (keys_by v') b (Ok kind) ≡ refuse r → Goes s Set v v' calls (takes b out) k k'
      both-refuse r told e e' =
          let both = step-at false not_last b (Ok kind) read in
          refused-goes s Set v v' calls b out near (changing c) r (inl told) (both.0 ∙ e) (both.1 ∙ e')

      both-accept : (a a' : Accepted) → a.answer ≡ a'.answer → a.held ≡ a'.held → a.next.alert ≡ a'.next.alert
          → plain_step v c.number (keys_by v) b (Ok kind) ≡ accept a → plain_step v' c.number (keys_by v') b (Ok kind) ≡ accept a'
          → Together s v v' Set (calls ++ (takes b out ∷ [])) (record { connection = a.next; memory = front a.held k.memory })
          (record { connection = a'.next; memory = front a'.held k'.memory })
          → Goes s Set v v' calls (takes b out) k k'
      both-accept a a' answer held alert e e' next =
          let both = step-at false not_last b (Ok kind) read in
          accepted-goes s Set v v' calls b out near (changing c) a a' answer held alert (both.0 ∙ e) (both.1 ∙ e') next

    module _ (b out : List ℕ) (not_last : eqb c.number last_sequence ≡ false) where
      -- one more record, and other bytes left
      changing-still : (left : List ℕ) → unfinished left ≡ true → Plain (calls ++ (takes b out ∷ [])) (c.hello ++ (c.exchange ++ left)) →
          let next : View → RecordConnection =
          λ w. plainly (following c.number) (keys_made s c.legal c.exchange (w.lookup c.legal-exchange.identity) left) in
          Together s v v' Set (calls ++ (takes b out ∷ [])) (record { connection = next v; memory = front left k.memory })
          (record { connection = next v'; memory = front left k'.memory })
      changing-still left short came =
          changing (record {
            hello = c.hello;
            exchange = c.exchange;
            left = left;
            legal = c.legal;
            legal-exchange = c.legal-exchange;
            set = c.set;
            came = came;
            number = following c.number;
            is = refl;
            is' = refl;
            memory = ap (front left) c.memory;
            holds = held-front left k.memory short;
          })

      alert-on : record_read 0 b ≡ Ok ContentType.Alert → (two : Bool) → eqb (length (fragment_of b)) 2 ≡ two
          → (h : Heard) → heard (get_or (fragment_of b) 0 0) (get_or (fragment_of b) 1 0) ≡ h → Goes s Set v v' calls (takes b out) k k'
      alert-on read false e h is = both-refuse b out not_last read DecodeError refl (rw e) (rw e)
      alert-on read true e Heard.Illegal is = both-refuse b out not_last read IllegalParameter refl (rw (e, is)) (rw (e, is))
      alert-on read true e Heard.Ends is =
          let a = quiet (closed_with no_alert) c.left in
          both-accept b out not_last read a a refl refl refl (rw (e, is)) (rw (e, is))
          (same-beyond tt (ap (λ (l : List ℕ). record { connection = closed_with no_alert; memory = front c.left l }) c.memory))
      alert-on read true e Heard.Ignored is =
          let this : PlainRecord ContentType.Alert (fragment_of b) (takes b out) =
          record { bytes = b; out = out; is = refl; read = read; holds = refl } in
          let plain : Plain (calls ++ (takes b out ∷ [])) (c.hello ++ (c.exchange ++ c.left)) =
          plain-warned c.came (ignored-warning (fragment_of b) (eqb-true _ _ e) is) this in
          both-accept b out not_last read (quiet (one_more (plainly c.number (keys_by v))) c.left)
          (quiet (one_more (plainly c.number (keys_by v'))) c.left)
          refl refl refl (rw (e, is)) (rw (e, is)) (changing-still c.left (held-short k.memory (length c.left) c.left c.holds) plain)

      change-on : record_read 0 b ≡ Ok ContentType.ChangeCipherSpec → (nothing_left : Bool) → is_empty c.left ≡ nothing_left
          → (one : Bool) → same (fragment_of b) change_of_cipher ≡ one → Goes s Set v v' calls (takes b out) k k'
      change-on read false e one is = both-refuse b out not_last read UnexpectedMessage refl (rw e) (rw e)
      change-on read true e false is = both-refuse b out not_last read DecodeError refl (rw (e, is)) (rw (e, is))
      change-on read true e true is =
          both-accept b out not_last read (quiet (changed (plainly c.number (keys_by v)) (after_change (keys_by v).connection)) c.left)
          (quiet (changed (plainly c.number (keys_by v')) (after_change (keys_by v').connection)) c.left) refl refl refl
          (change-step v c.number (keys_by v) b refl e is) (change-step v' c.number (keys_by v') b refl e is)
          (finishing began c.set (now v) (now v') (ap (front c.left) c.memory))
        where
          nothing : c.left ≡ []
          nothing = empty-is c.left e

          plain : Plain calls (c.hello ++ c.exchange)
          plain = rw (nothing, append-nil c.exchange) at c.came

          began : ChangeCame s (calls ++ (takes b out ∷ []))
          began = record {
            first = calls;
            hello = c.hello;
            exchange = c.exchange;
            plain = plain;
            legal_hello = c.legal;
            legal_exchange = c.legal-exchange;
            change = takes b out;
            changes = record { bytes = b; out = out; is = refl; read = read; holds = same-eq (fragment_of b) change_of_cipher is };
            is = refl;
          }

          now : (w : View) → changed (plainly c.number (keys_by w)) (after_change (keys_by w).connection) ≡ changed_to s w began
          now w =
              ap (λ (l : List ℕ). changed (plainly c.number (keys_made s c.legal c.exchange (w.lookup c.legal-exchange.identity) l))
              (after_change (keys_by w).connection)) nothing

      handshake-bytes : record_read 0 b ≡ Ok ContentType.Handshake → (content : List ℕ) → fragment_of b ≡ content
          → Goes s Set v v' calls (takes b out) k k'
      handshake-bytes read [] is = both-refuse b out not_last read DecodeError refl (rw is) (rw is)
      handshake-bytes read (d ∷ ds) is = of_length (ltb (length all) 4) refl
        where
          all : List ℕ
          all = c.left ++ (d ∷ ds)

          plain : Plain (calls ++ (takes b out ∷ [])) (c.hello ++ (c.exchange ++ (c.left ++ (d ∷ ds))))
          plain =
              rw (append_assoc c.hello (c.exchange ++ c.left) (d ∷ ds), append_assoc c.exchange c.left (d ∷ ds))
              at (plain_more {x = takes b out} c.came (record { bytes = b; out = out; is = refl; read = read; holds = is }))

          waits : (w : View) → ltb (length all) 4 ≡ true → judged w (keys_by w).connection all ≡ goes_on (alone (keys_by w).connection all)
          waits w few = change-judged w (alone (keys_by w).connection all) refl ∙ rw few

          refuses : (w : View) → ltb (length all) 4 ≡ false → judged w (keys_by w).connection all ≡ Judging.refuse UnexpectedMessage
          refuses w many = change-judged w (alone (keys_by w).connection all) refl ∙ rw many

          going_on : View → Accepted
          going_on w =
              progressed (plainly c.number (keys_by w)) (alone (keys_by w).connection all)
              (pending_with (plainly c.number (keys_by w)).pending (keys_by w).connection None)

          of_length : (few : Bool) → ltb (length all) 4 ≡ few → Goes s Set v v' calls (takes b out) k k'
          of_length true few =
              both-accept b out not_last read (going_on v) (going_on v') refl refl refl (rw (is, waits v few)) (rw (is, waits v' few))
              (changing-still all (rw few) plain)
          of_length false many =
              both-refuse b out not_last read UnexpectedMessage refl (rw (is, refuses v many)) (rw (is, refuses v' many))

    pub changing-on : (x : Call) → Goes s Set v v' calls x k k'
    changing-on (sends content out) = changing-sends content out
    changing-on (takes b out) = of-last (eqb c.number last_sequence) refl (record_read 0 b) refl
      where
        of-last : (last : Bool) → eqb c.number last_sequence ≡ last → (read : Result ContentType Refusal) → record_read 0 b ≡ read
            → Goes s Set v v' calls (takes b out) k k'
        of-last true e read is =
            let both = step-at true e b read is in refused-goes s Set v v' calls b out near (changing c) SequenceSpent (inr refl) both.0 both.1
        of-last false e (Err r) is =
            let both = step-at false e b (Err r) is in
            refused-goes s Set v v' calls b out near (changing c) r (inl (read-alerts 0 b is)) both.0 both.1
        of-last false e (Ok ContentType.ApplicationData) is = both-refuse b out e is UnexpectedMessage refl refl refl
        of-last false e (Ok ContentType.Alert) is =
            alert-on b out e is (eqb (length (fragment_of b)) 2) refl (heard (get_or (fragment_of b) 0 0) (get_or (fragment_of b) 1 0)) refl
        of-last false e (Ok ContentType.ChangeCipherSpec) is =
            change-on b out e is (is_empty c.left) refl (same (fragment_of b) change_of_cipher) refl
        of-last false e (Ok ContentType.Handshake) is = handshake-bytes b out e is (fragment_of b) refl

  -- ---- the first record under the client's protection, on connections that differ

  -- no record whose MAC is right under the key of an identity of the set is judged at x
  abbrev pub Unjudged : View → List Call → Call → Type 0
  Unjudged w calls x =
      (began : ChangeCame s calls) → Set (named s began) → (key : List ℕ) → w.lookup (named s began) ≡ Some key
      → (b out : List ℕ) → x ≡ takes b out → (kind : ContentType) → record_read mac_length b ≡ Ok kind
      → ¬ (right_mac (under (bytes_of (client_key s began key)) 0) b ≡ true)

  module _ (calls : List Call) (k k' : Kept) (began : ChangeCame s calls) (set : Set (named s began)) (is : k.connection ≡ changed_to s v began)
      (is' : k'.connection ≡ changed_to s v' began) (memory : k.memory ≡ k'.memory) where
    apart-near : Near k k'
    apart-near = record {
      memory = memory;
      writing = ap (λ (d : RecordConnection). d.writing) is ∙ sym (ap (λ (d : RecordConnection). d.writing) is');
      alert = ap (λ (d : RecordConnection). d.alert) is ∙ sym (ap (λ (d : RecordConnection). d.alert) is');
    }

    abbrev stay : Together s v v' Set calls k k'
    stay = finishing began set is is' memory

    pub finishing-on : (x : Call) → Unjudged v calls x → Unjudged v' calls x → Goes s Set v v' calls x k k'
    finishing-on (sends content out) never never' =
        let both = unsent-seen v v' apart-near (rw is) (rw is) (rw is') (rw is') content out in
        goes s Set v v' calls (sends content out) both.0 stay (λ comes. absurd (true≢false (sym both.1 ∙ comes)))
    finishing-on (takes b out) never never' =
        refused-goes s Set v v' calls b out apart-near stay (first_refusal (record_read 32 b)) (inl (first-alerts b (record_read 32 b) refl))
        (step v k is never)
        (step v' k' is' never')
      where
        step : (w : View) (l : Kept) → l.connection ≡ changed_to s w began → Unjudged w calls (takes b out)
            → take_step w l.connection l.memory b ≡ refuse (first_refusal (record_read 32 b))
        step w l e unjudged =
            ap (λ (c : RecordConnection). take_step w c l.memory b) e
            ∙ first-refused s began w l.memory b (w.lookup (named s began)) (record_read 32 b) refl
            (λ key listed kind read. unjudged began set key listed b out refl kind read)
