-- Two servers with different tables and the same connection: past the ClientKeyExchange no table is looked at, so that both do the same, and the
-- connection stays past it.
-- Assumes nothing.
use mathlib.Core.Path.{◌≡◌, refl, sym, ap}
use Prim.Native.Nat.{ℕ, zero, suc}
use mathlib.Core.Bool.{Bool, true, false, cond, not, ◌&&◌}
use mathlib.Core.List.{List, ◌++◌}
use lib.ListN.{length, get_or, take, drop, take-append-drop}
use lib.Dec.{leb, ltb}
use Rattle.std.specs.Prelude.{Result, Ok, Err, Option, None, Some}
use Rattle.records.specs.declared.Content.{Content}
use Rattle.refusal.specs.declared.Refusal.{Refusal}
use Rattle.refusal.specs.declared.Refusal.TheVariants.{UnexpectedMessage, DecryptError}
use Rattle.refusal.specs.Lent.{Outcome, gives, refuses, within}
use Rattle.refusal.specs.Table.{to_peer, number_of}
use Rattle.sha256.specs.State.{absorb}
use Rattle.keys.specs.declared.Side.TheVariants.{Client, Server}
use Rattle.keys.specs.Secrets.{finished_of}
use Rattle.layout.specs.Header.{header}
use Rattle.layout.specs.Place.{filled_by, contents}
use Rattle.handshake.specs.declared.Heard.{Heard}
use Rattle.handshake.specs.Alert.{heard}
use Rattle.handshake.specs.Finished.{is_value}
use Rattle.handshake.specs.Header.{early_test}
use Rattle.handshake.specs.Step as Shared
use Rattle.server.specs.declared.Phase.{Phase}
use Rattle.server.specs.declared.Connection.{Connection}
use Rattle.server.specs.KeyExchange.{View}
use Rattle.server.specs.Step as Server
use Rattle.server.specs.Change.{change_step}
use Rattle.server.specs.Finished.{completed, finished_value}
use Rattle.server.specs.Message.{awaited, message_step, blocks_in}
use Rattle.records.specs.declared.ContentType.{ContentType}
use Rattle.records.specs.Protection.{opened, content_of}
use Rattle.records.specs.Joining.{message_end, held_in}
use Rattle.record_server.specs.declared.RecordConnection.{RecordConnection}
use Rattle.record_server.specs.Connection.{is_complete, over_test, closed_with, closing_alert, after_refusal}
use Rattle.record_server.specs.Joining as Judging
use Rattle.record_server.specs.Joining.{Progress, Judged, goes_on, is_empty, after_step, after_early, judge_first, judge_bytes, judged}
use Rattle.record_server.specs.Sending as Sending
use Rattle.record_server.specs.Sending.{after_sending, data_record}
use Rattle.record_server.specs.Taking.{Step, refuse, accept, alert_step, changed_by, handshake_step, content_test, content_step, after_test, content_decided}
use Rattle.record_server.specs.Taking.{unlisted_first, opened_step, settled, take_step}
use Rattle.record_server.proofs.Settling.{alerts-close}
use Rattle.record_theorems.specs.Series.{Call, takes, sends, Kept, call}
use Rattle.record_theorems.proofs.Taking.{took}
use Rattle.record_theorems.proofs.Cutting.{taken, blocks_for}

-- ---- one turn, under two tables

-- what is judged behind a message
abbrev pub behind : (Progress → Judged) → Progress → (rest : List ℕ) → (blocks : ℕ) → Server.Step → Judged
behind on p rest blocks (Shared.refuse r) = Judging.refuse r
behind on p rest blocks (Shared.accept flight next) = on (taken p rest blocks flight next)

-- it differs only where the first message does
pub turn-pair : (v v' : View) (on on' : Progress → Judged) (R : Judged → Judged → Type 0) (p : Progress)
    → ((r : Refusal) → R (Judging.refuse r) (Judging.refuse r))
    → R (goes_on p) (goes_on p)
    → ((m rest : List ℕ) → p.left ≡ m ++ rest
    → R (behind on p rest (blocks_for v p m) (message_step v p.connection m p.connection.phase))
    (behind on' p rest (blocks_for v' p m) (message_step v' p.connection m p.connection.phase)))
    → R (judge_first v on p) (judge_first v' on' p)
turn-pair v v' on on' R p refused waits steps =
    go (is_complete p.connection.phase && not (is_empty p.left)) (ltb (length p.left) 4)
    (early_test (awaited p.connection.phase) p.left)
    (ltb (length p.left) (message_end p.left)) (blocks_for v p (take (message_end p.left) p.left))
    (blocks_for v' p (take (message_end p.left) p.left))
    (message_step v p.connection (take (message_end p.left) p.left) p.connection.phase)
    (message_step v' p.connection (take (message_end p.left) p.left) p.connection.phase)
    (steps (take (message_end p.left) p.left) rest (sym (take-append-drop (message_end p.left) p.left)))
  where
    rest : List ℕ
    rest = drop (message_end p.left) p.left

    after : (n n' : ℕ) (step step' : Server.Step) → R (behind on p rest n step) (behind on' p rest n' step')
        → R (after_step on p (message_end p.left) n step) (after_step on' p (message_end p.left) n' step')
    after n n' (Shared.refuse r) (Shared.refuse q) h = h
    after n n' (Shared.refuse r) (Shared.accept flight next) h = h
    after n n' (Shared.accept flight next) (Shared.refuse q) h = h
    after n n' (Shared.accept flight next) (Shared.accept flight' next') h = h

    go : (over few : Bool) (early : Result Unit Refusal) (short : Bool) (n n' : ℕ) (step step' : Server.Step)
        → R (behind on p rest n step) (behind on' p rest n' step')
        → R (cond over (Judging.refuse UnexpectedMessage) (cond few (goes_on p) (after_early early (cond short (goes_on p)
        (after_step on p (message_end p.left) n step)))))
        (cond over (Judging.refuse UnexpectedMessage) (cond few (goes_on p) (after_early early (cond short (goes_on p)
        (after_step on' p (message_end p.left) n' step')))))
    go true few early short n n' step step' h = refused UnexpectedMessage
    go false true early short n n' step step' h = waits
    go false false (Err r) short n n' step step' h = refused r
    go false false (Ok tt) true n n' step step' h = waits
    go false false (Ok tt) false n n' step step' h = after n n' step step' h

-- ---- past the ClientKeyExchange

abbrev pub Beyond : Phase → Type 0
Beyond Phase.Hello = ⊥
Beyond Phase.KeyExchange = ⊥
Beyond Phase.Change = Unit
Beyond Phase.Finished = Unit
Beyond Phase.Complete = Unit
Beyond Phase.Closed = Unit

abbrev Stays : Server.Step → Type 0
Stays (Shared.refuse r) = Unit
Stays (Shared.accept flight next) = Beyond next.phase

tested_stays : (h : Result Unit Refusal) (step : Server.Step) → Stays step → Stays (Shared.after_tests h step)
tested_stays (Ok tt) step stays = stays
tested_stays (Err r) step stays = tt

finished-stays : (c : Connection) (m : List ℕ) (o : Option (List ℕ)) → Stays (finished_value c m o)
finished-stays c m None = tt
finished-stays c m (Some value) =
    go (c.client.listed && is_value value (finished_of Client c.secrets.master c.transcript))
    (finished_of Server c.secrets.master (absorb c.transcript m))
  where
    go : (right : Bool) (own : Outcome) → Stays (cond right (completed own) (Shared.refuse DecryptError))
    go true (gives b) = tt
    go true (refuses r) = tt
    go false own = tt

message-stays : (v : View) (c : Connection) (m : List ℕ) (phase : Phase) → Beyond phase → Stays (message_step v c m phase)
message-stays v c m Phase.Hello past = absurd past
message-stays v c m Phase.KeyExchange past = absurd past
message-stays v c m Phase.Change past = tt
message-stays v c m Phase.Finished past = tested_stays (header 20 m) _ (finished-stays c m (contents m (filled_by 12 m)))
message-stays v c m Phase.Complete past = tt
message-stays v c m Phase.Closed past = tt

message-same : (v v' : View) (c : Connection) (m : List ℕ) (phase : Phase) → Beyond phase → message_step v c m phase ≡ message_step v' c m phase
message-same v v' c m Phase.Hello past = absurd past
message-same v v' c m Phase.KeyExchange past = absurd past
message-same v v' c m Phase.Change past = refl
message-same v v' c m Phase.Finished past = refl
message-same v v' c m Phase.Complete past = refl
message-same v v' c m Phase.Closed past = refl

blocks-same : (v v' : View) (c : Connection) (m : List ℕ) (phase : Phase) → Beyond phase → blocks_in v c m phase ≡ blocks_in v' c m phase
blocks-same v v' c m Phase.Hello past = absurd past
blocks-same v v' c m Phase.KeyExchange past = absurd past
blocks-same v v' c m Phase.Change past = refl
blocks-same v v' c m Phase.Finished past = refl
blocks-same v v' c m Phase.Complete past = refl
blocks-same v v' c m Phase.Closed past = refl

abbrev StaysOn : Judged → Type 0
StaysOn (Judging.refuse r) = Unit
StaysOn (goes_on p) = Beyond p.connection.phase

abbrev SameOn : Judged → Judged → Type 0
SameOn j j' = (j ≡ j') × StaysOn j

judged-same : (v v' : View) (n : ℕ) (p : Progress) → Beyond p.connection.phase → SameOn (judge_bytes n v p) (judge_bytes n v' p)
unfolding judge_bytes
judged-same v v' zero p past = (refl, past)
judged-same v v' (suc n) p past =
    turn-pair v v' (judge_bytes n v) (judge_bytes n v') SameOn p (λ r. (refl, tt)) (refl, past)
    (λ m rest is. go rest (blocks_for v p m) (blocks_for v' p m) (blocks-same v v' p.connection m p.connection.phase past)
    (message_step v p.connection m p.connection.phase) (message_step v' p.connection m p.connection.phase)
    (message-same v v' p.connection m p.connection.phase past) (message-stays v p.connection m p.connection.phase past)
    (judged-same v v' n))
  where
    go : (rest : List ℕ) (k k' : ℕ) → k ≡ k' → (step step' : Server.Step) → step ≡ step' → Stays step
        → ((q : Progress) → Beyond q.connection.phase → SameOn (judge_bytes n v q) (judge_bytes n v' q))
        → SameOn (behind (judge_bytes n v) p rest k step) (behind (judge_bytes n v') p rest k' step')
    go rest k k' same (Shared.refuse r) step' is stays on = rw (← is) (refl, tt)
    go rest k k' same (Shared.accept flight next) step' is stays on = rw (← is, ← same) (on (taken p rest k flight next) stays)

-- ---- calls

abbrev StaysTaken : Step → Type 0
StaysTaken (refuse r) = Unit
StaysTaken (accept a) = Beyond a.next.handshake.phase

-- the two tables' steps
abbrev SameTaken : Step → Step → Type 0
SameTaken step step' = (step ≡ step') × StaysTaken step

tested-same : (h : Result Unit Refusal) (step step' : Step) → SameTaken step step' → SameTaken (after_test h step) (after_test h step')
tested-same (Ok tt) step step' same = same
tested-same (Err r) step step' same = (refl, tt)

module _ (v v' : View) (c : RecordConnection) (past : Beyond c.handshake.phase) where
  alert-same : (held : List ℕ) (h : Heard) → SameTaken (alert_step c held h) (alert_step c held h)
  alert-same held Heard.Illegal = (refl, tt)
  alert-same held Heard.Ends = (refl, tt)
  alert-same held Heard.Ignored = (refl, past)

  change-same : (held : List ℕ) (phase : Phase)
      → SameTaken (changed_by c held (change_step c.handshake phase)) (changed_by c held (change_step c.handshake phase))
  change-same held Phase.Hello = (refl, tt)
  change-same held Phase.KeyExchange = (refl, tt)
  change-same held Phase.Change = (refl, tt)
  change-same held Phase.Finished = (refl, tt)
  change-same held Phase.Complete = (refl, tt)
  change-same held Phase.Closed = (refl, tt)

  handshake-same : (j j' : Judged) → SameOn j j' → SameTaken (handshake_step c j) (handshake_step c j')
  handshake-same (Judging.refuse r) j' same = rw (← same.0) (refl, tt)
  handshake-same (goes_on p) j' same = rw (← same.0) (refl, same.1)

  content-same : (held content : List ℕ) (kind : ContentType) → SameTaken (content_step v c held content kind) (content_step v' c held content kind)
  content-same held content ContentType.ApplicationData = (refl, past)
  content-same held content ContentType.Alert = alert-same held (heard (get_or content 0 0) (get_or content 1 0))
  content-same held content ContentType.ChangeCipherSpec = change-same held c.handshake.phase
  content-same held content ContentType.Handshake =
      handshake-same (judged v c.handshake (held ++ content)) (judged v' c.handshake (held ++ content)) (judged-same v v' _ _ past)

  taken-same : (memory b : List ℕ) → SameTaken (take_step v c memory b) (take_step v' c memory b)
  taken-same memory b =
      tested-same (over_test c.handshake.phase c.reading.sequence) _ _ (of-opened (opened c.reading b))
    where
      held : List ℕ
      held = held_in memory c.held

      of-first : (unlisted : Bool) (kind : ContentType) → SameTaken
          (cond unlisted (refuse DecryptError) (content_decided v c held (content_of c.reading b) kind))
          (cond unlisted (refuse DecryptError) (content_decided v' c held (content_of c.reading b) kind))
      of-first true kind = (refl, tt)
      of-first false kind =
          tested-same (content_test kind (is_complete c.handshake.phase) (not (is_empty held)) (content_of c.reading b)) _ _
          (content-same held (content_of c.reading b) kind)

      of-opened : (o : Result Content Refusal) → SameTaken (opened_step v c held b o) (opened_step v' c held b o)
      of-opened (Err r) = (refl, tt)
      of-opened (Ok content) = of-first (unlisted_first c) content.kind

  refused-past : (r : Refusal) → Beyond (after_refusal r c).handshake.phase
  refused-past r = rw (alerts-close r c) (go (to_peer r))
    where
      go : (b : Bool) → Beyond (cond b (closed_with (closing_alert c.writing (number_of r))) c).handshake.phase
      go true = tt
      go false = past

  settled-past : (out memory : List ℕ) (step : Step) → StaysTaken step → Beyond (settled c out memory step).next.handshake.phase
  settled-past out memory (refuse r) stays = refused-past r
  settled-past out memory (accept a) stays = go (leb (length a.answer) (length out) && leb (length a.held) (length memory)) refl
    where
      go : (room : Bool) → (leb (length a.answer) (length out) && leb (length a.held) (length memory)) ≡ room
          → Beyond (settled c out memory (accept a)).next.handshake.phase
      go true e = rw e stays
      go false e = rw e past

pub beyond-same : (v v' : View) (k : Kept) (x : Call) → Beyond k.connection.handshake.phase
    → (call v k x ≡ call v' k x) × Beyond (call v k x).kept.connection.handshake.phase
beyond-same v v' k (takes b out) past =
    let same = taken-same v v' k.connection past k.memory b in
    (ap (took k out) same.0, settled-past v v' k.connection past out k.memory (take_step v k.connection k.memory b) same.1)
beyond-same v v' k (sends content out) past = (refl, go (within (length out) (data_record k.connection content)))
  where
    go : (o : Outcome) → Beyond (Sending.next_after k.connection (after_sending k.connection) o).handshake.phase
    go (gives b) = past
    go (refuses r) = refused-past v v' k.connection past r
