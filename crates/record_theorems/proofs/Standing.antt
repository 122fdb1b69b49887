-- Where a series stands before the client's protection begins.
-- Assumes nothing.
use mathlib.Core.Path.{◌≡◌, refl, sym, ap, ap₂, ◌∙◌}
use Prim.Native.Nat.{ℕ, ◌-◌}
use native.Mathlib.Omega.{arith}
use mathlib.Core.Bool.{Bool, true, false, cond, not, false≢true}
use mathlib.Core.List.{List, [], ◌∷◌, ◌++◌, append-nil, append_assoc}
use lib.ListN.{length, take}
use lib.Seq.{take_all}
use lib.Dec.{eqb}
use Rattle.std.specs.Prelude.{Result, Ok, Err, Option, None, Some}
use Rattle.lists.specs.Lists.{same}
use Rattle.refusal.specs.declared.Refusal.{Refusal}
use Rattle.refusal.specs.declared.Refusal.TheVariants.{UnexpectedMessage, SequenceSpent}
use Rattle.handshake.specs.Flight.{silence}
use Rattle.handshake.specs.declared.Derived.{Derived}
use Rattle.handshake.specs.Step as Shared
use Rattle.server.specs.declared.Phase.{Phase}
use Rattle.server.specs.declared.Connection.{Connection}
use Rattle.server.specs.Connection.{Settings, rule_of, acceptable, started}
use Rattle.server.specs.KeyExchange.{View}
use Rattle.server.specs.Change.{after_change, change_step}
use Rattle.records.specs.declared.ContentType.{ContentType}
use Rattle.records.specs.declared.State.{State}
use Rattle.records.specs.Record.{fragment_of, record_read}
use Rattle.records.specs.Protection.{initial_state, protected_by, last_sequence, following, counted, mac_read}
use Rattle.records.specs.Joining.{held_in}
use Rattle.record_server.specs.declared.RecordConnection.{RecordConnection}
use Rattle.record_server.specs.Connection.{no_key, no_alert, keys_of, is_closed, is_complete}
use Rattle.record_server.specs.Answering.{change_of_cipher, counted_over}
use Rattle.record_server.specs.Joining as Judging
use Rattle.record_server.specs.Joining.{Progress, goes_on, is_empty, judged, later}
use Rattle.record_server.specs.Taking.{Step, refuse, accept, Accepted, pending_with, progressed, content_test}
use Rattle.record_server.specs.Taking.{content_step, after_test, opened_step, take_step, changed}
use Rattle.theorems.specs.Terms.{answer_to}
use Rattle.theorems.proofs.Stages as Stages
use Rattle.theorems.proofs.Stages.{keyed, unknown}
use Rattle.record_theorems.specs.Series.{Call, Kept, refused_to_host}
use Rattle.record_theorems.specs.Terms.{PlainRecord, Warning, Plain, none, fragment, warning, ChangeCame, named}
use Rattle.record_theorems.specs.Cutting.{with_more, judge_all}
use Rattle.record_theorems.specs.Demand3.{begun}
use Rattle.record_theorems.proofs.Cutting.{onto, all_onto, cut, judged-onto}
use Rattle.record_theorems.proofs.Reaching.{from, Reached, awaits-hello, awaits-exchange, awaits-change, change-waits, reached}

-- ---- where it stands

-- the connection at which unprotected records came, the next of number n, whose handshake bytes are judged to go on with p
abbrev pub plainly : ℕ → Progress → RecordConnection
plainly n p =
    record {
      handshake = p.connection;
      reading = record { protected = false; sequence = n; key = no_key };
      writing = counted_over initial_state p.flight.plain;
      pending = pending_with (record { client = no_key; server = no_key }) p.connection p.master;
      held = length p.left;
      alert = no_alert;
    }

-- the connection right after the change of cipher, by what the table has for the identity
abbrev pub changed_with : (s : Settings) {calls : List Call} → ChangeCame s calls → Option (List ℕ) → RecordConnection
changed_with s began found =
    record {
      handshake = Stages.changed s began.legal_hello began.exchange found;
      reading = protected_by (keys_of (keyed s began.legal_hello began.exchange found)).client;
      writing = counted_over initial_state (answer_to s began.legal_hello).plain;
      pending = record { client = no_key; server = (keys_of (keyed s began.legal_hello began.exchange found)).server };
      held = 0;
      alert = no_alert;
    }

abbrev pub changed_to : (s : Settings) (v : View) {calls : List Call} → ChangeCame s calls → RecordConnection
changed_to s v began = changed_with s began (v.lookup (named s began))

pub record StandsPlain (s : Settings) (v : View) (calls : List Call) (bytes : List ℕ) (k : Kept) : Type 0 where
  pub came : Plain calls bytes
  pub number : ℕ
  pub progress : Progress
  pub goes : judged v (started s) bytes ≡ goes_on progress
  pub is : k.connection ≡ plainly number progress
  pub holds : held_in k.memory (length progress.left) ≡ progress.left

-- what a call that came makes of it
pub data AfterPlain (s : Settings) (v : View) (calls : List Call) (k : Kept) : Type 0 where
  still : (bytes : List ℕ) → StandsPlain s v calls bytes k → AfterPlain s v calls k
  changes : (began : ChangeCame s calls) → v.refusal ≡ None → unknown (rule_of s.named) (v.lookup (named s began)) ≡ false
      → k.connection ≡ changed_to s v began → AfterPlain s v calls k
  closes : k.connection.handshake.phase ≡ Phase.Closed → AfterPlain s v calls k

-- a refusal of the key table or of its list, R2 or R10, is for the host
abbrev pub Proper : View → Type 0
Proper v = (r : Refusal) → v.refusal ≡ Some r → refused_to_host (Err r) ≡ true

-- ---- Plain, one call behind others

plain-append : {xs ys : List Call} {bytes more : List ℕ} → Plain xs bytes → Plain ys more → Plain (xs ++ ys) (bytes ++ more)
plain-append none plain = plain
plain-append {ys = ys} {more = more} (fragment {b = b} {bs = bs} {rest = rest} r first) plain =
    rw (append_assoc (b ∷ bs) rest more) (fragment r (plain-append first plain))
plain-append (warning w r first) plain = warning w r (plain-append first plain)

pub plain_more : {calls : List Call} {bytes : List ℕ} {d : ℕ} {ds : List ℕ} {x : Call} → Plain calls bytes
    → PlainRecord ContentType.Handshake (d ∷ ds) x
    → Plain (calls ++ (x ∷ [])) (bytes ++ (d ∷ ds))
plain_more {d = d} {ds = ds} plain r = rw (append-nil (d ∷ ds)) at (plain-append plain (fragment r none))

pub plain-warned : {calls : List Call} {bytes content : List ℕ} {x : Call} → Plain calls bytes → Warning content
    → PlainRecord ContentType.Alert content x
    → Plain (calls ++ (x ∷ [])) bytes
plain-warned {bytes = bytes} plain w r = rw (append-nil bytes) at (plain-append plain (warning w r none))

content-once : {kind kind' : ContentType} {content other : List ℕ} {x : Call} → PlainRecord kind content x → PlainRecord kind' other x
    → content ≡ other
content-once r q = let same_bytes : r.bytes ≡ q.bytes = cc in sym r.holds ∙ ap fragment_of same_bytes ∙ q.holds

kinds-apart : {content other : List ℕ} {x : Call} → PlainRecord ContentType.Handshake content x → PlainRecord ContentType.Alert other x → ⊥
kinds-apart r q =
    let same_bytes : r.bytes ≡ q.bytes = cc in
    let reads : Ok ContentType.Handshake ≡ Ok ContentType.Alert = sym r.read ∙ ap (record_read 0) same_bytes ∙ q.read in
    let z : ◌≡◌ {A = ℕ} 0 1 = cc in
    omega arith

-- the calls say which bytes came
pub plain-once : {xs : List Call} {bytes others : List ℕ} → Plain xs bytes → Plain xs others → bytes ≡ others
plain-once none none = refl
plain-once (fragment r first) (fragment q second) = ap₂ ◌++◌ (content-once r q) (plain-once first second)
plain-once (fragment r first) (warning w q second) = absurd (kinds-apart r q)
plain-once (warning w r first) (fragment q second) = absurd (kinds-apart q r)
plain-once (warning w r first) (warning z q second) = plain-once first second

-- ---- a record that is taken there

-- what stands between the tests on the connection and those on the handshake
abbrev pub plain_step : View → ℕ → Progress → List ℕ → Result ContentType Refusal → Step
plain_step v n p b (Err r) = refuse r
plain_step v n p b (Ok kind) =
    after_test (content_test kind false (not (is_empty p.left)) (fragment_of b)) (content_step v (plainly n p) p.left (fragment_of b) kind)

plain_step_lem : (v : View) (n : ℕ) (p : Progress) (memory b : List ℕ) → is_closed p.connection.phase ≡ false
    → is_complete p.connection.phase ≡ false
    → held_in memory (length p.left) ≡ p.left
    → take_step v (plainly n p) memory b ≡ cond (eqb n last_sequence) (refuse SequenceSpent) (plain_step v n p b (record_read 0 b))
plain_step_lem v n p memory b going early holds = rw (going, holds) (go (eqb n last_sequence) (record_read 0 b))
  where
    go : (last : Bool) (read : Result ContentType Refusal)
        → after_test (cond last (Err SequenceSpent) (Ok tt))
        (opened_step v (plainly n p) p.left b (mac_read (plainly n p).reading b read))
        ≡ cond last (refuse SequenceSpent) (plain_step v n p b read)
    go true read = refl
    go false (Err r) = refl
    go false (Ok kind) =
        let whole : take (length (fragment_of b) - 0) (fragment_of b) ≡ fragment_of b =
        take_all (length (fragment_of b) - 0) (fragment_of b) (omega arith) in rw (early, whole)

-- the step of a record that is taken before the client's protection begins
pub step_of : (w : View) (k : Kept) (n : ℕ) (p : Progress) → k.connection ≡ plainly n p → is_closed p.connection.phase ≡ false
    → is_complete p.connection.phase ≡ false → held_in k.memory (length p.left) ≡ p.left
    → (b : List ℕ) (read : Result ContentType Refusal) → record_read 0 b ≡ read → (last : Bool) → eqb n last_sequence ≡ last
    → take_step w k.connection k.memory b ≡ cond last (refuse SequenceSpent) (plain_step w n p b read)
step_of w k n p is going early holds b read reads last e =
    ap (λ (c : RecordConnection). take_step w c k.memory b) is ∙ plain_step_lem w n p k.memory b going early holds
    ∙ ap₂ (λ (t : Bool) (r : Result ContentType Refusal). cond t (refuse SequenceSpent) (plain_step w n p b r)) e reads

-- nothing is sent
abbrev pub quiet : RecordConnection → List ℕ → Accepted
quiet next held = record { answer = []; next = next; held = held; master = None; holds = None }

pub change-step : (v : View) (n : ℕ) (p : Progress) (b : List ℕ) → p.connection.phase ≡ Phase.Change → is_empty p.left ≡ true
    → same (fragment_of b) change_of_cipher ≡ true
    → plain_step v n p b (Ok ContentType.ChangeCipherSpec) ≡ accept (quiet (changed (plainly n p) (after_change p.connection)) p.left)
change-step v n p b awaits nothing_left one = rw (awaits, nothing_left, one)

pub early-change : (v : View) (n : ℕ) (p : Progress) (b : List ℕ) → change_step p.connection p.connection.phase ≡ Shared.refuse UnexpectedMessage
    → is_empty p.left ≡ true → same (fragment_of b) change_of_cipher ≡ true
    → plain_step v n p b (Ok ContentType.ChangeCipherSpec) ≡ refuse UnexpectedMessage
early-change v n p b refuses nothing_left one = rw (nothing_left, one, refuses)

-- ---- how far the handshake came

-- bytes on a connection by themselves
abbrev pub alone : Connection → List ℕ → Progress
alone c left = record { connection = c; flight = silence; master = None; left = left }

counted-append : (state : State) (ms ns : List (List ℕ)) → counted_over (counted_over state ms) ns ≡ counted_over state (ms ++ ns)
counted-append state [] ns = refl
counted-append state (m ∷ ms) ns = counted-append (counted state) ms ns

module _ (s : Settings) (v : View) where
  pub reached-going : {bytes : List ℕ} {p : Progress} → Reached s v bytes p
      → (is_closed p.connection.phase ≡ false) × (is_complete p.connection.phase ≡ false)
  unfolding started
  reached-going (awaits-hello is) = (rw is, rw is)
  reached-going (awaits-exchange hello left legal split is) = (rw is, rw is)
  reached-going (awaits-change hello exchange left legal legal-exchange split good known is) = (rw is, rw is)

  -- nothing is sent behind a change of cipher of the server's
  reached-plain : {bytes : List ℕ} {p : Progress} → Reached s v bytes p → p.flight.protected ≡ []
  reached-plain (awaits-hello is) = rw is
  reached-plain (awaits-exchange hello left legal split is) = rw is
  reached-plain (awaits-change hello exchange left legal legal-exchange split good known is) = rw is

  -- ---- more handshake bytes

  module _ (bytes : List ℕ) (n : ℕ) (p : Progress) (goes : judged v (started s) bytes ≡ goes_on p) (content : List ℕ) where
    -- those of a record are judged behind what the ones before it left
    pub more-judged : judged v (started s) (bytes ++ content) ≡ all_onto p.flight p.master (judged v p.connection (p.left ++ content))
    more-judged =
        let behind : with_more p content ≡ onto p.flight p.master (alone p.connection (p.left ++ content)) =
        rw (append-nil p.flight.plain, append-nil p.flight.protected) in
        cut v (from s bytes) content
        ∙ rw goes (ap (judge_all v) behind ∙ judged-onto v p.flight p.master (alone p.connection (p.left ++ content)))

    module _ (q : Progress) (more : judged v p.connection (p.left ++ content) ≡ goes_on q) where
      abbrev then : Progress
      then = onto p.flight p.master q

      pub goes_on_lem : judged v (started s) (bytes ++ content) ≡ goes_on then
      goes_on_lem = more-judged ∙ ap (all_onto p.flight p.master) more

      pub none-protected : q.flight.protected ≡ []
      none-protected = rw (reached-plain (reached s v bytes p goes)) at (reached-plain (reached s v (bytes ++ content) then goes_on_lem))

      -- once there are keys nothing is accepted any more before the change of cipher
      pending-kept : Reached s v bytes p → (o : Option Derived) → q.master ≡ o
          → pending_with (plainly n p).pending q.connection o
          ≡ pending_with (record { client = no_key; server = no_key }) q.connection (later p.master o)
      pending-kept r (Some d) e = refl
      pending-kept (awaits-hello is) None e = rw is
      pending-kept (awaits-exchange hello left legal split is) None e = rw is
      pending-kept (awaits-change hello exchange left legal legal-exchange split good known is) None e =
          rw (change-waits v (alone p.connection (p.left ++ content)) q (rw is) more)

      pub handshake-next : (progressed (plainly n p) q (pending_with (plainly n p).pending q.connection q.master)).next
          ≡ plainly (following n) then
      handshake-next =
          rw (
            none-protected,
            pending-kept (reached s v bytes p goes) q.master refl,
            counted-append initial_state p.flight.plain q.flight.plain,
          )

pub begins : (s : Settings) (v : View) (memory : List ℕ) → acceptable s ≡ true → StandsPlain s v [] [] (begun s memory)
begins s v memory ok =
    record {
      came = none;
      number = 0;
      progress = from s [];
      goes = unfold Judging.judge_bytes in refl;
      is = rw ok;
      holds = refl;
    }

pub empty-is : (bytes : List ℕ) → is_empty bytes ≡ true → bytes ≡ []
empty-is [] e = refl
empty-is (b ∷ bs) e = absurd (false≢true e)
