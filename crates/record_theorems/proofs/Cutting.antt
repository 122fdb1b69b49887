-- However handshake bytes are cut into records, the messages judged are the same: bytes behind others are judged behind what those left.
-- Assumes nothing.
use mathlib.Core.Path.{◌≡◌, refl, sym, ap, subst, ◌∙◌}
use mathlib.Core.Logic.{inl}
use Prim.Native.Nat.{ℕ, zero, suc, ◌+◌, ◌≤◌, ◌<◌}
use native.Mathlib.Omega.{arith}
use mathlib.Core.Bool.{Bool, true, false, cond, not, ◌&&◌, false≢true}
use mathlib.Core.List.{List, [], ◌∷◌, ◌++◌, append-nil, append_assoc}
use lib.ListN.{length, take, drop, length-append, length-drop, take-append-drop, get_or-append}
use lib.Seq.{take-length, take-append-le, drop-append-le, drop-append_seam}
use lib.Dec.{ltb}
use borrow.Author.Tests.{ltb-false, le-ltb}
use Rattle.std.proofs.lemmas.Option.{none-some}
use Rattle.std.specs.Prelude.{Result, Ok, Err, Option, None, Some}
use Rattle.endian.specs.Vector.{stated}
use Rattle.refusal.specs.declared.Refusal.{Refusal}
use Rattle.refusal.specs.declared.Refusal.TheVariants.{UnexpectedMessage}
use Rattle.handshake.specs.Flight.{Flight, silence, joined}
use Rattle.handshake.specs.Handed.{derived}
use Rattle.handshake.specs.declared.Derived.{Derived}
use Rattle.handshake.specs.Header.{early_test}
use Rattle.handshake.specs.Step as Shared
use Rattle.server.specs.declared.Phase.{Phase}
use Rattle.server.specs.declared.Connection.{Connection}
use Rattle.server.specs.Connection.{is_over}
use Rattle.server.specs.KeyExchange.{View}
use Rattle.server.specs.Step.{Step}
use Rattle.server.specs.Message.{awaited, message_step, handed_over, blocks_in}
use Rattle.records.specs.Joining.{message_end, unfinished}
use Rattle.record_server.specs.Connection.{is_complete}
use Rattle.record_server.specs.Joining.{Progress, Judged, refuse, goes_on, is_empty, joined_flight, later, after_step, where_whole, after_early, judge_first}
use Rattle.record_server.specs.Joining.{judge_bytes}
use Rattle.record_server.proofs.Judging.{judge-left}
use Rattle.record_theorems.specs.Cutting.{with_more, judge_all, fed_then, fed, CutFree}
use Rattle.record_theorems.proofs.Headers.{HeaderPassed}
use Rattle.record_theorems.proofs.Refusing.{Told, message-told, early-told}

-- ---- the header of bytes with others behind them

module _ (bytes more : List ℕ) (header : 4 ≤ length bytes) where
  stated-more : stated 3 (drop 1 (bytes ++ more)) ≡ stated 3 (drop 1 bytes)
  stated-more =
      let some : 3 ≤ length (drop 1 bytes) = rw length-drop (omega arith) in
      rw (drop-append-le 1 bytes more (omega arith), take-append-le 3 (drop 1 bytes) more some)

  early-more : (kind : Option ℕ) → early_test kind (bytes ++ more) ≡ early_test kind bytes
  early-more None = refl
  early-more (Some kind) = rw (stated-more, get_or-append bytes more 0 0 (omega arith))

-- ---- one turn

-- a message that was accepted, and what is left behind it
abbrev pub taken : Progress → (rest : List ℕ) → (blocks : ℕ) → Flight → Connection → Progress
taken p rest blocks flight next =
    record {
      connection = next;
      flight = joined_flight p.flight flight;
      master = later p.master (derived (handed_over p.connection.phase (Shared.accept flight next)) blocks);
      left = rest;
    }

-- how many blocks are hashed for the message m
abbrev pub blocks_for : View → Progress → (m : List ℕ) → ℕ
blocks_for v p m = blocks_in v p.connection m p.connection.phase

-- What one turn makes of the bytes that are left, with whatever bytes behind them: they are refused; or they wait; or their first message is
-- accepted.
data Turn (v : View) (p : Progress) : Type 0 where
  refused : (r : Refusal) → Told v r → ((on : Progress → Judged) (more : List ℕ) → judge_first v on (with_more p more) ≡ refuse r) → Turn v p
  waiting : unfinished p.left ≡ true → ((on : Progress → Judged) → judge_first v on p ≡ goes_on p) → Turn v p
  taking : (m rest : List ℕ) (flight : Flight) (next : Connection) → p.left ≡ m ++ rest → length rest < length p.left
      → message_step v p.connection m p.connection.phase ≡ Shared.accept flight next
      → ((on : Progress → Judged) (more : List ℕ) → judge_first v on (with_more p more) ≡ on (with_more (taken p rest (blocks_for v p m) flight next) more)) → Turn v p

module _ (v : View) (on : Progress → Judged) where
  -- the header is in, and the handshake is not over
  first-tested : (p : Progress) → is_complete p.connection.phase ≡ false → 4 ≤ length p.left
      → judge_first v on p ≡ after_early (early_test (awaited p.connection.phase) p.left) (where_whole v on p (message_end p.left))
  first-tested p going long = rw (going, le-ltb _ _ long)

  -- the message is in
  first_more : (p : Progress) (more : List ℕ) → is_complete p.connection.phase ≡ false → 4 ≤ length p.left
      → early_test (awaited p.connection.phase) p.left ≡ Ok tt → message_end p.left ≤ length p.left
      → judge_first v on (with_more p more)
      ≡ after_step on (with_more p more) (message_end p.left) (blocks_for v p (take (message_end p.left) p.left))
      (message_step v p.connection (take (message_end p.left) p.left) p.connection.phase)
  first_more p more going long early whole =
      let long-more : 4 ≤ length (p.left ++ more) = rw length-append (omega arith) in
      let inside : message_end p.left ≤ length (p.left ++ more) = rw length-append (omega arith) in
      first-tested (with_more p more) going long-more
      ∙ rw (
        early-more p.left more long (awaited p.connection.phase),
        early,
        stated-more p.left more long,
        le-ltb _ _ inside,
        take-append-le (message_end p.left) p.left more whole,
      )

-- a message is awaited only where the connection is not over
awaited-going : (phase : Phase) (m : List ℕ) → early_test (awaited phase) m ≡ Ok tt → is_over phase ≡ false
awaited-going Phase.Hello m e = refl
awaited-going Phase.KeyExchange m e = refl
awaited-going Phase.Change m e = refl
awaited-going Phase.Finished m e = refl
awaited-going Phase.Complete m e = absurd (let z : ◌≡◌ {A = ℕ} 0 1 = cc in omega arith)
awaited-going Phase.Closed m e = absurd (let z : ◌≡◌ {A = ℕ} 0 1 = cc in omega arith)

turn : (v : View) (p : Progress) → Turn v p
turn v p = of-header (ltb (length p.left) 4) refl (is_complete p.connection.phase) refl
  where
    full : (bytes : List ℕ) → 4 ≤ length bytes → not (is_empty bytes) ≡ true
    full [] h = absurd (omega arith)
    full (b ∷ bs) h = refl

    full-more : (bytes more : List ℕ) → not (is_empty bytes) ≡ true → not (is_empty (bytes ++ more)) ≡ true
    full-more [] more h = absurd (false≢true h)
    full-more (b ∷ bs) more h = refl

    of-step : is_complete p.connection.phase ≡ false → 4 ≤ length p.left
        → early_test (awaited p.connection.phase) p.left ≡ Ok tt
        → message_end p.left ≤ length p.left
        → (step : Step) → message_step v p.connection (take (message_end p.left) p.left) p.connection.phase ≡ step → Turn v p
    of-step going long early whole (Shared.refuse r) step =
        refused r (message-told v p.connection _ p.connection.phase (awaited-going p.connection.phase p.left early) r step)
        (λ on more. first_more v on p more going long early whole ∙ rw step)
    of-step going long early whole (Shared.accept flight next) step =
        taking (take (message_end p.left) p.left) (drop (message_end p.left) p.left) flight next
        (sym (take-append-drop (message_end p.left) p.left))
        (rw length-drop (omega arith)) step
        (λ on more. first_more v on p more going long early whole ∙ rw (step, drop-append-le (message_end p.left) p.left more whole))

    of-early : is_complete p.connection.phase ≡ false → 4 ≤ length p.left → (verdict : Result Unit Refusal)
        → early_test (awaited p.connection.phase) p.left ≡ verdict → (b : Bool) → ltb (length p.left) (message_end p.left) ≡ b → Turn v p
    of-early going long (Err r) early b whole =
        refused r (inl (early-told (awaited p.connection.phase) p.left r early))
        (λ on more. let long-more : 4 ≤ length (p.left ++ more) = rw length-append (omega arith) in
        first-tested v on (with_more p more) going long-more ∙ rw (early-more p.left more long (awaited p.connection.phase), early))
    of-early going long (Ok tt) early true whole =
        waiting (rw (le-ltb _ _ long, whole)) (λ on. first-tested v on p going long ∙ rw (early, whole))
    of-early going long (Ok tt) early false whole =
        of-step going long early (ltb-false _ _ whole) (message_step v p.connection (take (message_end p.left) p.left) p.connection.phase)
        refl

    of-few : ltb (length p.left) 4 ≡ true → is_complete p.connection.phase ≡ true → (b : Bool) → not (is_empty p.left) ≡ b → Turn v p
    of-few few over true full-yet = refused UnexpectedMessage (inl refl) (λ on more. rw (over, full-more p.left more full-yet))
    of-few few over false none_left = waiting (rw few) (λ on. rw (over, none_left, few))

    of-header : (b : Bool) → ltb (length p.left) 4 ≡ b → (d : Bool) → is_complete p.connection.phase ≡ d → Turn v p
    of-header true few true over = of-few few over (not (is_empty p.left)) refl
    of-header true few false going = waiting (rw few) (λ on. rw (going, few))
    of-header false long true over =
        refused UnexpectedMessage (inl refl) (λ on more. rw (over, full-more p.left more (full p.left (ltb-false _ _ long))))
    of-header false long false going =
        of-early going (ltb-false _ _ long) (early_test (awaited p.connection.phase) p.left) refl
        (ltb (length p.left) (message_end p.left)) refl

pub refused-on : {r : Refusal} {p : Progress} → refuse r ≡ goes_on p → ⊥
refused-on e = let z : ◌≡◌ {A = ℕ} 0 1 = cc in omega arith

-- behind a flight and a master secret of messages that were judged before
abbrev pub onto : Flight → Option Derived → Progress → Progress
onto before master p =
    record { connection = p.connection; flight = joined_flight before p.flight; master = later master p.master; left = p.left }

abbrev pub all_onto : Flight → Option Derived → Judged → Judged
all_onto before master (refuse r) = refuse r
all_onto before master (goes_on p) = goes_on (onto before master p)

later-later : (a b d : Option Derived) → later (later a b) d ≡ later a (later b d)
later-later a b None = refl
later-later a b (Some d) = refl

onto-taken : (before : Flight) (master : Option Derived) (p : Progress) (rest : List ℕ) (n : ℕ) (flight : Flight) (next : Connection)
    → taken (onto before master p) rest n flight next ≡ onto before master (taken p rest n flight next)
onto-taken before master p rest n flight next =
    rw (
      append_assoc before.plain p.flight.plain flight.plain,
      append_assoc before.protected p.flight.protected flight.protected,
      later-later master p.master (derived (handed_over p.connection.phase (Shared.accept flight next)) n),
    )

-- ---- the first message of the bytes

no_more : (p : Progress) → with_more p [] ≡ p
no_more p = rw (append-nil p.left)

module _ (v : View) where
  at_once : (on : Progress → Judged) (p : Progress) {j : Judged} → judge_first v on (with_more p []) ≡ j → judge_first v on p ≡ j
  at_once on p {j} e = subst (λ (q : Progress). judge_first v on q ≡ j) (no_more p) e

  -- bytes are judged by a turn, and then what it left
  pub all_first : (p : Progress) → judge_all v p ≡ judge_first v (judge_all v) p
  all_first p = judge-left v p

  -- what becomes of the first message
  pub data First (p : Progress) : Type 0 where
    is-refused : (r : Refusal) → judge_all v p ≡ refuse r → First p
    is-left : judge_all v p ≡ goes_on p → First p
    is-taken : (m rest : List ℕ) (flight : Flight) (next : Connection) → p.left ≡ m ++ rest
        → message_step v p.connection m p.connection.phase ≡ Shared.accept flight next
        → judge_all v p ≡ judge_all v (taken p rest (blocks_for v p m) flight next) → First p

  pub first : (p : Progress) → First p
  first p = go (turn v p)
    where
      go : Turn v p → First p
      go (refused r told e) = is-refused r (all_first p ∙ at_once (judge_all v) p (e (judge_all v) []))
      go (waiting short e) = is-left (all_first p ∙ e (judge_all v))
      go (taking m rest flight next is shorter step e) =
          is-taken m rest flight next is step
          (all_first p ∙ at_once (judge_all v) p (e (judge_all v) []) ∙ ap (judge_all v) (no_more (taken p rest (blocks_for v p m) flight next)))

  -- a message at the front that passed the tests on its header
  module _ (p : Progress) (m rest : List ℕ) {kind : ℕ} (is : p.left ≡ m ++ rest) (awaits : awaited p.connection.phase ≡ Some kind)
      (passed : HeaderPassed kind m) where
    message-stepped : judge_all v p ≡ after_step (judge_all v) p (length m) (blocks_for v p m) (message_step v p.connection m p.connection.phase)
    message-stepped =
        let alone : Progress = record { connection = p.connection; flight = p.flight; master = p.master; left = m } in
        let inside : message_end m ≤ length m = rw passed.ends (omega arith) in
        let split : p ≡ with_more alone rest = rw is in
        ap (judge_all v) split ∙ all_first (with_more alone rest)
        ∙ first_more v (judge_all v) alone rest (going p.connection.phase awaits) passed.long (rw awaits passed.early) inside
        ∙ rw (passed.ends, take-length, is)
      where
        going : (phase : Phase) → awaited phase ≡ Some kind → is_complete phase ≡ false
        going Phase.Hello e = refl
        going Phase.KeyExchange e = refl
        going Phase.Change e = refl
        going Phase.Finished e = refl
        going Phase.Complete e = absurd (none-some kind e)
        going Phase.Closed e = refl

    pub message-first : (flight : Flight) (next : Connection) → message_step v p.connection m p.connection.phase ≡ Shared.accept flight next
        → judge_all v p ≡ judge_all v (taken p rest (blocks_for v p m) flight next)
    message-first flight next step = message-stepped ∙ rw (step, is, drop-append_seam)

    pub message-refused : (r : Refusal) → message_step v p.connection m p.connection.phase ≡ Shared.refuse r → judge_all v p ≡ refuse r
    message-refused r step = message-stepped ∙ rw step

  -- ---- bytes behind others

  cut-within : (n : ℕ) (p : Progress) (more : List ℕ) → length p.left < n
      → judge_all v (with_more p more) ≡ fed_then (judge_all v p) (λ q. judge_all v (with_more q more))
  cut-within zero p more h = absurd (omega arith)
  cut-within (suc n) p more h = all_first (with_more p more) ∙ go (turn v p) (λ q less. cut-within n q more (omega arith))
    where
      go : Turn v p → ((q : Progress) → length q.left < length p.left
          → judge_all v (with_more q more) ≡ fed_then (judge_all v q) (λ r. judge_all v (with_more r more)))
          → judge_first v (judge_all v) (with_more p more) ≡ fed_then (judge_all v p) (λ q. judge_all v (with_more q more))
      go (refused r told e) less = e (judge_all v) more ∙ rw (all_first p ∙ at_once (judge_all v) p (e (judge_all v) []))
      go (waiting short e) less = sym (all_first (with_more p more)) ∙ rw (all_first p ∙ e (judge_all v))
      go (taking m rest flight next is shorter step e) less =
          let q = taken p rest (blocks_for v p m) flight next in
          let now : judge_all v p ≡ judge_all v q = all_first p ∙ at_once (judge_all v) p (e (judge_all v) []) ∙ ap (judge_all v) (no_more q) in
          e (judge_all v) more ∙ less q shorter ∙ rw now

  -- bytes behind others are judged behind what those left
  pub cut : (p : Progress) (more : List ℕ) → judge_all v (with_more p more) ≡ fed_then (judge_all v p) (λ q. judge_all v (with_more q more))
  cut p more = cut-within (length p.left + 1) p more (omega arith)

  -- what is left is judged no further
  rests : (p q : Progress) → judge_all v p ≡ goes_on q → judge_all v q ≡ goes_on q
  rests p q e =
      let again : goes_on q ≡ judge_all v (with_more q []) = sym (ap (judge_all v) (no_more p) ∙ e) ∙ cut p [] ∙ rw e in
      sym (again ∙ ap (judge_all v) (no_more q))

  -- and is less than a message
  left-within : (n : ℕ) (p q : Progress) → length p.left < n → judge_all v p ≡ goes_on q → unfinished q.left ≡ true
  left-within zero p q h e = absurd (omega arith)
  left-within (suc n) p q h e = go (turn v p) (sym (all_first p) ∙ e) (λ r less. left-within n r q (omega arith))
    where
      go : Turn v p → judge_first v (judge_all v) p ≡ goes_on q
          → ((r : Progress) → length r.left < length p.left → judge_all v r ≡ goes_on q → unfinished q.left ≡ true)
          → unfinished q.left ≡ true
      go (refused r told never) on less = absurd (refused-on (sym (at_once (judge_all v) p (never (judge_all v) [])) ∙ on))
      go (waiting short now) on less = let is : p ≡ q = cc (now (judge_all v)) in rw (← is) short
      go (taking m rest flight next is shorter step now) on less =
          let r = taken p rest (blocks_for v p m) flight next in
          less r shorter (sym (at_once (judge_all v) p (now (judge_all v) [] ∙ ap (judge_all v) (no_more r))) ∙ on)

  pub left-unfinished : (p q : Progress) → judge_all v p ≡ goes_on q → unfinished q.left ≡ true
  left-unfinished p q = left-within (length p.left + 1) p q (omega arith)

  -- who is told of a refusal
  told-within : (n : ℕ) (p : Progress) (r : Refusal) → length p.left < n → judge_all v p ≡ refuse r → Told v r
  told-within zero p r h e = absurd (omega arith)
  told-within (suc n) p r h e = go (turn v p) (sym (all_first p) ∙ e) (λ q less. told-within n q r (omega arith))
    where
      go : Turn v p → judge_first v (judge_all v) p ≡ refuse r
          → ((q : Progress) → length q.left < length p.left → judge_all v q ≡ refuse r → Told v r) → Told v r
      go (refused q told now) on less = let is : q ≡ r = cc (at_once (judge_all v) p (now (judge_all v) [])) in rw (← is) told
      go (waiting short now) on less = absurd (refused-on (sym on ∙ now (judge_all v)))
      go (taking m rest flight next is shorter step now) on less =
          let q = taken p rest (blocks_for v p m) flight next in
          less q shorter (sym (at_once (judge_all v) p (now (judge_all v) [] ∙ ap (judge_all v) (no_more q))) ∙ on)

  pub judged-told : (p : Progress) (r : Refusal) → judge_all v p ≡ refuse r → Told v r
  judged-told p r = told-within (length p.left + 1) p r (omega arith)

  -- ---- behind messages that were judged before

  onto-within : (before : Flight) (master : Option Derived) (n : ℕ) (p : Progress)
      → judge_bytes n v (onto before master p) ≡ all_onto before master (judge_bytes n v p)
  unfolding judge_bytes
  onto-within before master zero p = refl
  onto-within before master (suc n) p =
      go (is_complete p.connection.phase && not (is_empty p.left)) (ltb (length p.left) 4)
      (early_test (awaited p.connection.phase) p.left)
      (ltb (length p.left) (message_end p.left)) (blocks_for v p (take (message_end p.left) p.left))
      (message_step v p.connection (take (message_end p.left) p.left) p.connection.phase) (onto-within before master n)
    where
      go : (over few : Bool) (early : Result Unit Refusal) (short : Bool) (blocks : ℕ) (step : Step)
          → ((q : Progress) → judge_bytes n v (onto before master q) ≡ all_onto before master (judge_bytes n v q))
          → cond over (refuse UnexpectedMessage)
          (cond few (goes_on (onto before master p)) (after_early early (cond short (goes_on (onto before master p))
          (after_step (judge_bytes n v) (onto before master p) (message_end p.left) blocks step))))
          ≡ all_onto before master (cond over (refuse UnexpectedMessage) (cond few (goes_on p) (after_early early (cond short (goes_on p)
          (after_step (judge_bytes n v) p (message_end p.left) blocks step)))))
      go true few early short blocks step next = refl
      go false true early short blocks step next = refl
      go false false (Err r) short blocks step next = refl
      go false false (Ok tt) true blocks step next = refl
      go false false (Ok tt) false blocks (Shared.refuse r) next = refl
      go false false (Ok tt) false blocks (Shared.accept flight after) next =
          ap (judge_bytes n v) (onto-taken before master p (drop (message_end p.left) p.left) blocks flight after)
          ∙ next (taken p (drop (message_end p.left) p.left) blocks flight after)

  pub judged-onto : (before : Flight) (master : Option Derived) (p : Progress)
      → judge_all v (onto before master p) ≡ all_onto before master (judge_all v p)
  judged-onto before master p = onto-within before master (length p.left) p

  -- ---- parts one after the other

  fed-joined : (parts : List (List ℕ)) (p : Progress) → judge_all v p ≡ goes_on p → fed v p parts ≡ judge_all v (with_more p (joined parts))
  fed-joined [] p e = sym (ap (judge_all v) (no_more p) ∙ e)
  fed-joined (part ∷ parts) p e =
      go (judge_all v (with_more p part)) refl (λ q. fed-joined parts q)
      ∙ sym (ap (λ (left : List ℕ). judge_all v (record { connection = p.connection; flight = p.flight; master = p.master; left = left }))
      (sym (append_assoc p.left part (joined parts)))
      ∙ cut (with_more p part) (joined parts))
    where
      go : (j : Judged) → judge_all v (with_more p part) ≡ j
          → ((q : Progress) → judge_all v q ≡ goes_on q → fed v q parts ≡ judge_all v (with_more q (joined parts)))
          → fed_then (judge_all v (with_more p part)) (λ q. fed v q parts)
          ≡ fed_then (judge_all v (with_more p part)) (λ q. judge_all v (with_more q (joined parts)))
      go (refuse r) is next = rw is
      go (goes_on q) is next = rw is (next q (rests (with_more p part) q is))

pub cut-free : CutFree
cut-free v c parts = fed-joined v parts (record { connection = c; flight = silence; master = None; left = [] }) (unfold judge_bytes in refl)
