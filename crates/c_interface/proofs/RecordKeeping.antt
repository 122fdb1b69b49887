-- From what a call on a record connection said to the code that comes back, to the connection's bytes and to what the next call reads there.
-- Assumes nothing.
use mathlib.Core.Path.{◌≡◌, refl, sym, ap, ◌∙◌}
use Prim.Native.Nat.{ℕ, ◌<◌, ◌^◌}
use mathlib.Core.Bool.{Bool, true, false, cond, ◌&&◌, true≢false}
use mathlib.Core.List.{List, ◌∷◌}
use lib.ListN.{length}
use lib.Dec.{leb}
use lib.IntN.{ℤ}
use lib.Signed.{mag}
use mir.Syntax.{w32}
use mir.Val.{to_z, of_z}
use Rattle.std.specs.Prelude.{Result, Ok, Err, Option, None, Some, is_some, is_ok}
use Rattle.refusal.specs.declared.Refusal.{Refusal}
use Rattle.refusal.specs.declared.Refusal.TheVariants.{ShortOutput}
use Rattle.refusal.specs.Table.{to_peer, number_of}
use Rattle.refusal.specs.Lent.{Outcome, gives, refuses, within, answer}
use Rattle.handshake.specs.declared.Answer.{Answer}
use Rattle.handshake.specs.declared.Derived.{Derived}
use Rattle.handshake.specs.Step as Shared
use Rattle.handshake.specs.Step.{answered}
use Rattle.server.specs.KeyExchange.{View}
use Rattle.server.specs.Connection.{Settings, start_answer}
use Rattle.record_server.specs.declared.RecordConnection.{RecordConnection}
use Rattle.record_server.specs.declared.Taken.{Taken}
use Rattle.record_server.specs.Connection.{closed_with, closing_alert, after_refusal, record_start}
use Rattle.record_server.specs.Sending.{settled, next_after}
use Rattle.record_server.specs.Taking as Taking
use Rattle.record_server.specs.Taking.{Step, Settled, refuse, accept, refused, front, take_call, take_step, taken}
use Rattle.record_server.proofs.Settling.{alerts-close}
use Rattle.saved_records.specs.Saved.{saved, restored}
use Rattle.c_interface.specs.Codes.{coded}
use Rattle.c_interface.specs.Records.{KeepsRecord, data_fields, told_after}
use Rattle.c_interface.specs.Inner.{count}
use Rattle.c_interface.proofs.Answers.{answer-count-small}
use Rattle.c_interface.proofs.Sizes.{Small}
use Rattle.c_interface.proofs.Keeping.{read_after, KeptAs, closed-read, start-count, call-keeps}

-- ---- what the bytes stand for

refused-read : (r : Refusal) (c : RecordConnection) → cond (to_peer r) (after_refusal r c) c ≡ after_refusal r c
refused-read r c = closed-read (to_peer r) (closed_with (closing_alert c.writing (number_of r))) c (alerts-close r c)

sent-read : (c next : RecordConnection) (o : Outcome) → read_after (answer o) (next_after c next o) c ≡ next_after c next o
sent-read c next (gives b) = refl
sent-read c next (refuses r) = refused-read r c

took-read : (c : RecordConnection) (out memory : List ℕ) (step : Step)
    → read_after (Taking.settled c out memory step).said (Taking.settled c out memory step).next c ≡ (Taking.settled c out memory step).next
took-read c out memory (refuse r) = refused-read r c
took-read c out memory (accept a) = go (leb (length a.answer) (length out) && leb (length a.held) (length memory))
  where
    wrote : Settled
    wrote =
        record {
          said = Ok (length a.answer);
          next = a.next;
          out = front a.answer out;
          memory = front a.held memory;
          master = a.master;
          holds = a.holds;
        }

    go : (t : Bool) →
        let s = cond t wrote (refused c out memory ShortOutput) in
        read_after s.said s.next c ≡ s.next
    go true = refl
    go false = refused-read ShortOutput c

-- ---- start

pub record-start-count : (s : Settings) {a : Answer RecordConnection} → a ≡ record_start s → count a.said < 2 ^ 31
record-start-count s e = rw e (start-count s {a = start_answer s} refl)

-- ---- a call that sends, on the connection that was restored

module _ (bytes out : List ℕ) (next : RecordConnection → RecordConnection) (wanted : RecordConnection → Outcome) where
  abbrev pub sent_on : RecordConnection → Shared.Settled RecordConnection
  sent_on x = settled x (next x) out (wanted x)

  pub sent-count : (c : RecordConnection) {a : Answer RecordConnection} → a ≡ answered (sent_on c) → Small (wanted c) → count a.said < 2 ^ 31
  sent-count c e small =
      answer-count-small {wanted = wanted c} {out = out} (record { told = ap (λ (y : Answer RecordConnection). y.said) e; left = refl }) small

  pub sent-keeps : {c : RecordConnection} {a : Answer RecordConnection} {out' bytes' : List ℕ} {result : ℤ} → c ≡ restored bytes
      → (a ≡ answered (sent_on c)) × (out' ≡ (sent_on c).out) → mag result < 2 ^ 31 → result ≡ coded a.said
      → KeptAs saved restored a.said a.next bytes bytes'
      → KeepsRecord (sent_on (restored bytes)).said (sent_on (restored bytes)).next bytes (to_z w32 (of_z w32 result)) bytes'
      × (out' ≡ (sent_on (restored bytes)).out)
  sent-keeps same e fits told kept =
      let now = restored bytes in (
        call-keeps (ap (λ (y : Answer RecordConnection). y.said) e.0 ∙ ap (λ (x : RecordConnection). (sent_on x).said) same)
            (ap (λ (y : Answer RecordConnection). y.next) e.0 ∙ ap (λ (x : RecordConnection). (sent_on x).next) same) fits told kept
            (sent-read now (next now) (within (length out) (wanted now))),
        e.1 ∙ ap (λ (x : RecordConnection). (sent_on x).out) same,
      )

-- ---- a record that was taken

module _ (s : Settled) where
  pub taken-parts : {t : Taken} → t ≡ taken s → (t.said ≡ s.said) × (t.next ≡ s.next) × (t.holds ≡ s.holds) × (t.handed ≡ s.master)
  taken-parts e =
      (ap (λ (t : Taken). t.said) e, ap (λ (t : Taken). t.next) e, ap (λ (t : Taken). t.holds) e, ap (λ (t : Taken). t.handed) e)

  -- the four numbers
  pub told-accepted : (told : List ℕ) {t : Taken} {told' : List ℕ} → t ≡ taken s → is_ok t.said ≡ true
      → told' ≡ cond (is_some t.handed) 1 0 ∷ data_fields t.holds → told' ≡ told_after s.said s told
  told-accepted told e wrote f =
      let p = taken-parts e in
      f ∙ rw (p.2, p.3) (of-said s.said (rw p.0 at wrote) s.master)
    where
      of-said : (r : Result ℕ Refusal) → is_ok r ≡ true → (o : Option Derived) → cond (is_some o) 1 0 ∷ data_fields s.holds ≡ told_after r (record { said = s.said; next = s.next; out = s.out; memory = s.memory; master = o; holds = s.holds }) told
      of-said (Ok n) t None = refl
      of-said (Ok n) t (Some d) = refl
      of-said (Err r) t o = absurd (true≢false (sym t))

  pub told-refused : (told : List ℕ) {t : Taken} {told' : List ℕ} → t ≡ taken s → is_ok t.said ≡ false → told' ≡ told
      → told' ≡ told_after s.said s told
  told-refused told e r f = f ∙ of-said s.said (rw (taken-parts e).0 at r)
    where
      of-said : (r : Result ℕ Refusal) → is_ok r ≡ false → told ≡ told_after r s told
      of-said (Ok n) t = absurd (true≢false t)
      of-said (Err r) t = refl

module _ (v : View) (bytes received memory out : List ℕ) where
  pub took-keeps : {t : Taken} {bytes' : List ℕ} {result : ℤ} → t ≡ taken (take_call v (restored bytes) received memory out) → mag result < 2 ^ 31
      → result ≡ coded t.said → KeptAs saved restored t.said t.next bytes bytes'
      → KeepsRecord (take_call v (restored bytes) received memory out).said (take_call v (restored bytes) received memory out).next bytes
      (to_z w32 (of_z w32 result)) bytes'
  took-keeps e fits told kept =
      let now = restored bytes in
      let s = take_call v now received memory out in
      let p = taken-parts s e in
      call-keeps p.0 p.1 fits told kept (took-read now out memory (take_step v now memory received))
