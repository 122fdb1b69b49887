-- `record_server::progress::decide_at`: a message behind what is held is a part of the content; of the first one the two parts stand at the front of the
-- array, one behind the other.
use Rattle.std.proofs.Common.{rules, ◌≡◌, ◌+◌, ◌-◌, ◌≤◌, ◌++◌, ◌∙◌, ℕ, List, Result, arith, ap, sym, length, take}
use mathlib.Core.Path.{subst}
use mathlib.Core.Logic.{⊎_elim}
use lib.Seq.{length-take-le}
use borrow.Rule.Slice.PartMut.{put_mid}
use Rattle.server.specs.declared.Connection.{Connection}
use Rattle.refusal.specs.declared.Refusal.{Refusal}
use Rattle.handshake.specs.declared.Decision.{Decision}
use Rattle.server.specs.KeyExchange.{View, view}
use Rattle.server.specs.Message.{message_step, blocks_in}
use Rattle.handshake.specs.Decision.{Decides}
use Rattle.record_server.proofs.Places.{behind-held, over-seam, joined-front}
use Rattle.record_server.proofs.progress.decide_at.Goals as goal

-- what is decided for a message is decided for the same message
same-message : (v : View) (c : Connection) {d : Result (Decision Connection) Refusal} {m n : List ℕ} → m ≡ n → Decides d (message_step v c n c.phase) (blocks_in v c n c.phase)
    → Decides d (message_step v c m c.phase) (blocks_in v c m c.phase)
same-message v c {d} e h = subst (λ (m : List ℕ). Decides d (message_step v c m c.phase) (blocks_in v c m c.phase)) (sym e) h

pub returns-then-kept-at : goal.returns-then-kept-at
returns-then-kept-at c =
    let a = c.args in
    same-message (view a.table) a.c
    (behind-held a.held.now a.content.now a.at a.end (omega arith) (omega arith)) c.decide.ensures

pub returns : goal.returns
returns c =
    let a = c.args in
    let held = a.held.now in
    let content = a.content.now in
    let kept = length held in
    -- what is held is no message but the first, and all that is left of it is in the content
    let alone : (a.at ≡ 0) × (kept ≤ a.end) = ⊎_elim (λ first. first) (λ behind. absurd (omega arith)) c.requires.fact in
    let rest : length (take (a.end - kept) content) ≡ a.end - kept = length-take-le (a.end - kept) content (omega (arith, alone)) in
    let array : length c.copy.new.dst ≡ 16384 = c.copy.auto.dst in
    let end : a.end ≡ kept + (a.end - kept) = omega (arith, alone) in
    let message : take a.end (put_mid kept (16384 - kept) c.copy.new.dst c.copy-2.new.dst) ≡ held ++ take (a.end - kept) content =
    ap (λ (n : ℕ). take n (put_mid kept (16384 - kept) c.copy.new.dst c.copy-2.new.dst)) end
    ∙ joined-front held (take (a.end - kept) content) _ c.copy.new.dst c.copy-2.new.dst kept (a.end - kept) 16384
    (sym array) c.copy.ensures.1 (search rules) rest c.copy-2.ensures.1 in
    same-message (view a.table) a.c (over-seam held content a.at a.end alone.0 alone.1) (rw (← message) c.decide-2.ensures)
