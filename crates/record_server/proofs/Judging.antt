-- Handshake bytes are judged message by message: what the bytes that are left come to is what their first message comes to, and then the rest.
-- Assumes nothing.
use mathlib.Core.Path.{◌≡◌, refl, ap, ◌∙◌}
use Prim.Native.Nat.{ℕ, zero, suc, ◌≤◌, ◌<◌}
use native.Mathlib.Omega.{arith}
use mathlib.Core.Bool.{Bool, true, false, cond, not, ◌&&◌, and-false}
use mathlib.Core.List.{List, [], ◌∷◌}
use lib.ListN.{length, length-drop, take}
use lib.Dec.{ltb}
use borrow.Author.Tests.{ltb-false, lt-ltb, le-ltb}
use Rattle.std.specs.Prelude.{Result, Ok, Err}
use Rattle.refusal.specs.declared.Refusal.{Refusal}
use Rattle.refusal.specs.declared.Refusal.TheVariants.{UnexpectedMessage}
use Rattle.handshake.specs.Header.{early_test}
use Rattle.handshake.specs.Step as Shared
use Rattle.server.specs.KeyExchange.{View}
use Rattle.server.specs.Step.{Step}
use Rattle.server.specs.Message.{awaited, message_step}
use Rattle.records.specs.Joining.{message_end}
use Rattle.record_server.specs.Connection.{is_complete}
use Rattle.record_server.specs.Joining.{Progress, Judged, refuse, goes_on, is_empty, after_step, after_early, where_whole, judge_first, judge_bytes}
use Rattle.record_server.specs.InnerProgress.{judge_left}

-- a test that both ask
same_cond : (t : Bool) (a : Judged) {b d : Judged} → (t ≡ false → b ≡ d) → cond t a b ≡ cond t a d
same_cond true a e = refl
same_cond false a e = e refl

same-early : (t : Result Unit Refusal) {a b : Judged} → a ≡ b → after_early t a ≡ after_early t b
same-early (Ok tt) e = e
same-early (Err r) e = refl

pub is-empty : (l : List ℕ) → length l ≡ 0 → is_empty l ≡ true
is-empty [] e = refl
is-empty (b ∷ l) e = absurd (omega arith)

pub not-empty : (l : List ℕ) → (length l ≡ 0 → ⊥) → is_empty l ≡ false
not-empty [] e = absurd (e refl)
not-empty (b ∷ l) e = refl

module _ (v : View) where
  -- what judges the rest is asked only where there is less left
  module _ (f g : Progress → Judged) (p : Progress) (same : (q : Progress) → length q.left < length p.left → f q ≡ g q) where
    same_step : (end blocks : ℕ) → 4 ≤ end → end ≤ length p.left → (step : Step) → after_step f p end blocks step ≡ after_step g p end blocks step
    same_step end blocks some inside (Shared.refuse r) = refl
    same_step end blocks some inside (Shared.accept flight next) = same _ (simp length-drop (omega arith))

    same_first : judge_first v f p ≡ judge_first v g p
    same_first =
        same_cond (is_complete p.connection.phase && not (is_empty p.left)) _ (λ e.
        same_cond (ltb (length p.left) 4) _ (λ e.
        same-early (early_test (awaited p.connection.phase) p.left)
        (same_cond (ltb (length p.left) (message_end p.left)) _ (λ e.
        same_step (message_end p.left) _ (omega arith) (ltb-false (length p.left) (message_end p.left) e)
        (message_step v p.connection (take (message_end p.left) p.left) p.connection.phase)))))

  -- where nothing is left it ends
  none_left : (f : Progress → Judged) (p : Progress) → length p.left ≤ 0 → judge_first v f p ≡ goes_on p
  none_left f p few =
      let none : length p.left ≡ 0 = omega arith in
      rw (is-empty p.left none, and-false (is_complete p.connection.phase), none)

  -- any number of turns serves that is not less than the number of bytes
  turns : (n m : ℕ) (p : Progress) → length p.left ≤ n → length p.left ≤ m → judge_bytes n v p ≡ judge_bytes m v p
  unfolding judge_bytes
  turns zero zero p hn hm = refl
  turns zero (suc m) p hn hm = rw (none_left (judge_bytes m v) p hn)
  turns (suc n) zero p hn hm = none_left (judge_bytes n v) p hm
  turns (suc n) (suc m) p hn hm =
      same_first (judge_bytes n v) (judge_bytes m v) p (λ q less. turns n m q (omega arith) (omega arith))

  pub judge-left : (p : Progress) → judge_left v p ≡ judge_first v (judge_left v) p
  unfolding judge_bytes
  judge-left p =
      turns (length p.left) (suc (length p.left)) p (omega arith) (omega arith)
      ∙ same_first (judge_bytes (length p.left) v) (judge_left v) p
      (λ q less. turns (length p.left) (length q.left) q (omega arith) (omega arith))

  -- ---- by the tests, in their order

  module _ (p : Progress) where
    pub left-complete : is_complete p.connection.phase ≡ true → (length p.left ≡ 0 → ⊥) → judge_left v p ≡ refuse UnexpectedMessage
    left-complete done some = judge-left p ∙ rw (done, not-empty p.left some)

    module _ (awaits : (is_complete p.connection.phase && not (is_empty p.left)) ≡ false) where
      pub left-few : length p.left < 4 → judge_left v p ≡ goes_on p
      left-few few = judge-left p ∙ rw (awaits, lt-ltb (length p.left) 4 few)

      pub left-early : 4 ≤ length p.left → {verdict : Result Unit Refusal} → early_test (awaited p.connection.phase) p.left ≡ verdict
          → judge_left v p ≡ after_early verdict (where_whole v (judge_left v) p (message_end p.left))
      left-early some e =
          judge-left p ∙ rw (awaits, le-ltb (length p.left) 4 some)
          (ap (λ (t : Result Unit Refusal). after_early t (where_whole v (judge_left v) p (message_end p.left))) e)
