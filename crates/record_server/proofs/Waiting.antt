-- The bytes that are held and those of a record behind them: how many there are, and what is left of them that waits for the rest of a message.
-- Assumes nothing.
use mathlib.Core.Path.{◌≡◌, refl, sym, ap, ◌∙◌}
use Prim.Native.Nat.{ℕ, zero, suc, ◌+◌, ◌-◌, ◌≤◌, ◌<◌}
use native.Mathlib.Omega.{arith}
use mathlib.Core.Bool.{Bool, not}
use mathlib.Core.List.{List, [], ◌∷◌, ◌++◌}
use mathlib.Core.Logic.{⊎_elim}
use lib.ListN.{length, take, drop, length-append, length-drop}
use lib.Seq.{length-take-le, take-add, drop_at, drop-drop, drop-append-add}
use lib.Dec.{eqb}
use borrow.Author.Tests.{ne_eqb}
use Rattle.std.specs.Prelude.{Option, Result, Ok}
use Rattle.lists.specs.Lists.{part}
use Rattle.lists.proofs.Parts.{length_part}
use Rattle.refusal.specs.declared.Refusal.{Refusal}
use Rattle.server.specs.declared.Phase.{Phase}
use Rattle.server.specs.declared.Connection.{Connection}
use Rattle.server.specs.KeyExchange.{View}
use Rattle.records.specs.declared.ContentType.{ContentType}
use Rattle.record_server.specs.declared.RecordConnection.{RecordConnection}
use Rattle.record_server.specs.declared.progress.Progress as Code
use Rattle.record_server.specs.declared.progress.Course.{Course}
use Rattle.record_server.specs.declared.taking.Put.{Put}
use Rattle.record_server.specs.declared.taking.Decided.{Decided}
use Rattle.record_server.specs.Connection.{is_complete}
use Rattle.record_server.specs.Joining.{Judged, goes_on, is_empty, judged}
use Rattle.record_server.specs.Taking.{refuse, content_test, content_step, content_decided, after_test, handshake_step}
use Rattle.record_server.specs.InnerProgress.{Ends, progress_of}
use Rattle.record_server.specs.InnerTaking.{put_at, held_by, Within, Decides, Holds, Progresses}

-- the content of n bytes, as it is lent
pub as_lent : (n : ℕ) → 5 + n - 5 ≡ n
as_lent n = omega arith

-- the memory holds some where not none are kept
held-some : (memory : List ℕ) (kept : ℕ) → kept ≤ length memory → is_empty (take kept memory) ≡ eqb kept 0
held-some memory zero h = refl
held-some [] (suc n) h = absurd (omega arith)
held-some (b ∷ memory) (suc n) h = sym (ne_eqb (suc n) 0 (λ e. omega arith))

-- the tests on the content, as they are asked
pub same_test : {memory bytes : List ℕ} {kept : ℕ} {complete : Bool} (kind : ContentType) (phase : Phase) (n : ℕ) → Holds memory kept bytes n
    → complete ≡ is_complete phase
    → content_test kind complete (not (eqb kept 0)) (part 5 (5 + n - 5) bytes)
    ≡ content_test kind (is_complete phase) (not (is_empty (take kept memory))) (part 5 n bytes)
same_test {memory} {kept = kept} kind phase n holds e = rw (e, as_lent n, held-some memory kept holds.kept-inside)

-- behind the tests, by the type
pub behind-tests : (v : View) (c : RecordConnection) {memory bytes : List ℕ} {kept n : ℕ} {complete : Bool} {kind kind' : ContentType} {told verdict : Result Unit Refusal}
    → Holds memory kept bytes n → complete ≡ is_complete c.handshake.phase → told ≡ content_test kind complete (not (eqb kept 0)) (part 5 (5 + n - 5) bytes)
    → told ≡ verdict → kind ≡ kind'
    → content_decided v c (take kept memory) (part 5 n bytes) kind ≡ after_test verdict (content_step v c (take kept memory) (part 5 n bytes) kind')
behind-tests v c {memory} {bytes} {kept} {n} {kind = kind} {verdict = verdict} holds whole tested e k =
    let step = content_step v c (take kept memory) (part 5 n bytes) in
    ap (λ (t : Result Unit Refusal). after_test t (step kind)) (sym (tested ∙ same_test kind c.handshake.phase n holds whole) ∙ e)
    ∙ ap (λ (t : ContentType). after_test verdict (step t)) k

-- what is left behind the seam is the record's
left_behind : (held bytes : List ℕ) (n from : ℕ) → from ≤ n → 5 + n ≤ length bytes
    → drop (length held + from) (held ++ part 5 n bytes) ≡ part (5 + from) (n - from) bytes
left_behind held bytes n from few inside =
    let content : List ℕ = drop 5 bytes in
    let room : from ≤ length content = rw (length-drop 5 bytes) (omega arith) in
    let whole : from + (n - from) ≡ n = omega arith in
    let parts : take n content ≡ take from content ++ take (n - from) (drop from content) =
    rw (← take-add from (n - from) content, whole) in
    drop-append-add held (part 5 n bytes) from
    ∙ rw (parts, drop_at (take from content) (take (n - from) (drop from content)) from (length-take-le from content room), drop-drop from 5 bytes)

-- a decision that keeps what is left
kept-decides : {c : RecordConnection} {p : Code.Progress} {keep : Option Put} {left : ℕ} {d : Decided} {memory held bytes : List ℕ} {wanted : Judged}
    (all : List ℕ) → Progresses c p keep left d → wanted ≡ goes_on (progress_of all p) → length (drop p.at all) ≡ left
    → held_by keep memory held bytes ≡ drop p.at all → Within keep memory bytes → Decides (Ok d) memory held bytes (handshake_step c wanted)
kept-decides {c} {p} {memory = memory} {held = held} {bytes = bytes} all goes e size kept within =
    record {
      means = goes.is (progress_of all p) refl refl refl size memory held bytes kept ∙ ap (handshake_step c) (sym e);
      keeps = (goes.fits, rw goes.keeps within);
    }

module _ {memory : List ℕ} {kept : ℕ} {bytes : List ℕ} {n : ℕ} (h : Holds memory kept bytes n) where
  pub length-held : length (take kept memory) ≡ kept
  length-held = length-take-le kept memory h.kept-inside

  pub length-content : length (part 5 n bytes) ≡ n
  length-content = length_part bytes 5 n h.inside

  length-all : length (take kept memory ++ part 5 n bytes) ≡ kept + n
  length-all = length-append (take kept memory) (part 5 n bytes) ∙ rw (length-held, length-content)

  -- what was judged of the bytes as they are lent
  pub ends-held : (v : View) (c : Connection) {p : Code.Progress} → Ends (length (take kept memory)) (take kept memory ++ part 5 (5 + n - 5) bytes)
      (judged v c (take kept memory ++ part 5 (5 + n - 5) bytes)) p
      → Ends kept (take kept memory ++ part 5 n bytes) (judged v c (take kept memory ++ part 5 n bytes)) p
  ends-held v c ends = rw (length-held, as_lent n) at ends

  module _ {p : Code.Progress} {wanted : Judged} (e : Ends kept (take kept memory ++ part 5 n bytes) wanted p) where
    pub refused-means : (c : RecordConnection) {r : Refusal} → p.course ≡ Course.Refused r → handshake_step c wanted ≡ refuse r
    refused-means c g = rw (e.means, g)

    means : p.course ≡ Course.Waits → wanted ≡ goes_on (progress_of (take kept memory ++ part 5 n bytes) p)
    means w = e.means ∙ rw w

    -- the first message is not whole: all of the bytes are left
    module _ (w : p.course ≡ Course.Waits) (first : p.at < kept) where
      all_left : drop p.at (take kept memory ++ part 5 n bytes) ≡ take kept memory ++ part 5 n bytes
      all_left = let none : p.at ≡ 0 = ⊎_elim (λ z. z) (λ k. absurd (omega arith)) e.sound.apart in rw none

      pub all-decides : {c : RecordConnection} {d : Decided} → Progresses c p (put_at kept 5 n) (kept + n) d
          → Decides (Ok d) memory (take kept memory) bytes (handshake_step c wanted)
      all-decides goes = kept-decides _ goes (means w) (rw all_left length-all) (sym all_left) (h.kept-inside, h.inside)

    -- a message was judged: what is left is the record's
    module _ (behind : kept ≤ p.at) where
      pub from-few : p.at - kept ≤ n
      from-few = omega (arith, e.sound.inside, length-all)

      rest-left : drop p.at (take kept memory ++ part 5 n bytes) ≡ part (5 + (p.at - kept)) (n - (p.at - kept)) bytes
      rest-left =
          let place : kept + (p.at - kept) ≡ p.at = omega arith in
          rw (length-held, place) at (left_behind (take kept memory) bytes n (p.at - kept) from-few h.inside)

      pub rest-decides : {c : RecordConnection} {d : Decided} → p.course ≡ Course.Waits
          → Progresses c p (put_at 0 (5 + (p.at - kept)) (n - (p.at - kept))) (n - (p.at - kept)) d
          → Decides (Ok d) memory (take kept memory) bytes (handshake_step c wanted)
      rest-decides w goes =
          let inside : 5 + (p.at - kept) + (n - (p.at - kept)) ≤ length bytes = omega (arith, from-few, h.inside) in
          let size = length_part bytes (5 + (p.at - kept)) (n - (p.at - kept)) inside in
          kept-decides _ goes (means w) (rw rest-left size) (sym rest-left) (omega arith, inside)
