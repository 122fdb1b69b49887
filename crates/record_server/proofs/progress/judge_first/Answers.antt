-- `record_server::progress::judge_first`: the tests in their order, and the header read where it stands.
use Prim.Native.Nat.{ℕ, ◌+◌, ◌-◌, ◌<◌}
use native.Mathlib.Omega.{arith}
use mathlib.Core.Path.{◌≡◌, sym, ap, ◌∙◌}
use mathlib.Core.Bool.{false, not, ◌&&◌, and-false}
use mathlib.Core.List.{List, ◌++◌}
use lib.ListN.{length, take, drop, length-append, length-drop}
use Rattle.std.specs.Prelude.{Result, Option}
use Rattle.refusal.specs.declared.Refusal.{Refusal}
use Rattle.handshake.specs.Header.{early_test}
use Rattle.server.specs.KeyExchange.{view}
use Rattle.server.specs.Message.{awaited}
use Rattle.records.specs.Joining.{message_end}
use Rattle.record_server.specs.Connection.{is_complete}
use Rattle.record_server.specs.Joining.{is_empty}
use Rattle.record_server.specs.InnerProgress.{progress_of}
use Rattle.record_server.proofs.Judging.{is-empty, left-complete, left-few, left-early}
use Rattle.record_server.proofs.Places.{header-end, header-test}
use Rattle.record_server.proofs.Courses.{goes-refused, goes-waits}
use Rattle.record_server.proofs.progress.judge_first.Goals.{then-left-ne0+else-is_complete, else-left-ne0}
use Rattle.record_server.proofs.progress.judge_first.Goals as goal

left-size : (held content : List ℕ) (at : ℕ) → length (drop at (held ++ content)) ≡ length held + length content - at
left-size held content at = simp (length-drop, length-append)

-- the verdict on the header is that on the bytes
early : (kind : Option ℕ) (left header : List ℕ) {given verdict : Result Unit Refusal} → header ≡ take 4 left → given ≡ early_test kind header → given ≡ verdict
    → early_test kind left ≡ verdict
early kind left header h j e = sym (header-test kind left) ∙ ap (early_test kind) (sym h) ∙ sym j ∙ e

pub returns-then-is_complete : goal.returns-then-is_complete
returns-then-is_complete c =
    let v = view c.args.table in
    let bytes = c.args.held.now ++ c.args.content.now in
    let complete = sym c.is_complete.ensures ∙ c.if-is_complete.true in
    let size = left-size c.args.held.now c.args.content.now c.args.p.at in
    rw c.on_course.ensures
    (goes-refused v (length c.args.held.now) bytes c.args.p c.requires.sound
    (left-complete v (progress_of bytes c.args.p) complete (λ none. c.if-left-ne0.true (omega arith))))

pub returns-then-left-lt4 : goal.returns-then-left-lt4
returns-then-left-lt4 c =
    let v = view c.args.table in
    let bytes = c.args.held.now ++ c.args.content.now in
    let left = drop c.args.p.at bytes in
    let size = left-size c.args.held.now c.args.content.now c.args.p.at in
    let awaits : (is_complete c.args.p.connection.phase && not (is_empty left)) ≡ false =
    elim c.if-left-ne0.branch [
      | then-left-ne0+else-is_complete w ↦ rw (sym w.is_complete.ensures ∙ w.if-is_complete.false)
      | else-left-ne0 w ↦ rw (is-empty left (size ∙ w.if-left-ne0.false), and-false (is_complete c.args.p.connection.phase))
    ] in
    let few : length left < 4 = omega arith in
    rw c.on_course-then-left-lt4.ensures
    (goes-waits v (length c.args.held.now) bytes c.args.p c.requires.sound (left-few v (progress_of bytes c.args.p) awaits few) (omega arith))

pub returns-in-Ok : goal.returns-in-Ok
returns-in-Ok c =
    let v = view c.args.table in
    let bytes = c.args.held.now ++ c.args.content.now in
    let left = drop c.args.p.at bytes in
    let size = left-size c.args.held.now c.args.content.now c.args.p.at in
    let awaits : (is_complete c.args.p.connection.phase && not (is_empty left)) ≡ false =
    elim c.if-left-ne0.branch [
      | then-left-ne0+else-is_complete w ↦ rw (sym w.is_complete.ensures ∙ w.if-is_complete.false)
      | else-left-ne0 w ↦ rw (is-empty left (size ∙ w.if-left-ne0.false), and-false (is_complete c.args.p.connection.phase))
    ] in
    let tested = early (awaited c.args.p.connection.phase) left _ c.header_at-header.ensures c.judge_header.ensures c.in-Ok.is in
    let end = c.message_end.ensures ∙ ap message_end c.header_at-header.ensures ∙ header-end left in
    rw (left-early v (progress_of bytes c.args.p) awaits (omega arith) tested, ← end) c.judge_whole.ensures

pub returns-in-Err : goal.returns-in-Err
returns-in-Err c =
    let v = view c.args.table in
    let bytes = c.args.held.now ++ c.args.content.now in
    let left = drop c.args.p.at bytes in
    let size = left-size c.args.held.now c.args.content.now c.args.p.at in
    let awaits : (is_complete c.args.p.connection.phase && not (is_empty left)) ≡ false =
    elim c.if-left-ne0.branch [
      | then-left-ne0+else-is_complete w ↦ rw (sym w.is_complete.ensures ∙ w.if-is_complete.false)
      | else-left-ne0 w ↦ rw (is-empty left (size ∙ w.if-left-ne0.false), and-false (is_complete c.args.p.connection.phase))
    ] in
    let tested = early (awaited c.args.p.connection.phase) left _ c.header_at-header.ensures c.judge_header.ensures c.in-Err.is in
    rw c.on_course-in-Err.ensures
    (goes-refused v (length c.args.held.now) bytes c.args.p c.requires.sound
    (left-early v (progress_of bytes c.args.p) awaits (omega arith) tested))
