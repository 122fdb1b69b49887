-- `record_server::taking::decide_content`: the tests on what the record holds, and then what that comes to.
use Rattle.std.proofs.Common.{rules, ◌≡◌, ◌∙◌, refl, ap, ℕ, take, Err, Some}
use Rattle.server.specs.KeyExchange.{view}
use Rattle.record_server.specs.Taking.{one_more, silently}
use Rattle.record_server.proofs.Decisions.{same_step, refused-decides}
use Rattle.record_server.proofs.Waiting.{as_lent, behind-tests, length-content}
use Rattle.record_server.proofs.taking.decide_content.Goals as goal

pub returns-in_err-test_content : goal.returns-in_err-test_content
returns-in_err-test_content c =
    let a = c.args in
    let told : c.from_residual.result ≡ Err c.in_err-test_content.field-0.0 = search rules in
    refused-decides told
    (behind-tests (view a.table) a.c c.requires c.is_complete-complete.ensures c.test_content.ensures c.in_err-test_content.was refl)

pub returns-in-ApplicationData : goal.returns-in-ApplicationData
returns-in-ApplicationData c =
    let a = c.args in
    let held = take a.kept a.memory.now in
    same_step
    (behind-tests (view a.table) a.c c.requires c.is_complete-complete.ensures c.test_content.ensures c.in_ok-test_content.was c.in-ApplicationData.is
    ∙ ap (λ (m : ℕ). silently (one_more a.c) held (Some m)) (length-content c.requires))
    (rw c.one_more.ensures at (c.silent.ensures a.memory.now held a.received.now))

pub returns-in-Alert : goal.returns-in-Alert
returns-in-Alert c =
    let a = c.args in
    same_step
    (behind-tests (view a.table) a.c c.requires c.is_complete-complete.ensures c.test_content.ensures c.in_ok-test_content.was c.in-Alert.is)
    (rw (as_lent a.n) at (c.hear.ensures a.memory.now (take a.kept a.memory.now) a.received.now))

pub returns-in-ChangeCipherSpec : goal.returns-in-ChangeCipherSpec
returns-in-ChangeCipherSpec c =
    let a = c.args in
    same_step
    (behind-tests (view a.table) a.c c.requires c.is_complete-complete.ensures c.test_content.ensures c.in_ok-test_content.was c.in-ChangeCipherSpec.is)
    (c.change.ensures _ _ _)

pub returns-in-Handshake : goal.returns-in-Handshake
returns-in-Handshake c =
    let a = c.args in
    same_step
    (behind-tests (view a.table) a.c c.requires c.is_complete-complete.ensures c.test_content.ensures c.in_ok-test_content.was c.in-Handshake.is)
    c.shake.ensures
