-- `record_server::progress::judge_whole`: what is all there goes through the server's step.
use Rattle.std.proofs.Common.{◌+◌, ◌-◌, ◌≤◌, ◌++◌, ℕ, List, arith, length, drop}
use lib.ListN.{length-append, length-drop}
use Rattle.server.specs.KeyExchange.{view}
use Rattle.record_server.proofs.Courses.{goes-accepted, goes-rejected}
use Rattle.record_server.proofs.progress.judge_whole.Goals as goal

there : (held content : List ℕ) (at size : ℕ) → size ≤ length held + length content - at → size ≤ length (drop at (held ++ content))
there held content at size h = simp (length-drop, length-append) h

pub returns-in-Ok : goal.returns-in-Ok
returns-in-Ok c =
    let a = c.args in
    let room = there a.held.now a.content.now a.p.at a.size (omega arith) in
    rw c.advance.ensures
    (goes-accepted (view a.table) (length a.held.now) (a.held.now ++ a.content.now) a.p c.requires.sound a.size
    c.requires.le_size.0 c.requires.le_size.2 room c.decide_at.ensures c.in-Ok.is)

pub returns-in-Err : goal.returns-in-Err
returns-in-Err c =
    let a = c.args in
    let room = there a.held.now a.content.now a.p.at a.size (omega arith) in
    rw c.on_course-in-Err.ensures
    (goes-rejected (view a.table) (length a.held.now) (a.held.now ++ a.content.now) a.p c.requires.sound a.size
    c.requires.le_size.0 c.requires.le_size.2 room c.decide_at.ensures c.in-Err.is)
