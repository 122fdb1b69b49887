-- `record_server::taking::shake`: what the bytes come to, and which of them are held.
use Rattle.std.proofs.Common.{refl}
use Rattle.server.specs.KeyExchange.{view}
use Rattle.record_server.proofs.Decisions.{refused-decides}
use Rattle.record_server.proofs.Waiting.{ends-held, refused-means, all-decides, rest-decides}
use Rattle.record_server.proofs.taking.shake.Goals as goal

pub returns-then-at-kept : goal.returns-then-at-kept
returns-then-at-kept c =
    let a = c.args in
    all-decides c.requires (ends-held c.requires (view a.table) a.c.handshake c.judge-p.ensures) c.in-Waits.is c.if-at-kept.true c.progressed.ensures

pub returns-else-at-kept : goal.returns-else-at-kept
returns-else-at-kept c =
    let a = c.args in
    rest-decides c.requires (ends-held c.requires (view a.table) a.c.handshake c.judge-p.ensures) c.if-at-kept.false c.in-Waits.is c.progressed-in-Waits.ensures

pub returns-in-Refused : goal.returns-in-Refused
returns-in-Refused c =
    let a = c.args in
    refused-decides refl (refused-means c.requires (ends-held c.requires (view a.table) a.c.handshake c.judge-p.ensures) a.c c.in-Refused.is)
