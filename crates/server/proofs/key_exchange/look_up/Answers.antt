-- `server::key_exchange::look_up`: a lookup by the table's own list finds the key of the table, or none.
use Rattle.std.proofs.Common.{refl}
use Rattle.keytable.proofs.Lookups.{key-size}
use Rattle.keytable.proofs.Listed.{looked-up-own}
use Rattle.server.proofs.Values.{key-put, key-missing}
use Rattle.server.proofs.key_exchange.look_up.Goals as goal

pub master_under-requires : goal.master_under-requires
master_under-requires c =
    let t = c.args.table in
    let i = c.args.identity.now in
    let given = rw (looked-up-own t.bytes.now _ _ c.requires i) at c.lookup.ensures in
    key-size t.bytes.now i _ (key-put t.bytes.now i _ given c.in-Ok.is).1

pub returns-in-Ok : goal.returns-in-Ok
returns-in-Ok c =
    let t = c.args.table in
    let i = c.args.identity.now in
    let given = rw (looked-up-own t.bytes.now _ _ c.requires i) at c.lookup.ensures in
    let made = c.master_under.ensures in
    rw ((key-put t.bytes.now i _ given c.in-Ok.is).1, ← made.master_value, ← made.blocks_value) c.accept.ensures

pub returns-in-Err : goal.returns-in-Err
returns-in-Err c =
    let t = c.args.table in
    let i = c.args.identity.now in
    let given = rw (looked-up-own t.bytes.now _ _ c.requires i) at c.lookup.ensures in
    rw (key-missing t.bytes.now i _ refl given c.in-Err.is) c.unlisted.ensures
