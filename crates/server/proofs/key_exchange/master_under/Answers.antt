-- `server::key_exchange::master_under`: a key of 1 to 64 bytes has a master secret, which fills its array.
use Rattle.std.proofs.Common.{rules, ◌≡◌, length}
use Rattle.refusal.proofs.Laws.{whole-gives}
use Rattle.keys.proofs.Lengths.{master-under-given}
use Rattle.keys.proofs.Reports.{reported-whole}
use Rattle.server.proofs.key_exchange.master_under.Goals as goal

pub returns : goal.returns
returns c =
    let conn = c.args.c in
    let own : length conn.setup.random ≡ 32 = search rules in
    let client : length conn.client.random ≡ 32 = search rules in
    let given = master-under-given c.args.key.now conn.client.random conn.setup.random c.requires.0 c.requires.1 client own in
    let told = c.master_under-told.ensures in
    record {
      master_value = rw (whole-gives given.2 given.1 told.answers);
      blocks_value = reported-whole c.master_under-told.result given.2 given.1 told.answers told.blocks_value (search rules);
    }
