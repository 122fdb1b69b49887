-- `keys::premaster_bytes`: four copies, each behind the last, by `premaster-parts`.
use Rattle.std.proofs.Common.{length, replicate, take}
use Rattle.lists.proofs.Parts.{take-replicate}
use Rattle.keys.proofs.PremasterParts.{premaster-parts}
use Rattle.keys.proofs.premaster_bytes.Goals as goal

pub returns : goal.returns
returns c =
    let psk = c.args.psk.now in
    premaster-parts psk c.bytes-size.result (take (length psk) (replicate 64 0))
    c.append.new.buffer
    c.append-2.new.buffer
    c.append-3.new.buffer
    c.append-4.new.buffer
    c.bytes-size.ensures
    (take-replicate 64 (length psk) 0 c.requires)
    c.append.ensures
    c.append-2.ensures
    c.append-3.ensures
    c.append-4.ensures
