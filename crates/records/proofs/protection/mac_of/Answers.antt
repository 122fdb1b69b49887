-- `records::protection::mac_of`: HMAC gave the MAC over the head that the code built and the content.
use Rattle.std.proofs.Common.{rules, ◌≡◌, length}
use Rattle.records.proofs.Macs.{mac-given}
use Rattle.records.proofs.protection.mac_of.Goals as goal

pub returns : goal.returns
returns c =
    let a = c.args in
    let key : length a.key ≡ 32 = search rules in
    let front : length a.front ≡ 3 = search rules in
    mac-given a.key a.sequence a.front a.content.now key front c.requires c.bytes-number.ensures c.bytes-size.ensures c.hmac_of_two.ensures
