-- `client::exchange::two`: the second message stands behind the first.
-- Assumes nothing.
use Rattle.std.proofs.Common.{rules, arith, ◌≡◌, refl, length}
use lib.ListN.{length-append}
use Rattle.refusal.proofs.Laws.{answer-in-front}
use Rattle.client.proofs.Exchanges.{two-sent}
use Rattle.client.proofs.exchange.two.Goals as goal

pub returns : goal.returns
returns c =
    let first = c.args.first.now in
    let second = c.args.second.now in
    let size : length second ≡ 16 = search rules in
    two-sent first second _ _ (length first) refl c.requires.0 c.requires.1 size
    (answer-in-front c.two.ensures (simp length-append (omega (arith, c.requires.1, size))))
