-- `client::exchange::exchanged`: the key is as long as it is counted, and its master secret fills its array.
-- Assumes nothing.
use Rattle.std.proofs.Common.{arith, ◌≡◌, ◌∙◌, refl, sym, ap, ℕ, List, Ok, Err}
use Rattle.refusal.specs.Lent.{Outcome}
use Rattle.refusal.proofs.Laws.{sized-gives, sized-refuses}
use Rattle.keys.specs.Counts.{master_under_blocks}
use Rattle.keys.specs.Secrets.{master_under}
use Rattle.keys.proofs.Lengths.{master-under-sized}
use Rattle.sha256.specs.Report.{said}
use Rattle.handshake.proofs.Decisions.{same_step}
use Rattle.client.specs.declared.Connection.{Connection}
use Rattle.client.specs.Connection.{key_of}
use Rattle.client.specs.Exchange.{exchange_with, exchanged}
use Rattle.client.proofs.exchange.exchanged.Goals as goal

-- what the master secret comes to decides
decided-by : (c : Connection) (m : List ℕ) {key : List ℕ} {o : Outcome} → key ≡ key_of c.setup → master_under key c.setup.random c.server.random ≡ o
    → exchanged c m ≡ exchange_with c m o
decided-by c m same e = ap (exchange_with c m) (ap (λ (k : List ℕ). master_under k c.setup.random c.server.random) (sym same) ∙ e)

pub returns-in-Ok : goal.returns-in-Ok
returns-in-Ok c =
    let conn = c.args.c in
    let key = rw c.from.ensures at c.front-key.ensures in
    let under = c.master_under.ensures in
    let sized = master-under-sized c.front-key.result.now conn.setup.random conn.server.random in
    let wrote : said c.master_under.result ≡ Ok c.in-Ok.told.len = rw c.in-Ok.is in
    let counted = rw c.in-Ok.is at under.blocks_value in
    let number = counted ∙ ap (λ (k : List ℕ). master_under_blocks k conn.setup.random conn.server.random) key in
    same_step (decided-by conn c.args.m.now key (sized-gives _ sized refl under.answers wrote)) (rw number at c.answer.ensures)

pub returns-in-Err : goal.returns-in-Err
returns-in-Err c =
    let conn = c.args.c in
    let key = rw c.from.ensures at c.front-key.ensures in
    let sized = master-under-sized c.front-key.result.now conn.setup.random conn.server.random in
    let refused : said c.master_under.result ≡ Err c.in-Err.field-0 = rw c.in-Err.is in
    same_step (decided-by conn c.args.m.now key (sized-refuses _ sized refl c.master_under.ensures.answers refused))
    (record { means = refl; fits = omega arith; counts = refl })
