-- `c_interface::secrets::tn_master`: what it answers is a code.
use Rattle.std.proofs.Common.{◌≡◌, Ok}
use Rattle.sha256.specs.Report.{said}
use Rattle.c_interface.proofs.Answers.{answer-count-small}
use Rattle.c_interface.proofs.Sizes.{master-small}
use Rattle.c_interface.proofs.secrets.tn_master.Goals as goal

pub of_answer-requires : goal.of_answer-requires
of_answer-requires c =
    let a = c.args in
    let wrote : said c.master.result ≡ Ok c.in-Ok.done.len = rw c.in-Ok.is in
    rw wrote at (answer-count-small c.master.ensures.answers (master-small a.premaster.now a.client.now a.server.now))
