-- `sha256::hash`: a fresh state absorbs the message and is finished, by `finish-absorbed`.
use Rattle.sha256.proofs.Finish.{finish-absorbed}
use Rattle.sha256.proofs.hash.Goals as goal

pub returns : goal.returns
returns c = rw (c.update.ensures, c.new.ensures, finish-absorbed c.args.message.now) at c.finish.ensures
