-- `output::send_probe` meets its contract. Assumes nothing.
use Rattle.output.proofs.Data.{sent_probe}
use Rattle.output.proofs.send_probe.Goals as goal

pub returns : goal.returns
returns c = sent_probe _ _ _ c.from.ensures c.write.ensures
