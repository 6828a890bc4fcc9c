-- `output::send_data` meets its contract. Assumes nothing.
use Rattle.output.proofs.Data.{sent_data}
use Rattle.output.proofs.send_data.Goals as goal

pub returns : goal.returns
returns c = sent_data _ _ _ _ _ _ c.from.ensures c.from-2.ensures c.size-length.ensures c.put_data.ensures
