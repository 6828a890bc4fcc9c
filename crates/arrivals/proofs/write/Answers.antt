-- `arrivals::write` meets its contract. Assumes nothing.
use Rattle.arrivals.proofs.StepsLaws.{put_written}
use Rattle.std.proofs.Common.{rules}
use Rattle.arrivals.proofs.write.Goals as goal

pub returns : goal.returns
returns c = search (rules, put_written)
