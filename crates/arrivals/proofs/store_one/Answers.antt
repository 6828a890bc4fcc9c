-- `arrivals::store_one` meets its contract. Assumes nothing.
use Rattle.std.proofs.Common.{rules}
use Rattle.arrivals.proofs.StepsLaws.{stored_set}
use Rattle.arrivals.proofs.store_one.Goals as goal

pub returns : goal.returns
returns c = search (rules, stored_set)
