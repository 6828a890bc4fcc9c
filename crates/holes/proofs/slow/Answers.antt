-- `holes::slow` meets its contract. Assumes nothing.
use Rattle.holes.proofs.HoleLaws.{slow_fills}
use Rattle.std.proofs.Common.{rules}
use Rattle.holes.proofs.slow.Goals as goal

pub returns : goal.returns
returns c = search (rules, slow_fills)
