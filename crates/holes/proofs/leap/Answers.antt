-- `holes::leap` meets its contract. Assumes nothing.
use Rattle.holes.proofs.HoleLaws.{leap_fills}
use Rattle.std.proofs.Common.{rules}
use Rattle.holes.proofs.leap.Goals as goal

pub returns : goal.returns
returns c = search (rules, leap_fills)
