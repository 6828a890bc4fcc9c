-- `holes::follow` meets its contract. Assumes nothing.
use Rattle.holes.proofs.HoleLaws.{hole_fills, tail_fills}
use Rattle.std.proofs.Common.{rules}
use Rattle.holes.proofs.follow.Goals as goal

pub returns-then-low-s : goal.returns-then-low-s
returns-then-low-s c = search (rules, tail_fills)

pub returns : goal.returns
returns c = search (rules, hole_fills)
