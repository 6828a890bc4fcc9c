-- `filling::in_order` meets its contract. Assumes nothing.
use Rattle.filling.proofs.FillLaws.{fast_fills}
use Rattle.std.proofs.Common.{rules}
use Rattle.filling.proofs.in_order.Goals as goal

pub returns-then-s : goal.returns-then-s
returns-then-s c = search (rules, fast_fills)
