-- `filling::beyond` meets its contract. Assumes nothing.
use Rattle.filling.proofs.FillLaws.{extend_fills}
use Rattle.std.proofs.Common.{rules}
use Rattle.filling.proofs.beyond.Goals as goal

pub returns-then-p-s : goal.returns-then-p-s
returns-then-p-s c = search (rules, extend_fills)
