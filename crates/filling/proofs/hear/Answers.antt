-- `filling::hear` meets its contract. Assumes nothing.
use Rattle.std.proofs.Common.{rules}
use Rattle.filling.proofs.FillLaws.{hears_end, hears_none}
use Rattle.filling.proofs.hear.Goals as goal

pub returns-then-e-eq1 : goal.returns-then-e-eq1
returns-then-e-eq1 c = search (rules, hears_end)

pub returns : goal.returns
returns c = search (rules, hears_none)
