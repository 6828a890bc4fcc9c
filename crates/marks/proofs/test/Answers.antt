-- `marks::test` meets its contract. Assumes nothing.
use Rattle.std.proofs.Common.{rules}
use Rattle.marks.proofs.Bytes.{read_mark}
use Rattle.marks.proofs.test.Goals as goal

pub returns : goal.returns
returns c = search (rules, read_mark)
