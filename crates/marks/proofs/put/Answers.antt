-- `marks::put` meets its contract. Assumes nothing.
use Rattle.std.proofs.Common.{arith}
use Rattle.marks.proofs.Bytes.{put_set, put_clear}
use Rattle.marks.proofs.put.Goals as goal

pub returns-then-v : goal.returns-then-v
returns-then-v c = rw c.if-v.true (put_set (omega arith) c.byte-i.ensures)

pub returns-else-v : goal.returns-else-v
returns-else-v c = rw c.if-v.false (put_clear (omega arith) c.byte-i.ensures)
