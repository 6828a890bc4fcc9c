-- `marks::put_bytes` meets its contract. Assumes nothing.
use Rattle.std.proofs.Common.{rules, arith}
use Rattle.marks.proofs.Bytes.{marked_bytes}
use Rattle.marks.proofs.put_bytes.Goals as goal

pub returns : goal.returns
returns c = marked_bytes (omega arith) (search rules) c.requires.straight c.byte-at.ensures (search rules)
