-- `taking::take` meets its contract. Assumes nothing.
use Rattle.std.proofs.Common.{arith, length-take, rules}
use Rattle.taking.proofs.TakeLaws.{takes}
use Rattle.taking.proofs.take.Goals as goal

pub returns : goal.returns
returns c = takes (search rules) c.ring_get.ensures (omega arith) (simp length-take (omega arith))
