-- `window::marked` meets its contract. Assumes nothing.
use Rattle.std.proofs.Common.{ap, not, eqb}
use Rattle.std.specs.Int.Bits.{and_mask}
use Rattle.laws.specs.Bits.{bit}
use Rattle.window.specs.Marks.{mark}
use Rattle.window.proofs.marked.Goals as goal

pub returns : goal.returns
unfolding bit mark
returns c = ap (λ v. not (eqb v 0)) (and_mask _ 1)
