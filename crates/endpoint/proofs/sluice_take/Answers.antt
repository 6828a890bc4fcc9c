-- `endpoint::sluice_take` meets its contract. Assumes nothing.
use Rattle.std.proofs.Common.{rules, refl}
use Rattle.endpoint.specs.OutcomeLaws.{take_done}
use Rattle.endpoint.proofs.sluice_take.Goals as goal

pub returns-clause-takes : goal.returns-clause-takes
returns-clause-takes c = λ e. take_done c.in_ok-ready.ensures refl c.scalars_in-before.ensures c.take-after.ensures (search rules) refl
