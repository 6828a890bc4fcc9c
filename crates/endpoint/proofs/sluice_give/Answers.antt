-- `endpoint::sluice_give` meets its contract. Assumes nothing.
use Rattle.std.proofs.Common.{refl}
use Rattle.endpoint.specs.OutcomeLaws.{give_done}
use Rattle.endpoint.proofs.sluice_give.Goals as goal

pub returns-clause-gives : goal.returns-clause-gives
returns-clause-gives c = give_done c.in_ok-ready.ensures refl c.give.ensures refl
