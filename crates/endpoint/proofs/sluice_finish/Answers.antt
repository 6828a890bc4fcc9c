-- `endpoint::sluice_finish` meets its contract. Assumes nothing.
use Rattle.std.proofs.Common.{refl}
use Rattle.endpoint.specs.OutcomeLaws.{finish_done}
use Rattle.endpoint.proofs.sluice_finish.Goals as goal

pub returns : goal.returns
returns c = finish_done c.in_ok-ready.ensures refl c.finish.ensures refl
