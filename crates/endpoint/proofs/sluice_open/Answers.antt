-- `endpoint::sluice_open` meets its contract. Assumes nothing.
use Rattle.std.proofs.Common.{refl}
use Rattle.endpoint.specs.OpeningLaws.{open_done}
use Rattle.endpoint.proofs.sluice_open.Goals as goal

pub returns : goal.returns
returns c = open_done c.in_ok-open_row.ensures refl c.open_end.ensures refl
