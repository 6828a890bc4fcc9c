-- `endpoint::sluice_datagram` meets its contract. Assumes nothing.
use Rattle.std.proofs.Common.{rules, refl}
use Rattle.refusals.specs.Refusals.{row_of}
use Rattle.endpoint.specs.HeardLaws.{hear_refused, hear_done}
use Rattle.endpoint.proofs.sluice_datagram.Goals as goal

pub returns-in_err-hear_row : goal.returns-in_err-hear_row
returns-in_err-hear_row c = hear_refused c.in_ok-ready.ensures refl (row_of c.from_residual-in_err-hear_row.result) (search rules) (search rules) refl

pub returns : goal.returns
returns c = hear_done c.in_ok-ready.ensures refl _ c.in_ok-hear_row.ensures refl c.hear.ensures refl
