-- `endpoint_c::value` meets its contract. Assumes nothing.
use Rattle.std.proofs.Common.{rules}
use Rattle.endpoint.specs.AnswerLaws.{value_is}
use Rattle.endpoint_c.proofs.value.Goals as goal

pub returns-in-Ok : goal.returns-in-Ok
returns-in-Ok c = rw c.in-Ok.is (value_is c.in-Ok.n (search rules))
