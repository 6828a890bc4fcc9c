-- `endpoint_c::done` meets its contract. Assumes nothing.
use Rattle.std.proofs.Common.{refl}
use Rattle.endpoint.specs.Answer.{answer_of}
use Rattle.endpoint_c.proofs.done.Goals as goal

pub returns-in-Ok : goal.returns-in-Ok
unfolding answer_of
returns-in-Ok c = rw c.in-Ok.is refl
