-- `endpoint_c::sluice_take` meets its contract. Assumes nothing.
use Rattle.std.proofs.Common.{rules}
use Rattle.std.specs.Int.{w64}
use Rattle.std.proofs.lemmas.Int.{to_z-of_z}
use Rattle.endpoint.specs.AnswerLaws.{value_is}
use Rattle.endpoint_c.proofs.sluice_take.Goals as goal

pub returns-in-Ok : goal.returns-in-Ok
returns-in-Ok c = rw (value_is c.in-Ok.bytes c.in-Ok.ensures.small, c.from.ensures) (c.in-Ok.ensures.takes c.args.ended.now)

pub returns-in-Err : goal.returns-in-Err
returns-in-Err c = rw (to_z-of_z w64 c.minus.result (search rules), c.minus.ensures) (c.in-Err.ensures.takes c.args.ended.now)
