-- `endpoint::sluice_tick` meets its contract. Assumes nothing.
use Rattle.std.proofs.Common.{rules, refl}
use Rattle.refusals.specs.Refusals.{row_of}
use Rattle.endpoint.specs.Answer.{answer_of}
use Rattle.endpoint.specs.AnswerLaws.{refused_answer}
use Rattle.endpoint.specs.TickedLaws.{tick_unready, tick_refused, tick_ready, tick_done}
use Rattle.endpoint.proofs.sluice_tick.Goals as goal

pub returns-in_err-ready-clause-ticks : goal.returns-in_err-ready-clause-ticks
returns-in_err-ready-clause-ticks c = tick_unready _ _ _ _ (row_of c.from_residual.result) (search rules) (search rules) (refused_answer _ (search rules))

pub returns-in_err-output_row-clause-ticks : goal.returns-in_err-output_row-clause-ticks
returns-in_err-output_row-clause-ticks c = tick_refused _ _ _ _ _ c.in_ok-ready.ensures refl (row_of c.from_residual-in_err-output_row.result) (search rules) (search rules) (refused_answer _ (search rules))

pub tick_end-requires : goal.tick_end-requires
tick_end-requires c = tick_ready _ _ _ (answer_of 0 0) _ c.in_ok-ready.ensures refl _ c.in_ok-output_row.ensures refl

pub returns-clause-ticks : goal.returns-clause-ticks
returns-clause-ticks c = tick_done _ _ _ _ _ c.in_ok-ready.ensures refl _ c.in_ok-output_row.ensures refl c.tick_end.ensures refl
