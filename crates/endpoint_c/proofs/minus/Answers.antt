-- `endpoint_c::minus` meets its contract. Assumes nothing.
use Rattle.std.proofs.Common.{ap, ◌∙◌, rules}
use Rattle.endpoint.specs.Answer.{answer_of}
use Rattle.endpoint.specs.AnswerLaws.{refusal_is}
use Rattle.endpoint_c.proofs.minus.Goals as goal

pub returns : goal.returns
returns c = refusal_is c.from.result (search rules) ∙ ap (λ n. answer_of n 0) c.from.ensures
