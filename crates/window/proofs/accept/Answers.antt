-- `window::accept` meets its contract. Assumes nothing.
use Rattle.std.proofs.Common.{rules}
use Rattle.window.proofs.MarksLaws.{marked_accepts}
use Rattle.window.proofs.Steps.{starts, cleared_none, cleared_more, accepted_above, accepted_within}
use Rattle.window.proofs.accept.Goals as goal

pub returns-then-p-h : goal.returns-then-p-h
returns-then-p-h c = marked_accepts _ _ _ _ _ (search (rules, accepted_within)) (search rules) (search rules)

pub loop-q-init : goal.loop-q-init
loop-q-init c = (search (rules, starts), cleared_none _ _ _)

pub loop-q-preserved : goal.loop-q-preserved
loop-q-preserved c = (search rules, search (rules, cleared_more))

pub returns : goal.returns
returns c = marked_accepts _ _ _ _ _ (search (rules, accepted_above)) (search rules) (search rules)
