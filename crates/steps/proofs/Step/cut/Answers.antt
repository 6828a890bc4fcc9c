-- `steps::Step::cut` meets its contract. Assumes nothing.
use Rattle.steps.proofs.Cutting.{cutting_none, cutting_more, cutting_full, cutting_nothing}
use Rattle.std.proofs.Common.{rules}
use Rattle.steps.proofs.Step.cut.Goals as goal
use Rattle.steps.proofs.Step.cut.Goals.{then-kept-ge-SEGMENTS-via-then-kept-ge-SEGMENTS, then-kept-ge-SEGMENTS-via-else-kept-ge-SEGMENTS+then-to-next}

pub loop-count-init : goal.loop-count-init
loop-count-init c = search (rules, cutting_none)

pub returns-then-kept-ge-SEGMENTS : goal.returns-then-kept-ge-SEGMENTS
returns-then-kept-ge-SEGMENTS c = elim c.then-kept-ge-SEGMENTS.branch [
  | then-kept-ge-SEGMENTS-via-then-kept-ge-SEGMENTS w ↦ search (rules, cutting_full)
  | then-kept-ge-SEGMENTS-via-else-kept-ge-SEGMENTS+then-to-next w ↦ search (rules, cutting_nothing)
]

pub loop-count-preserved : goal.loop-count-preserved
loop-count-preserved c = search (rules, cutting_more)
