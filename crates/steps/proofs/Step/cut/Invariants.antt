-- What lasts in the loop of `steps::Step::cut`.
use Rattle.steps.proofs.Cutting.{Cutting}
use Rattle.steps.proofs.Step.cut.Given as goal

abbrev pub invariant-loop-count : goal.invariant-loop-count
invariant-loop-count l = Cutting l.self.tick l.self.stamp l.self.line l.self.row l.ring l.initial.ends l.initial.times l.initial.out l.next l.kept l.bytes l.count l.ends l.times l.out
