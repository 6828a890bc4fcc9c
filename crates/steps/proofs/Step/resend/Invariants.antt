-- What lasts in the loop of `steps::Step::resend`.
use Rattle.steps.proofs.Resending.{Resending}
use Rattle.steps.proofs.Step.resend.Given as goal

abbrev pub invariant-loop-i : goal.invariant-loop-i
invariant-loop-i l = Resending l.self.tick l.self.stamp l.self.line l.self.row l.ring l.ends l.initial.times l.initial.out l.i l.from l.bytes l.count l.times l.out
