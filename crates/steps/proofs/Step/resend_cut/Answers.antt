-- `steps::Step::resend_cut` meets its contract. Assumes nothing.
use Rattle.std.proofs.Common.{arith, length, ◌-◌}
use Rattle.steps.proofs.Both.{both}
use Rattle.ring.specs.Ring.{span}
use Rattle.steps.proofs.Step.resend_cut.Goals as goal

pub returns : goal.returns
returns c =
    let a = c.args in
    let s = a.self in
    let r = c.resend-r in
    let u = c.cut-c in
    both s.tick s.stamp s.line s.row (span a.ring.now) a.ends.now a.times.now a.out.now r.result _ _ u.result _ _ _ (length r.new.out - r.result.bytes)
    r.ensures (omega arith) u.ensures
