-- `steps::Step::resend` meets its contract. Assumes nothing.
use Rattle.steps.proofs.Resending.{resending_none, resending_skip, resending_send, resending_full}
use Rattle.std.proofs.Common.{rules}
use Rattle.steps.proofs.Step.resend.Goals as goal
use Rattle.steps.proofs.Step.resend.Goals.{then-due, else-due}

pub loop-i-init : goal.loop-i-init
loop-i-init c = search (rules, resending_none)

pub returns-then-self-count : goal.returns-then-self-count
returns-then-self-count c = search (rules, resending_full)

pub loop-i-preserved : goal.loop-i-preserved
loop-i-preserved c =
    let r = c.loop-i.invariant in
    elim c.if-due.branch [
      | then-due w ↦
          rw (w.out-is, w.times-is, w.bytes-is, w.count-is)
          (resending_send r c.requires (search rules) c.place-at.ensures c.due.ensures w.if-due.true w.send_data-bytes.ensures)
      | else-due w ↦
          rw (w.out-is, w.times-is, w.bytes-is, w.count-is)
          (resending_skip r c.requires (search rules) c.place-at.ensures c.due.ensures w.if-due.false)
    ]
