-- `steps::Step::send` meets its contract. Assumes nothing.
use Rattle.std.proofs.Common.{arith}
use Rattle.ring.specs.Ring.{span}
use Rattle.segments.specs.Segments.{segs}
use Rattle.sending.specs.Steps.{cuts_of, steps_of}
use Rattle.steps.proofs.Probing.{probe_none, probe_one, probes_allow}
use Rattle.steps.proofs.Step.send.Goals as goal

pub send_probe-m-requires : goal.send_probe-m-requires
send_probe-m-requires c =
    let f = probes_allow _ _ _ _ _ _ c.probes.ensures c.if-probes.true in
    let d = c.resend_cut-c.ensures in
    omega (arith, d.small, d.few, c.requires.out_size)

pub returns-then-probes : goal.returns-then-probes
unfolding steps_of
returns-then-probes c =
    let a = c.args in
    let s = a.self in
    let r = c.resend_cut-c in
    let q = c.probes in
    let C = cuts_of s.tick s.line (span a.ring.now) s.row.acked s.row.next (segs a.ends.now a.times.now s.row.oldest s.row.kept) in
    probe_one s.tick s.stamp s.line s.row a.probed a.out.now C r.result _ _ _ q.result r.ensures q.ensures _ _ c.if-probes.true c.send_probe-m.ensures

pub returns : goal.returns
unfolding steps_of
returns c =
    let a = c.args in
    let s = a.self in
    let r = c.resend_cut-c in
    let q = c.probes in
    let C = cuts_of s.tick s.line (span a.ring.now) s.row.acked s.row.next (segs a.ends.now a.times.now s.row.oldest s.row.kept) in
    probe_none s.tick s.stamp s.line s.row a.probed a.out.now C r.result _ _ _ q.result r.ensures q.ensures c.if-probes.false
