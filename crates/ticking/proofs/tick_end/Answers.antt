-- `ticking::tick_end` meets its contract. Assumes nothing.
use Rattle.std.proofs.Common.{refl, arith, rules}
use Rattle.ticking.specs.TickingLaws.{ack_ready, tick_facts, from_most, send_ready, sent_few, sent_small, sent_size, bytes_most, ticked}
use Rattle.ticking.proofs.tick_end.Goals as goal

pub ack_first-from-requires : goal.ack_first-from-requires
ack_first-from-requires c = ack_ready c.requires c.common_in-c.ensures c.plan_of-p.ensures

pub overflow_sub-w : goal.overflow_sub-w
overflow_sub-w c =
    let f = tick_facts c.requires c.common_in-c.ensures c.plan_of-p.ensures in
    omega arith

pub overflow_add-e : goal.overflow_add-e
overflow_add-e c =
    let f = tick_facts c.requires c.common_in-c.ensures c.plan_of-p.ensures in
    omega arith

pub slice_bounds-send_segments-count : goal.slice_bounds-send_segments-count
slice_bounds-send_segments-count c = from_most c.requires c.common_in-c.ensures c.plan_of-p.ensures refl c.ack_first-from.ensures

pub slice_bounds-send_segments-start : goal.slice_bounds-send_segments-start
slice_bounds-send_segments-start c =
    let h = from_most c.requires c.common_in-c.ensures c.plan_of-p.ensures refl c.ack_first-from.ensures in
    search rules

pub send_segments-sent-requires : goal.send_segments-sent-requires
send_segments-sent-requires c = send_ready c.requires c.common_in-c.ensures c.plan_of-p.ensures refl c.ack_first-from.ensures

pub overflow_add-c : goal.overflow_add-c
overflow_add-c c =
    let f = tick_facts c.requires c.common_in-c.ensures c.plan_of-p.ensures in
    omega arith

pub overflow_add-c-2 : goal.overflow_add-c-2
overflow_add-c-2 c =
    let f = tick_facts c.requires c.common_in-c.ensures c.plan_of-p.ensures in
    omega (arith, f.numbers, f.allowed, sent_few c.send_segments-sent.ensures)

pub overflow_sub-c : goal.overflow_sub-c
overflow_sub-c c =
    let f = tick_facts c.requires c.common_in-c.ensures c.plan_of-p.ensures in
    omega arith

pub slice_bounds-save_common-end : goal.slice_bounds-save_common-end
slice_bounds-save_common-end c =
    let h = sent_size c.send_segments-sent.ensures in
    let g = c.requires.table_size in
    search rules

pub overflow_add-result : goal.overflow_add-result
overflow_add-result c =
    let f = tick_facts c.requires c.common_in-c.ensures c.plan_of-p.ensures in
    let h = c.send_segments-sent.ensures in
    omega (arith, bytes_most _ _ _ _ _ c.ack_first-from.ensures.few f.one f.allowed f.most (sent_few h) (sent_small h))

done : goal.returns
done c =
    ticked c.args.t.now c.args.outgoing.now c.args.out.now c.requires c.common_in-c.ensures c.plan_of-p.ensures c.ack_first-from.ensures c.send_segments-sent.ensures c.save_common.ensures

pub shape_of-out : goal.shape_of-out
shape_of-out c = (done c).output_size

pub returns : goal.returns
returns c = done c
