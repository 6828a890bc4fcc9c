-- What a run is computed with, part by part. To unfold `computing` is to unfold all of it.
use Rattle.std.specs.Prelude.{ℕ}
use Rattle.laws.specs.Rows.{when, ◌or_else◌, branch}
use Rattle.wire.specs.Datagram as datagram
use Rattle.wire.specs.Reading as reading
use Rattle.window.specs.Window as window
use Rattle.receiving.specs.Receiving as receiving
use Rattle.sending.specs.Sending as sending
use Rattle.sending.specs.Giving as giving
use Rattle.sending.specs.Acking as acking
use Rattle.sending.specs.Steps as steps
use Rattle.end.specs.End as end
use Rattle.network.specs.World as world

unfoldable pub datagrams : ℕ
unfolding datagram.encode datagram.kind_of datagram.flags_of datagram.position_of datagram.credit_of datagram.payload_of datagram.be datagram.head_of datagram.header_of reading.num reading.fields_of reading.data_row reading.plain_row reading.rows_of reading.form_of reading.message_of reading.decode_as reading.decode
datagrams = 0

unfoldable pub numbers : ℕ
unfolding window.unseen window.fresh window.seen_of window.verdict_of window.slide window.accept_of
numbers = 0

unfoldable pub arriving : ℕ
unfolding receiving.fresh receiving.first receiving.lay receiving.fill_cells receiving.fill_of receiving.hear_of receiving.lead receiving.low_of receiving.up receiving.reach receiving.high_of receiving.heads receiving.got_of receiving.take_of receiving.end_at receiving.ended_of receiving.ack_position receiving.ack_credit receiving.beyond_of receiving.misplaced_of receiving.refusal_by receiving.refusal_of
arriving = 0

unfoldable pub leaving : ℕ
unfolding sending.fresh sending.start_of sending.part_of sending.data_of giving.room_of giving.give_of giving.finish_of acking.left_of acking.acked_of acking.ack_of steps.due_of steps.again_of steps.resend_of steps.cut_to steps.cut_one steps.cut_of steps.ago_of steps.probes_of steps.probe_of steps.cuts_of steps.steps_of steps.send_of
leaving = 0

unfoldable pub ends : ℕ
unfolding end.open_of end.give_of end.given_of end.finish_of end.got_of end.take_of end.reached_of end.place_of end.refusal_of end.accepted_of end.answer_to end.accept_if end.after_hearing end.hear_answer end.hear_of end.clock_of end.allowance_of end.ack_of end.step_of end.sent_of end.tick_of
ends = 0

unfoldable pub worlds : ℕ
unfolding world.run world.opened world.noted world.hear world.bytes_of world.hand_over world.strange world.arrive world.call world.leaving world.tick world.act world.step
worlds = 0

unfoldable pub computing : ℕ
unfolding when ◌or_else◌ branch datagrams numbers arriving leaving ends worlds
computing = 0
