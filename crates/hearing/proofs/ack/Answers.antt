-- `hearing::ack` meets its contract. Assumes nothing.
use Rattle.std.proofs.Common.{arith, sym}
use Rattle.table.specs.Layout.{sections_of}
use Rattle.hearing.proofs.HearingLaws.{ack_row, ack_within, judged_some, judged_near, ack_done}
use Rattle.hearing.proofs.ack.Goals as goal

pub ack-row-requires : goal.ack-row-requires
ack-row-requires c = ack_row c.requires.ready c.sends_in-probed.ensures

pub overflow_add-h : goal.overflow_add-h
overflow_add-h c =
    omega (arith, c.requires.judged.1, ack_within c.requires.ready c.requires.judged.0 c.requires.kind_value)

pub note-requires : goal.note-requires
note-requires c =
    (c.requires.table_words_in_bounds, (judged_some c.requires.judged.0, judged_near c.requires.judged.0))

pub returns : goal.returns
unfolding sections_of
returns c =
    let ends = rw c.unwrap.ensures at c.as_array.ensures.cases in
    ack_done c.requires.table_words_in_bounds c.common_in-c.ensures c.sends_in-probed.ensures (rw (sym ends.same) c.ack-row.ensures) c.grant-g.ensures c.note.ensures c.save_sends.ensures
