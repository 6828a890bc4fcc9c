-- `ticking::send_segments` meets its contract. Assumes nothing.
use Rattle.std.proofs.Common.{◌∙◌, refl, sym}
use Rattle.table.specs.LayoutLaws.{lent_ends, lent_times, put_rows}
use Rattle.ticking.proofs.Rows.{ends_last, ends_back}
use Rattle.ticking.specs.TickingLaws.{send_room_at, segments_sent}
use Rattle.ticking.proofs.send_segments.Goals as goal

pub send-sent-requires : goal.send-sent-requires
send-sent-requires c =
    let s = c.split_at_mut-front.ensures in
    let long = c.requires.table_size in
    let ring = rw c.unwrap.ensures at c.first_chunk.ensures.cases in
    let ends = rw c.unwrap-2.ensures at c.last_chunk_mut.ensures.cases in
    let times = rw c.unwrap-3.ensures at c.first_chunk_mut.ensures.cases in
    rw (ring.same, ends.1.same, times.same)
    (send_room_at refl _ _ _ _ _ c.sends_in-probed.ensures _ _ _ c.requires (ends_last _ s.front_len ∙ lent_ends _ _ _ long s.front s.back) (lent_times _ _ _ long s.front s.back))

pub returns : goal.returns
returns c =
    let s = c.split_at_mut-front.ensures in
    let long = c.requires.table_size in
    let ring = rw c.unwrap.ensures at c.first_chunk.ensures.cases in
    let ends = rw c.unwrap-2.ensures at c.last_chunk_mut.ensures.cases in
    let times = rw c.unwrap-3.ensures at c.first_chunk_mut.ensures.cases in
    rw (ends_back _ s.front_len c.send-sent.new.ends, put_rows _ _ _ long s.front s.back _ _ c.send-sent.ensures.ends_size c.send-sent.ensures.times_size)
    (segments_sent refl _ _ _ _ _ c.sends_in-probed.ensures _ _ _ _ _ _ _ _ c.requires (ends_last _ s.front_len ∙ lent_ends _ _ _ long s.front s.back) (lent_times _ _ _ long s.front s.back) (rw (sym ring.same, sym ends.1.same, sym times.same) c.send-sent.ensures) c.save_sends.ensures)
