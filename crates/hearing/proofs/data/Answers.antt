-- `hearing::data` meets its contract. Assumes nothing.
use Rattle.hearing.proofs.HearingLaws.{data_lent, data_room, data_some, data_near, data_done}
use Rattle.std.proofs.Common.{refl, rules, sym}
use Rattle.hearing.proofs.data.Goals as goal

pub hear-v-requires : goal.hear-v-requires
hear-v-requires c =
    record {
      ranged = (data_lent refl c.args.incoming.now c.args.marks.now c.requires.hearing c.scalars_in-s.ensures).ranged;
      room = data_room c.requires.hearing c.requires.kind_value c.scalars_in-s.ensures;
    }

pub note-requires : goal.note-requires
note-requires c =
    (c.requires.hearing.table_size, (data_some c.requires.hearing, data_near c.requires.hearing))

pub slice_bounds-save_scalars-end : goal.slice_bounds-save_scalars-end
slice_bounds-save_scalars-end c =
    let h = c.note.ensures.size in
    let g = c.requires.hearing.table_size in
    search rules

done : goal.returns
done c =
    let i = rw c.unwrap.ensures at c.first_chunk_mut.ensures.cases in
    let m = rw c.unwrap-2.ensures at c.first_chunk_mut-2.ensures.cases in
    data_done refl c.requires.hearing c.scalars_in-s.ensures (rw (sym i.same, sym m.same) c.hear-v.ensures) c.note.ensures c.save_scalars.ensures

pub shape_of-t : goal.shape_of-t
shape_of-t c = (done c).size

pub returns : goal.returns
returns c = done c
