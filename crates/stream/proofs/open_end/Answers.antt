-- `stream::open_end` meets its contract. Assumes nothing.
use Rattle.std.proofs.Common.{refl, sym}
use Rattle.stream.specs.OpeningLaws.{opened}
use Rattle.stream.proofs.open_end.Goals as goal

pub returns : goal.returns
returns c =
    let z = rw c.unwrap.ensures at c.first_chunk_mut.ensures.cases in
    opened refl c.args.t.now c.args.marks.now _ c.args.epoch c.args.interval c.requires.1 (rw (sym z.same) c.start-v.ensures) c.fresh_line.ensures c.fresh_row.ensures c.save_all.ensures
