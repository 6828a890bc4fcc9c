-- `stream::take` meets its contract. Assumes nothing.
use Rattle.table.specs.ReadyLaws.{ready_ranged}
use Rattle.stream.specs.StreamLaws.{took}
use Rattle.std.proofs.Common.{refl, sym}
use Rattle.stream.proofs.take.Goals as goal

pub take-after-requires : goal.take-after-requires
take-after-requires c = ready_ranged c.requires.table_words_in_bounds.1 c.scalars_in-s.ensures

pub returns : goal.returns
returns c =
    let z = rw c.unwrap-ring.ensures at c.first_chunk.ensures.cases in
    took refl c.args.t.now _ c.args.incoming.now c.args.out.now _ c.scalars_in-s.result _ c.requires.table_words_in_bounds.0 c.scalars_in-s.ensures (rw (sym z.same) c.take-after.ensures) c.save_scalars.ensures
