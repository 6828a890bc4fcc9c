-- `stream::give` meets its contract. Assumes nothing.
use Rattle.std.proofs.Common.{arith, rules, refl, sym}
use Rattle.stream.specs.StreamLaws.{given_fits, gave}
use Rattle.stream.proofs.give.Goals as goal

pub overflow_add-line : goal.overflow_add-line
overflow_add-line c = omega (arith, given_fits c.requires.table_words_in_bounds.1 c.sends_in-s.ensures c.give-n.ensures)

pub slice_bounds-save_sends-end : goal.slice_bounds-save_sends-end
slice_bounds-save_sends-end c = let h = c.requires.table_words_in_bounds.0 in search rules

pub returns : goal.returns
returns c =
    let z = rw c.unwrap-ring.ensures at c.first_chunk_mut.ensures.cases in
    gave c.args.t.now _ c.sends_in-s.result c.requires.table_words_in_bounds.0 c.sends_in-s.ensures refl c.args.outgoing.now c.args.bytes.now _ _ c.requires.capacity_in_bounds (rw (sym z.same) c.give-n.ensures) c.save_sends.ensures
