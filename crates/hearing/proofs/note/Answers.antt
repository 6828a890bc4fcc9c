-- `hearing::note` meets its contract. Assumes nothing.
use Rattle.std.proofs.Common.{◌∙◌, ap, take, sym, rules}
use Rattle.table.specs.Layout.{sections_of, window_size}
use Rattle.hearing.proofs.HearingLaws.{near_loaded, noted}
use Rattle.hearing.proofs.note.Goals as goal

pub accept-high-requires : goal.accept-high-requires
accept-high-requires c = (search rules, search (rules, near_loaded))

pub returns : goal.returns
unfolding sections_of
returns c =
    let s = c.split_at_mut-after.ensures in
    let marks = rw c.unwrap.ensures at c.first_chunk_mut.ensures.cases in
    let window = marks.same ∙ ap (take window_size) s.back in
    rw (s.front, s.back)
    (noted c.args.t.now c.accept-high.new.m _ _ _ _ _ c.requires.0 c.common_in-c.ensures (rw (sym window) c.accept-high.ensures) c.save_common.ensures)
