-- `hearing::hear` meets its contract. Assumes nothing.
use Rattle.std.proofs.Common.{rules}
use Rattle.hearing.proofs.HearingLaws.{may_hearing, may_judged, judged_some, judged_near, heard_data}
use Rattle.hearing.proofs.hear.Goals as goal

pub data-requires-clause-hearing : goal.data-requires-clause-hearing
data-requires-clause-hearing c = may_hearing c.requires c.fields-h.ensures

pub returns-in-Ok-Data : goal.returns-in-Ok-Data
returns-in-Ok-Data c = heard_data c.fields-h.ensures (search rules) c.«data».ensures

pub ack-requires-clause-judged : goal.ack-requires-clause-judged
ack-requires-clause-judged c = (may_judged c.requires c.fields-h.ensures, c.fields-h.ensures.credit)

pub note-requires : goal.note-requires
note-requires c =
    let j = may_judged c.requires c.fields-h.ensures in
    (c.requires.table_size, (judged_some j, judged_near j))
