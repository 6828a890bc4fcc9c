-- `ticking::ack_first` meets its contract. Assumes nothing.
use Rattle.ticking.specs.TickingLaws.{ack_none, ack_one}
use Rattle.std.proofs.Common.{rules}
use Rattle.ticking.proofs.ack_first.Goals as goal

pub returns-then-a-eq0 : goal.returns-then-a-eq0
returns-then-a-eq0 c = search (rules, ack_none)

pub returns : goal.returns
returns c = ack_one c.requires c.if-a-eq0.false c.write_ack.ensures
