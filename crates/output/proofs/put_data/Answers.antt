-- `output::put_data` meets its contract. Assumes nothing.
use Rattle.std.proofs.Common.{arith}
use Rattle.ring.specs.SpanLaws.{got_span}
use Rattle.output.proofs.put_data.Goals as goal

pub returns : goal.returns
returns c = rw (c.write.ensures, got_span c.args.ring.now c.ring_get.new.dst c.args.h.position c.args.h.length _ (omega arith) c.ring_get.ensures)
