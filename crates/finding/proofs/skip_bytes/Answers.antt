-- `finding::skip_bytes` meets its contract. Assumes nothing.
use Rattle.std.proofs.Common.{arith}
use Rattle.finding.proofs.FindLaws.{skips_bytes}
use Rattle.finding.proofs.skip_bytes.Goals as goal

pub returns : goal.returns
returns c = skips_bytes c.args.v c.first_other-passed.ensures c.eight.ensures (omega arith) c.requires.straight c.byte-at.ensures
