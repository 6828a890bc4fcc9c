-- `stream::finish` meets its contract. Assumes nothing.
use Rattle.stream.specs.StreamLaws.{finished}
use Rattle.std.proofs.Common.{rules}
use Rattle.stream.proofs.finish.Goals as goal

pub returns : goal.returns
returns c =
    finished c.args.t.now c.save_sends.new.w c.sends_in-s.result (search rules) (search rules) c.finish-line.result (search rules) (search rules)
