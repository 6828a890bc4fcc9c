-- What lasts in the loop of `script::decimal`.
use Rattle.std.proofs.Common.{◌<◌}
use Rattle.script.proofs.decimal.Given as goal

abbrev pub invariant-loop-b : goal.invariant-loop-b
invariant-loop-b l = l.v < 10000000000000000000
