-- What lasts in the loop of `finding::find_each`.
use Rattle.std.specs.Int.{from_bool}
use Rattle.finding.specs.Finding.{Skips}
use Rattle.finding.proofs.find_each.Given as goal

abbrev pub invariant-loop-q : goal.invariant-loop-q
invariant-loop-q l = Skips l.m (from_bool l.v) l.a l.b l.q
