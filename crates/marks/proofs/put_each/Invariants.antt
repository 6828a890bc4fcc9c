-- What lasts in the loop of `marks::put_each`.
use Rattle.std.specs.Int.{from_bool}
use Rattle.marks.specs.Stretches.{Marked}
use Rattle.marks.proofs.put_each.Given as goal

abbrev pub invariant-loop-q : goal.invariant-loop-q
invariant-loop-q l = Marked l.initial.m l.a l.q (from_bool l.v) l.m
