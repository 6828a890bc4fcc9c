-- What lasts in the loop of `arrivals::store`.
use Rattle.arrivals.specs.Steps.{Stored}
use Rattle.arrivals.proofs.store.Given as goal

abbrev pub invariant-loop-q : goal.invariant-loop-q
invariant-loop-q l = Stored l.initial.ring l.initial.marks l.p l.src l.a l.q l.ring l.marks
