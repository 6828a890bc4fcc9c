-- What lasts in the loop of `window::accept`.
use Rattle.window.proofs.Steps.{Starts, Cleared}
use Rattle.window.proofs.accept.Given as goal

abbrev pub invariant-loop-q : goal.invariant-loop-q
invariant-loop-q l = Starts l.h l.p l.first × Cleared l.initial.m l.first l.p l.q l.m
