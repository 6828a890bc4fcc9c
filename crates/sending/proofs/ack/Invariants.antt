-- What lasts in the loop of `sending::ack`.
use Rattle.sending.proofs.Acking.{Acking}
use Rattle.sending.proofs.ack.Given as goal

abbrev pub invariant-loop-i : goal.invariant-loop-i
invariant-loop-i l = Acking l.ends l.p l.position l.acked l.i
