-- What lasts in the loop of `search::first_other`, and what falls.
use Rattle.std.proofs.Common.{length}
use Rattle.finding.proofs.SearchLaws.{Passed}
use Rattle.finding.proofs.search.first_other.Given as goal

abbrev pub invariant-loop-block : goal.invariant-loop-block
invariant-loop-block l = Passed l.m l.v l.rest

abbrev pub decreases-loop-block : goal.decreases-loop-block
decreases-loop-block l = length l.rest
