-- `finding::run` meets its contract. Assumes nothing.
use Rattle.std.proofs.Common.{rules}
use Rattle.finding.proofs.FindLaws.{runs_found}
use Rattle.finding.proofs.run.Goals as goal

pub returns : goal.returns
returns c = search (rules, runs_found)
