-- `search::first_other` meets its contract. Assumes nothing.
use Rattle.std.proofs.Common.{◌≡◌, rules, arith, All, take, drop}
use Rattle.finding.proofs.SearchLaws.{passed_none, passed_more, passed_bound, passed_other}
use Rattle.finding.proofs.search.first_other.Goals as goal

pub loop-block-init : goal.loop-block-init
loop-block-init c = passed_none _ _

pub loop-block-preserved : goal.loop-block-preserved
loop-block-preserved c =
    let a : All (λ x. x ≡ c.args.v) (take 64 c.loop-block.rest.now) = search rules in
    let e : c.in-Some.after.now ≡ drop 64 c.loop-block.rest.now = search rules in
    passed_more {n = 64} c.loop-block.invariant (search rules) a e

pub overflow_add-result : goal.overflow_add-result
overflow_add-result c = omega (arith, passed_bound c.loop-block.invariant c.run_of.ensures)

pub returns : goal.returns
returns c = passed_other c.loop-block.invariant c.run_of.ensures
