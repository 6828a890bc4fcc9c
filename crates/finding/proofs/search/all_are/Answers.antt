-- `search::all_are` meets its contract. Assumes nothing.
use Rattle.std.proofs.Common.{◌≡◌, ◌∙◌, sym, rules, fold}
use Rattle.std.specs.Int.Bits.{bit_or, bit_xor}
use Rattle.finding.proofs.SearchLaws.{none_other}
use Rattle.finding.proofs.search.all_are.Goals as goal

pub returns : goal.returns
returns c = λ t.
    let e : c.fold.result ≡ fold (λ z x. bit_or z (bit_xor x c.args.v)) 0 c.args.block.now = search rules in
    let z : c.fold.result ≡ 0 = search rules in
    (none_other c.args.v 0 c.args.block.now (sym e ∙ z)).1
