-- `taking::start` meets its contract. Assumes nothing.
use Rattle.std.proofs.Common.{rules, arith, ◌≡◌}
use Rattle.receiving.specs.declared.Scalars.{Scalars}
use Rattle.taking.proofs.TakeLaws.{starts}
use Rattle.taking.proofs.start.Goals as goal

pub returns : goal.returns
returns c =
    let e : ◌≡◌ {A = Scalars} c.default.result (record { taken = 0; low = 0; tail = 0; high = 0; known = 0; end = 0 }) = search rules in
    rw e (starts (c.fill.ensures.after (λ y e. e)) (omega arith))
