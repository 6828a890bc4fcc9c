-- Where bytes in order may be copied at once.
use Rattle.std.specs.Prelude.{ℕ, ◌≤◌, ◌<◌, ◌≡◌, List}
use Rattle.arrivals.specs.Marks.{mark}
use Rattle.receiving.specs.declared.Scalars.{Scalars}

-- none of the positions from low to e - 1 has arrived
pub record Fresh (m : List ℕ) (s : Scalars) (e : ℕ) : Type 0 where
  pub before : e ≤ s.tail
  pub none : (q : ℕ) → s.low ≤ q → q < e → mark m q ≡ 0
