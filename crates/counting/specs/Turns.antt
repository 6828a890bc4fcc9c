-- 03 §3, the reason: something is sent in each R ticks until its sender knows that it has come; what comes is answered; an answer that comes makes it known.
use Rattle.std.specs.Prelude.{ℕ, suc, ◌+◌, ◌≤◌, ◌<◌}
use Rattle.counting.specs.Count.{count}

-- one that is sent in tick k and handed over by tick j has come in some tick between: there it was taken, all below b is there at its end, and an answer leaves
pub record Comes (answers here : ℕ → ℕ) (b k j : ℕ) : Type 0 where
  pub tick : ℕ
  pub after : k < tick
  pub by : tick ≤ j
  pub there : b ≤ here (suc tick)
  pub answered : 1 ≤ answers tick

-- `here n`: what the peer has when n ticks are over; `known n`: what the sender then knows that it has. From tick t on, in a run of T ticks
pub record Turns (sent answers here known : ℕ → ℕ) (come back : ℕ → ℕ → Type 0) (R D t b T : ℕ) : Type 0 where
  -- neither ever falls, and what is known is so
  pub here_up : (n m : ℕ) → n ≤ m → m ≤ T → here n ≤ here m
  pub known_up : (n m : ℕ) → n ≤ m → m ≤ T → known n ≤ known m
  pub known_true : (n : ℕ) → n ≤ T → known n ≤ here n
  -- while it is not known it is sent in each R ticks, and no tick sends it twice
  pub tries : (n : ℕ) → t ≤ n → n + R ≤ T → known (n + R) < b → 1 ≤ count sent n R
  pub once : (n : ℕ) → sent n ≤ 1
  pub answers_once : (n : ℕ) → answers n ≤ 1
  -- what comes is taken and answered
  pub comes : (k j : ℕ) → t ≤ k → k < j → j ≤ k + D → j < T → come k j → known (suc k) < b → Comes answers here b k j
  -- an answer that comes makes it known
  pub told : (k j : ℕ) → t ≤ k → k < j → j ≤ k + D → j < T → back k j → b ≤ here (suc k) → b ≤ known (suc j)
