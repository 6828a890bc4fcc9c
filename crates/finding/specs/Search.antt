-- The first byte of a buffer that is not v.
use Rattle.std.specs.Prelude.{◌≡◌, List, ℕ, ◌<◌, ◌≤◌, length, get_or}

-- r is the index of the first byte of m from index a on that is not v, or m's length where there is none
pub record Other (m : List ℕ) (v a r : ℕ) : Type 0 where
  pub low : a ≤ r
  pub high : r ≤ length m
  pub before : (k : ℕ) → k < r → a ≤ k → get_or m k 0 ≡ v
  pub found : r < length m → get_or m r 0 ≡ v → ⊥
