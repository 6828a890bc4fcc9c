-- What is found in a stretch of marks, a .. b - 1.
use Rattle.std.specs.Prelude.{ℕ, ◌≤◌, ◌<◌, ◌≡◌, List}
use Rattle.marks.specs.Marks.{mark}

-- each mark of a .. l - 1 is v, and l is b or below
pub record Skips (m : List ℕ) (v a b l : ℕ) : Type 0 where
  pub a_l : a ≤ l
  pub l_b : l ≤ b
  pub all : (q : ℕ) → a ≤ q → q < l → mark m q ≡ v

-- and l is the first position from a on whose mark is not v, or b
pub record Finds (m : List ℕ) (v a b l : ℕ) : Type 0 where
  pub skips : Skips m v a b l
  pub stop : l < b → mark m l ≡ v → ⊥

-- l is the first position from low on without a mark, or top
pub record Runs (m : List ℕ) (low top l : ℕ) : Type 0 where
  pub low_l : low ≤ l
  pub l_top : l ≤ top
  pub marked : (q : ℕ) → low ≤ q → q < l → 0 < mark m q
  pub stop : l < top → mark m l ≡ 0

-- r is 0 only where no position of a .. b - 1 has a mark
pub record Unmarked (m : List ℕ) (a b r : ℕ) : Type 0 where
  pub none : r ≡ 0 → (q : ℕ) → a ≤ q → q < b → mark m q ≡ 0
