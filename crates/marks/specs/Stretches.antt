-- What is done to the mark of one position, and to those of a stretch a .. b - 1; and stretches of whole bytes.
use Rattle.std.specs.Prelude.{ℕ, ◌+◌, ◌-◌, ◌%◌, ◌≤◌, ◌<◌, ◌≡◌, List, length}
use Rattle.ring.specs.Ring.{capacity}
use Rattle.marks.specs.Marks.{mark}

-- f' is f at positions outside a .. b - 1, less than one turn away
pub record Same (f : ℕ → ℕ) (a b : ℕ) (f' : ℕ → ℕ) : Type 0 where
  pub below : (q : ℕ) → q < a → b ≤ q + capacity → f' q ≡ f q
  pub above : (q : ℕ) → b ≤ q → q < a + capacity → f' q ≡ f q

-- the mark of q is v, and every other is as it was
pub record Put (m : List ℕ) (q v : ℕ) (m' : List ℕ) : Type 0 where
  pub length_same : length m' ≡ length m
  pub here : mark m' q ≡ v
  pub there : (j : ℕ) → (j % capacity ≡ q % capacity → ⊥) → mark m' j ≡ mark m j

-- each mark of a .. b - 1 is v, and every other is as it was
pub record Marked (m : List ℕ) (a b v : ℕ) (m' : List ℕ) : Type 0 where
  pub length_same : length m' ≡ length m
  pub same : Same (mark m) a b (mark m')
  pub into : (q : ℕ) → a ≤ q → q < b → mark m' q ≡ v

-- r is the first multiple of 8 from a on
pub record Up (a r : ℕ) : Type 0 where
  pub low : a ≤ r
  pub high : r < a + 8
  pub whole : r % 8 ≡ 0

-- a .. b - 1 is whole bytes, of one turn at most
pub record Whole (a b : ℕ) : Type 0 where
  pub order : a ≤ b
  pub turn : b ≤ a + capacity
  pub from : a % 8 ≡ 0
  pub upto : b % 8 ≡ 0

-- and none of them is beyond the seam
pub record Straight (a b : ℕ) : Type 0 where
  pub whole : Whole a b
  pub fits : a % capacity + (b - a) ≤ capacity

-- r parts whole bytes at the seam
pub record Parts (a b r : ℕ) : Type 0 where
  pub first : Straight a r
  pub second : Straight r b
