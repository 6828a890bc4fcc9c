-- 01 §5: bytes by position; their marks are the crate `marks`'s.
use Rattle.std.specs.Prelude.{ℕ, ◌%◌, List, get_or}
use Rattle.ring.specs.Ring.{capacity}
pub use Rattle.marks.specs.Marks.{mark}

-- what a ring has for position q
unfoldable pub of : List ℕ → ℕ → ℕ
of l q = get_or l (q % capacity) 0
