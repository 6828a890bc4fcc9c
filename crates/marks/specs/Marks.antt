-- 01 §5: the mark of a position is one bit: bit q % 8 of byte q % capacity / 8. Only MarkLaws and the laws of this crate's functions open it.
use Rattle.std.specs.Prelude.{ℕ, ◌/◌, ◌%◌, List, get_or}
use Rattle.laws.specs.Bits.{bit}
use Rattle.ring.specs.Ring.{capacity}

-- the mark of position q: 0 is missing, 1 has arrived
unfoldable pub mark : List ℕ → ℕ → ℕ
mark m q = bit (get_or m (q % capacity / 8) 0) (q % 8)
