-- Laws of marks. Assumes nothing.
use Rattle.std.specs.Prelude.{◌≡◌, List, ℕ, ◌-◌, ◌≤◌, ◌<◌, ◌/◌, ◌%◌, ◌^◌, replicate}
use Rattle.std.proofs.Math.Nat.{zero-div}
use Rattle.std.proofs.Common.{arith}
use Rattle.std.proofs.lemmas.List.{get_or-replicate}
use Rattle.laws.specs.Bits.{bit}
use Rattle.ring.specs.Ring.{capacity}
use Rattle.marks.specs.Marks.{mark}

-- one turn further is the same place
pub mark_turn : (l : List ℕ) (q : ℕ) → capacity ≤ q → mark l q ≡ mark l (q - capacity)
unfolding mark
mark_turn l q h =
    let e : q % capacity ≡ (q - capacity) % capacity = omega arith in
    let f : q % 8 ≡ (q - capacity) % 8 = omega arith in
    rw (e, f)

pub mark_lt : (m : List ℕ) (q : ℕ) → mark m q < 2
unfolding mark bit
mark_lt m q = omega arith

-- a byte of 0 has no mark
pub bit_none : (k : ℕ) → bit 0 k ≡ 0
unfolding bit
bit_none k = rw (zero-div (2 ^ k))

-- where every byte is 0, no mark is set
pub mark_none : {m : List ℕ} → m ≡ replicate capacity 0 → (q : ℕ) → mark m q ≡ 0
unfolding mark
mark_none e q =
    let b : q % capacity / 8 < capacity = omega arith in
    rw (e, get_or-replicate {A = ℕ} capacity (q % capacity / 8) 0 0 b) (bit_none (q % 8))
