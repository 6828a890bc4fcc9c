-- A byte of 255 or 0 is eight marks. Assumes nothing.
use Rattle.std.specs.Prelude.{◌≡◌, refl, List, ℕ, zero, suc, ◌+◌, ◌-◌, ◌*◌, ◌/◌, ◌%◌, ◌≤◌, ◌<◌, get_or}
use Rattle.std.proofs.Common.{arith}
use Rattle.laws.specs.Bits.{bit}
use Rattle.ring.specs.Ring.{capacity}
use Rattle.marks.specs.Marks.{mark}
use Rattle.marks.specs.MarkLaws.{bit_none}
use Rattle.marks.specs.Stretches.{Straight}

-- a byte of 255 has every mark
bit_all : (k : ℕ) → k < 8 → bit 255 k ≡ 1
unfolding bit
bit_all zero h = refl
bit_all (suc zero) h = refl
bit_all (suc (suc zero)) h = refl
bit_all (suc (suc (suc zero))) h = refl
bit_all (suc (suc (suc (suc zero)))) h = refl
bit_all (suc (suc (suc (suc (suc zero))))) h = refl
bit_all (suc (suc (suc (suc (suc (suc zero)))))) h = refl
bit_all (suc (suc (suc (suc (suc (suc (suc zero))))))) h = refl
bit_all (suc (suc (suc (suc (suc (suc (suc (suc k)))))))) h = absurd (omega arith)

bit_byte : (v k : ℕ) → v < 2 → k < 8 → bit (v * 255) k ≡ v
bit_byte zero k h l = bit_none k
bit_byte (suc zero) k h l = bit_all k l
bit_byte (suc (suc v)) k h l = absurd (omega arith)

byte_at : {a b at q : ℕ} → Straight a b → at ≡ a % capacity / 8 → a ≤ q → q < b → q % capacity / 8 ≡ at + (q - a) / 8
byte_at {a} {b} {at} {q} s e lo hi =
    let f = s.fits in
    let w = s.whole.from in
    let i : q % capacity ≡ a % capacity + (q - a) = omega arith in
    omega arith

-- of whole bytes from index at on, the one of q is 255 or 0
pub mark_byte : (m : List ℕ) (q : ℕ) {a b at v : ℕ} → Straight a b → at ≡ a % capacity / 8 → a ≤ q → q < b → v < 2 → get_or m (at + (q - a) / 8) 0 ≡ v * 255 → mark m q ≡ v
unfolding mark
mark_byte m q {v = v} s e lo hi bin g = rw (byte_at s e lo hi, g) (bit_byte v (q % 8) bin (omega arith))
