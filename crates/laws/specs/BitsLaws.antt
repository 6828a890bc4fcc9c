-- Laws of one bit of a word, of any width. Assumes nothing.
use Rattle.std.specs.Prelude.{◌≡◌, refl, ℕ, zero, suc, ◌+◌, ◌-◌, ◌*◌, ◌/◌, ◌%◌, ◌^◌, ◌<◌, max}
use Rattle.std.proofs.Common.{◌∙◌, pow-suc, mul-div_cancel, one-mul, arith, pow_pos, pow-add, shl_exact}
use Rattle.std.proofs.Math.Nat.{div_self, div-eq_of_lt, mul-mod_left}
use Rattle.std.proofs.Math.Decide.{dec_lt}
use Rattle.std.proofs.Math.Pow.{pow-lt}
use Rattle.std.specs.Int.Bits.{bit_or, bit_xor, differ, or_step, xor_step}
use Rattle.std.proofs.lemmas.Nat.{or_shr, xor_shr}
use Rattle.laws.specs.Bits.{bit}

bit_lt : (w k : ℕ) → bit w k < 2
unfolding bit
bit_lt w k = omega arith

-- the last digit of an exclusive or
differ_two : (x y : ℕ) → x < 2 → y < 2 → differ x y < 2
differ_two zero y hx hy = hy
differ_two (suc x) zero hx hy = hx
differ_two (suc x) (suc y) hx hy = differ_two x y (omega arith) (omega arith)

bit_or_lem : (a b k : ℕ) → bit (bit_or a b) k ≡ max (bit a k) (bit b k)
unfolding bit
bit_or_lem a b k =
    rw (or_shr)
    (let s = or_step (a / 2 ^ k) (b / 2 ^ k) in omega (arith, s))

bit_xor_lem : (a b k : ℕ) → bit (bit_xor a b) k ≡ differ (bit a k) (bit b k)
unfolding bit
bit_xor_lem a b k =
    rw (xor_shr)
    (omega (arith, xor_step (a / 2 ^ k) (b / 2 ^ k), differ_two (a / 2 ^ k % 2) (b / 2 ^ k % 2) (omega arith) (omega arith)))

-- the word with one bit
bit_same : (k : ℕ) → bit (2 ^ k) k ≡ 1
unfolding bit
bit_same k = rw (div_self (pow_pos k))

above : (j k d : ℕ) → j ≡ suc d + k → 2 ^ j / 2 ^ k % 2 ≡ 0
above j k d e = rw (e, pow-add 2 (suc d) k, mul-div_cancel (2 ^ suc d) (pow_pos k), pow-suc, mul-mod_left)

bit_other : (j k : ℕ) → (k ≡ j → ⊥) → bit (2 ^ j) k ≡ 0
unfolding bit
bit_other j k ne =
    elim (dec_lt j k) [
      | yes l ↦ rw (div-eq_of_lt (pow-lt l))
      | no n ↦ above j k (j - k - 1) (omega arith)
    ]

-- what 1 << k is, in a word of n bits
pub one_shl : (k n : ℕ) → k < n → (1 * 2 ^ k) % 2 ^ n ≡ 2 ^ k
one_shl k n h = shl_exact {a = 1} 1 k n (omega arith) (omega arith) ∙ one-mul (2 ^ k)

-- a word in which bit k is set, and one in which it is cleared
pub set_here : (w k : ℕ) → bit (bit_or w (2 ^ k)) k ≡ 1
set_here w k = rw (bit_or_lem, bit_same) (omega (arith, bit_lt w k))

pub set_there : (w k j : ℕ) → (j ≡ k → ⊥) → bit (bit_or w (2 ^ k)) j ≡ bit w j
set_there w k j ne = rw (bit_or_lem, bit_other k j ne) (omega arith)

differ_one : (x : ℕ) → x < 2 → differ (max x 1) 1 ≡ 0
differ_one x h = rw (max_one x h)
  where
    max_one : (x : ℕ) → x < 2 → max x 1 ≡ 1
    max_one x h = omega arith

differ_zero : (x : ℕ) → differ (max x 0) 0 ≡ x
differ_zero x = rw (max_zero x) (go x)
  where
    max_zero : (x : ℕ) → max x 0 ≡ x
    max_zero x = omega arith

    go : (x : ℕ) → differ x 0 ≡ x
    go zero = refl
    go (suc x) = refl

pub clear_here : (w k : ℕ) → bit (bit_xor (bit_or w (2 ^ k)) (2 ^ k)) k ≡ 0
clear_here w k = rw (bit_xor_lem, bit_or_lem, bit_same) (differ_one (bit w k) (bit_lt w k))

pub clear_there : (w k j : ℕ) → (j ≡ k → ⊥) → bit (bit_xor (bit_or w (2 ^ k)) (2 ^ k)) j ≡ bit w j
clear_there w k j ne = rw (bit_xor_lem, bit_or_lem, bit_other k j ne) (differ_zero (bit w j))
