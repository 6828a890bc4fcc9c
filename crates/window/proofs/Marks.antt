-- A word that has one bit changed puts one mark. Assumes nothing.
use Rattle.std.proofs.Common.{◌≡◌, List, length, set, ℕ, ◌*◌, ◌/◌, ◌%◌, ◌^◌, arith, length-set, get_or, get_or-set_same, get_or-set_other}
use Rattle.std.proofs.Math.Decide.{ℕ_discrete}
use Rattle.std.specs.Int.Bits.{bit_or, bit_xor}
use Rattle.laws.specs.Bits.{bit}
use Rattle.laws.specs.BitsLaws.{one_shl, set_here, set_there, clear_here, clear_there}
use Rattle.window.specs.Marks.{mark, Put, words}

pub put_word : (m : List ℕ) (q v w : ℕ) → length m ≡ words → bit w (q % 64) ≡ v
    → ((k : ℕ) → (k ≡ q % 64 → ⊥) → bit w k ≡ bit (get_or m (q / 64 % words) 0) k)
    → Put m q v (set m (q / 64 % words) w)
unfolding mark
put_word m q v w l here there = record {
  long = simp length-set;
  here = rw (get_or-set_same m (q / 64 % words) w 0 (omega arith)) here;
  there = λ j ne.
      elim (ℕ_discrete (j / 64 % words) (q / 64 % words)) [
        | yes e ↦ rw (e, get_or-set_same m (q / 64 % words) w 0 (omega arith)) (there (j % 64) (λ e2. ne (omega arith)))
        | no n ↦ rw (get_or-set_other m (q / 64 % words) (j / 64 % words) w 0 n)
      ];
}

pub put_one : (m : List ℕ) (q : ℕ) → length m ≡ words
    → Put m q 1 (set m (q / 64 % words) (bit_or (get_or m (q / 64 % words) 0) ((1 * 2 ^ (q % 64)) % 2 ^ 64)))
put_one m q l =
    let w = get_or m (q / 64 % words) 0 in
    rw (one_shl (q % 64) 64 (omega arith)) (put_word m q 1 _ l (set_here w (q % 64)) (set_there w (q % 64)))

pub put_zero : (m : List ℕ) (q : ℕ) → length m ≡ words
    → Put m q 0
    (set m (q / 64 % words)
    (bit_xor (bit_or (get_or m (q / 64 % words) 0) ((1 * 2 ^ (q % 64)) % 2 ^ 64)) ((1 * 2 ^ (q % 64)) % 2 ^ 64)))
put_zero m q l =
    let w = get_or m (q / 64 % words) 0 in
    rw (one_shl (q % 64) 64 (omega arith)) (put_word m q 0 _ l (clear_here w (q % 64)) (clear_there w (q % 64)))
