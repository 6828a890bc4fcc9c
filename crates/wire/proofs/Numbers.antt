-- A number read by `from_be_bytes` is the number of its bytes. Assumes nothing.
use Rattle.std.proofs.Common.{◌≡◌, ◌∙◌, List, drop, ap, arith, ℕ, ◌+◌, ◌<◌, get_or, get_or-take, get_or-drop}
use Rattle.std.specs.Int.{w16, w32, w64, from_be_bytes}
use Rattle.laws.specs.Part.{part}
use Rattle.wire.specs.Reading.{num}

byte : (s : List ℕ) (at n j : ℕ) {bs : List ℕ} → bs ≡ part at n s → j < n → get_or bs j 0 ≡ get_or s (at + j) 0
byte s at n j e l = ap (λ (x : List ℕ). get_or x j 0) e ∙ get_or-take n (drop at s) j 0 l ∙ get_or-drop at s j 0

pub num_1 : (s : List ℕ) (at : ℕ) → num s at 1 ≡ get_or s (at + 0) 0
unfolding num
num_1 s at = omega arith

pub num_2 : (s : List ℕ) (at : ℕ) {bs : List ℕ} {v : ℕ} → v ≡ from_be_bytes w16 bs → bs ≡ part at 2 s → v ≡ num s at 2
unfolding num
num_2 s at f e = omega (arith, f, byte s at 2 0 e (omega arith), byte s at 2 1 e (omega arith))

pub num_4 : (s : List ℕ) (at : ℕ) {bs : List ℕ} {v : ℕ} → v ≡ from_be_bytes w32 bs → bs ≡ part at 4 s → v ≡ num s at 4
unfolding num
num_4 s at f e =
    omega (arith, f, byte s at 4 0 e (omega arith), byte s at 4 1 e (omega arith), byte s at 4 2 e (omega arith), byte s at 4 3 e (omega arith))

pub num_8 : (s : List ℕ) (at : ℕ) {bs : List ℕ} {v : ℕ} → v ≡ from_be_bytes w64 bs → bs ≡ part at 8 s → v ≡ num s at 8
unfolding num
num_8 s at f e =
    omega (
      arith,
      f,
      byte s at 8 0 e (omega arith),
      byte s at 8 1 e (omega arith),
      byte s at 8 2 e (omega arith),
      byte s at 8 3 e (omega arith),
      byte s at 8 4 e (omega arith),
      byte s at 8 5 e (omega arith),
      byte s at 8 6 e (omega arith),
      byte s at 8 7 e (omega arith),
    )
