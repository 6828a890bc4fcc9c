-- Laws of answers. Assumes nothing.
use Rattle.std.specs.Prelude.{◌≡◌, refl, Result, Ok, Err, ℕ, zero, suc, ◌-◌, ◌<◌, pos, negsuc, ◌-ℤ◌}
use Rattle.std.proofs.Common.{arith, SFits, to_z, of_z}
use Rattle.std.proofs.Math.IntN.{+ℤ_idl}
use Rattle.std.specs.Int.{w64}
use Rattle.std.proofs.lemmas.Int.{to_z_pos, to_z-of_z}
use Rattle.refusals.specs.declared.Refusal.{Refusal}
use Rattle.refusals.specs.Refusals.{row_of}
use Rattle.endpoint.specs.Answer.{answer_of, value_of}

minus_answer : (r : ℕ) → pos 0 -ℤ pos r ≡ answer_of r 0
unfolding answer_of
minus_answer zero = refl
minus_answer (suc r) = +ℤ_idl (negsuc r)

fits_answer : (r : ℕ) → r < 64 → SFits w64 (answer_of r 0)
unfolding answer_of
fits_answer zero h = record { sfits = omega arith }
fits_answer (suc r) h = record { sfits = omega arith }

-- 0 - r, as the code computes it
pub refusal_fits : (r : ℕ) → r < 64 → SFits w64 (pos 0 -ℤ to_z w64 r)
refusal_fits r h = rw (to_z_pos w64 r (omega arith), minus_answer r) (fits_answer r h)

pub refusal_is : (r : ℕ) → r < 64 → to_z w64 (of_z w64 (pos 0 -ℤ to_z w64 r)) ≡ answer_of r 0
refusal_is r h = rw (to_z_pos w64 r (omega arith), minus_answer r) (to_z-of_z w64 (answer_of r 0) (fits_answer r h))

pub value_is : (v : ℕ) → v < 4294967296 → to_z w64 v ≡ answer_of 0 v
unfolding answer_of
value_is v h = to_z_pos w64 v (omega arith)

-- a value is not below 0, a refusal is
pub value_above : (n : ℕ) → answer_of 0 n ≡ pos n
unfolding answer_of
value_above n = refl

pub refusal_below : (r n : ℕ) → (r ≡ 0 → ⊥) → answer_of r n ≡ negsuc (r - 1)
unfolding answer_of
refusal_below zero n h = absurd (h refl)
refusal_below (suc r) n h = let e : suc r - 1 ≡ r = omega arith in rw e

-- a refusal has no value
pub refused_answer : (x : Result ℕ Refusal) → (row_of x ≡ 0 → ⊥) → answer_of (row_of x) (value_of x) ≡ answer_of (row_of x) 0
refused_answer (Ok n) h = absurd (h refl)
refused_answer (Err r) h = refl
