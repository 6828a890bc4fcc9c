-- What judge answers, in the code's words. Assumes nothing.
use Rattle.std.proofs.Common.{◌≡◌, refl, sym, arith, ℕ, ◌+◌, ◌<◌}
use Rattle.laws.specs.RowsLaws.{hit_row, miss_row}
use Rattle.refusals.specs.declared.Refusal.{Refusal}
use Rattle.refusals.specs.declared.Refusal.TheVariants as variants
use Rattle.refusals.specs.Refusals.{number_of}
use Rattle.receiving.specs.Receiving.{end_of, beyond_of, misplaced_of, refusal_by}
use Rattle.receiving.specs.Calls.{refusal}
use Rattle.receiving.specs.declared.Scalars.{Scalars}
use Rattle.receiving.specs.RefusalLaws.{beyond_zero}

-- what is not refused with 8 has an end that fits 64 bits
pub beyond_sum : (taken p n : ℕ) → 0 ≡ beyond_of taken p n → p < 18446744073709551616 → p + n < 18446744073709551616
beyond_sum taken p n x h = let w = beyond_zero taken p n (sym x) in let v = w.small in omega arith

-- a refusal's number is not 0
number_some : (r : Refusal) → number_of r ≡ 0 → ⊥
number_some variants.Length h = omega arith
number_some variants.Form h = omega arith
number_some variants.Epoch h = omega arith
number_some variants.NumberZero h = omega arith
number_some variants.TooOld h = omega arith
number_some variants.Taken h = omega arith
number_some variants.NeverSent h = omega arith
number_some variants.Credit h = omega arith
number_some variants.End h = omega arith
number_some variants.Interval h = omega arith
number_some variants.Short h = omega arith
number_some variants.NotOpen h = omega arith
number_some variants.Output h = omega arith

-- what judge answers
module _ (s : Scalars) (p n e : ℕ) where
  pub judge_beyond : (r : Refusal) → number_of r ≡ beyond_of s.taken p n → number_of r ≡ refusal s p n e
  unfolding refusal refusal_by
  judge_beyond r x = hit_row (number_of r) _ _ x (number_some r)

  pub judge_misplaced : (r : ℕ) → 0 ≡ beyond_of s.taken p n → r ≡ misplaced_of (end_of s.known s.end) s.high (p + n) n e → r ≡ refusal s p n e
  unfolding refusal refusal_by
  judge_misplaced r x z = miss_row r _ _ 0 x refl z

pub ruleset judge_laws = (beyond_sum, judge_beyond, judge_misplaced)
