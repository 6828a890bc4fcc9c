-- Below or not: the two cases of a number against a bound. Assumes nothing.
use Rattle.std.specs.Prelude.{◌⊎◌, ℕ, zero, suc, ◌≤◌, ◌<◌}
use Rattle.std.proofs.Common.{inl, inr, ⊎_elim, zero-le, arith}

pub split : (a b : ℕ) → (a < b) ⊎ (b ≤ a)
split a zero = inr zero-le
split zero (suc b) = inl (omega arith)
split (suc a) (suc b) = ⊎_elim (λ h. inl (omega arith)) (λ h. inr (omega arith)) (split a b)
