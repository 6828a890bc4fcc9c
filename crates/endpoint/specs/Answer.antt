-- What a call answers: a value, or minus the number of a refusal.
use Rattle.std.specs.Prelude.{ℕ, zero, suc, ℤ, pos, negsuc, Bool, Result, Ok, Err}
use Rattle.std.specs.Int.{from_bool}
use Rattle.refusals.specs.declared.Refusal.{Refusal}

unfoldable pub answer_of : ℕ → ℕ → ℤ
answer_of zero value = pos value
answer_of (suc r) value = negsuc r

-- the value, or 0 where there is none
abbrev pub value_of : Result ℕ Refusal → ℕ
value_of (Ok n) = n
value_of (Err r) = 0

-- of take: how many bytes; and whether the END has been reached, or what stood there
abbrev pub taken_of : Result (ℕ × Bool) Refusal → ℕ
taken_of (Ok x) = x.0
taken_of (Err r) = 0

abbrev pub ended_or : ℕ → Result (ℕ × Bool) Refusal → ℕ
ended_or e (Ok x) = from_bool x.1
ended_or e (Err r) = e
