-- 01 §3: the refusals' numbers.
use Rattle.std.specs.Prelude.{ℕ, Result, Ok, Err}
use Rattle.refusals.specs.declared.Refusal.{Refusal}
use Rattle.refusals.specs.declared.Refusal.TheVariants as variants

abbrev pub number_of : Refusal → ℕ
number_of variants.Length = 1
number_of variants.Form = 2
number_of variants.Epoch = 3
number_of variants.NumberZero = 4
number_of variants.TooOld = 5
number_of variants.Taken = 6
number_of variants.NeverSent = 7
number_of variants.Credit = 8
number_of variants.End = 9
number_of variants.Interval = 10
number_of variants.Short = 11
number_of variants.NotOpen = 12
number_of variants.Output = 13

-- a verdict as a row: the refusal's number, or 0
abbrev pub row_of : {A : Type 0} → Result A Refusal → ℕ
row_of (Ok x) = 0
row_of (Err r) = number_of r
