-- A part of a list: n elements from index a on.
use Rattle.std.specs.Prelude.{List, ℕ, take, drop}

abbrev pub part : ℕ → ℕ → List ℕ → List ℕ
part a n t = take n (drop a t)
