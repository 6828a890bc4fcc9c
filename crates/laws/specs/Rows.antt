-- Refusals as rows: `when test n` is n where the test holds and 0 where not, `a or_else b` is a unless that is 0. The first row that applies counts.
use Rattle.std.specs.Prelude.{Bool, true, false, ℕ, zero, suc}

infixr 20 ◌or_else◌
unfoldable pub when : Bool → ℕ → ℕ
when true n = n
when false n = 0

unfoldable pub ◌or_else◌ : ℕ → ℕ → ℕ
zero or_else b = b
suc a or_else b = suc a

-- one of two rows
unfoldable pub branch : Bool → ℕ → ℕ → ℕ
branch true a b = a
branch false a b = b

-- both tests
infixr 30 ◌and◌
unfoldable pub ◌and◌ : Bool → Bool → Bool
true and b = b
false and b = false
