-- 03 §2: counting over ticks, and what it is for sendings to arrive fairly. Tick 0 is the first of a run.
use Rattle.std.specs.Prelude.{◌≡◌, ℕ, zero, suc, ◌+◌, ◌≤◌, ◌<◌}

-- how many events the n ticks from t on have, where tick k has `s k`
unfoldable pub count : (ℕ → ℕ) → ℕ → ℕ → ℕ
count s t zero = 0
count s t (suc n) = count s t n + s (t + n)

-- something that was sent in one of the n ticks from t on arrives: it is handed over in one of the D ticks after its own
-- `arrives k j`: something that was sent in tick k is handed over in tick j
pub record Arrival (arrives : ℕ → ℕ → Type 0) (D t n : ℕ) : Type 0 where
  pub sent : ℕ
  pub come : ℕ
  pub from : t ≤ sent
  pub below : sent < t + n
  pub after : sent < come
  pub within : come ≤ sent + D
  pub arrived : arrives sent come

-- of any L sendings in a row at least one arrives; a run of T ticks says so of those whose D ticks are over
pub record Fair (sent : ℕ → ℕ) (arrives : ℕ → ℕ → Type 0) (L D T : ℕ) : Type 0 where
  pub one_of : (t n : ℕ) → count sent t n ≡ L → t + n + D ≤ T → Arrival arrives D t n
