-- 03 §2: why D stops at 32, computed. An end with R = 1 is given a byte in each of its first 32 ticks, and so sends 32 datagrams in each tick from tick 31 on.
-- The first of tick 31 has number 497. It comes D ticks later, right after the newest one.
use Rattle.std.specs.Prelude.{◌≡◌, refl, [], ◌∷◌, ℕ, eqb, ltb}
use Rattle.laws.specs.Choice.{if}
use Rattle.window.specs.Window as window
use Rattle.network.specs.World.{handed, gives}
use Rattle.network.specs.Delivered.{numbers_of}
use Rattle.fairness.specs.Timed.{Plan, the_far, site_at, end_at}
use Rattle.samples.specs.Computing.{timed}

late : ℕ → ℕ → Plan
late tick place = record {
  epoch = 7;
  near = 1;
  far = 1;
  round = λ n. record {
    near_arrivals = [];
    far_arrivals = if (eqb n tick) (handed place ∷ handed 0 ∷ []) [];
    near_calls = if (ltb n 32) (gives (42 ∷ []) ∷ []) [];
    far_calls = [];
  };
}

-- after 32 ticks, in tick 63, h is 1,023 above it: it is accepted
after_32 : numbers_of (site_at (late 63 1023) the_far 64).accepted ≡ 497 ∷ 1520 ∷ []
unfolding timed late numbers_of
after_32 = refl

-- after 33 ticks, in tick 64, h is 1,055 above it: it is refused with 5
after_33 : numbers_of (site_at (late 64 1055) the_far 65).accepted ≡ 1552 ∷ []
unfolding timed late numbers_of
after_33 = refl

refused_33 : window.verdict_of (end_at (late 64 1055) the_far 65).window 497 ≡ 5
unfolding timed late
refused_33 = refl
