-- What a run in ticks is computed with: to unfold `timed` is to unfold all of it.
use Rattle.std.specs.Prelude.{ℕ}
use Rattle.network.specs.Rounds.{near_arrivals_of, far_arrivals_of, near_calls_of, far_calls_of, choices_of, all_choices, play}
use Rattle.network.specs.Computing.{computing}
use Rattle.fairness.specs.Timed.{rounds_of, at, site_at}
use Rattle.fairness.specs.Networks.{sent_in}

unfoldable pub timed : ℕ
unfolding computing sent_in site_at at rounds_of play all_choices choices_of near_arrivals_of far_arrivals_of near_calls_of far_calls_of
timed = 0
