-- 03 §1: a run in ticks, in the document's order, over the worlds of network. Tick 0 is the first.
use Rattle.std.specs.Prelude.{List, [], ◌∷◌, ℕ, zero, suc}
use Rattle.end.specs.End.{End}
use Rattle.network.specs.World.{Site, World, Arrival, Call}
use Rattle.network.specs.Rounds.{Round, play}

-- the epoch, the two resend intervals, and what is handed over and called in each tick
pub record Plan : Type 0 where
  pub epoch : ℕ
  pub near : ℕ
  pub far : ℕ
  pub round : ℕ → Round

-- the first n ticks, the newest first
unfoldable pub rounds_of : Plan → ℕ → List Round
rounds_of σ zero = []
rounds_of σ (suc n) = σ.round n ∷ rounds_of σ n

-- the world when n ticks are over
unfoldable pub at : Plan → ℕ → World
at σ n = play σ.epoch σ.near σ.far (rounds_of σ n)

-- the two ends, so that what holds both ways round is said once
pub data Side : Type 0 where
  the_near : Side
  the_far : Side

abbrev pub other : Side → Side
other the_near = the_far
other the_far = the_near

abbrev pub site : Side → World → Site
site the_near w = w.near
site the_far w = w.far

abbrev pub interval_of : Side → Plan → ℕ
interval_of the_near σ = σ.near
interval_of the_far σ = σ.far

-- what is handed to it, and what its host calls; the newest first
abbrev pub arrivals_of : Side → Round → List Arrival
arrivals_of the_near r = r.near_arrivals
arrivals_of the_far r = r.far_arrivals

abbrev pub calls_of : Side → Round → List Call
calls_of the_near r = r.near_calls
calls_of the_far r = r.far_calls

-- one end when n ticks are over
unfoldable pub site_at : Plan → Side → ℕ → Site
site_at σ d n = site d (at σ n)

abbrev pub end_at : Plan → Side → ℕ → End
end_at σ d n = (site_at σ d n).end
