-- 03 §1: the ticks of a run in the document's order: first the network hands over, then the hosts call, then both ends tick.
-- So whatever is handed over was sent in an earlier tick.
use Rattle.std.specs.Prelude.{List, [], ◌∷◌, ◌++◌, ℕ}
use Rattle.network.specs.World.{World, Arrival, Call, arrives, calls, ticks, Choice, near_acts, far_acts, run}

-- one tick; lists have the newest first
pub record Round : Type 0 where
  pub near_arrivals : List Arrival
  pub far_arrivals : List Arrival
  pub near_calls : List Call
  pub far_calls : List Call

unfoldable pub near_arrivals_of : List Arrival → List Choice
near_arrivals_of [] = []
near_arrivals_of (a ∷ rest) = near_acts (arrives a) ∷ near_arrivals_of rest

unfoldable pub far_arrivals_of : List Arrival → List Choice
far_arrivals_of [] = []
far_arrivals_of (a ∷ rest) = far_acts (arrives a) ∷ far_arrivals_of rest

unfoldable pub near_calls_of : List Call → List Choice
near_calls_of [] = []
near_calls_of (c ∷ rest) = near_acts (calls c) ∷ near_calls_of rest

unfoldable pub far_calls_of : List Call → List Choice
far_calls_of [] = []
far_calls_of (c ∷ rest) = far_acts (calls c) ∷ far_calls_of rest

-- its choices, the newest first
unfoldable pub choices_of : Round → List Choice
choices_of t =
    far_acts ticks ∷ near_acts ticks
    ∷ (far_calls_of t.far_calls ++ (near_calls_of t.near_calls ++ (far_arrivals_of t.far_arrivals ++ near_arrivals_of t.near_arrivals)))

unfoldable pub all_choices : List Round → List Choice
all_choices [] = []
all_choices (t ∷ ts) = choices_of t ++ all_choices ts

-- the world after these ticks, the newest first
unfoldable pub play : ℕ → ℕ → ℕ → List Round → World
play epoch r s ts = run epoch r s (all_choices ts)
