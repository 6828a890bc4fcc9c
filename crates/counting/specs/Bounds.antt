-- 03 §3: the bounds, in ticks.
use Rattle.std.specs.Prelude.{ℕ, ◌+◌, ◌*◌}

-- until every byte of the oldest segment has arrived at the peer
abbrev pub hand_ticks : ℕ → ℕ → ℕ → ℕ
hand_ticks L D R = L * R + D

-- until its sender has dropped it
abbrev pub drop_ticks : ℕ → ℕ → ℕ → ℕ
drop_ticks L D R = L * L * R + (L + 1) * D
