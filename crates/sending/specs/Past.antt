-- 01 §6: the ticks that a sending side remembers are past ones.
use Rattle.std.specs.Prelude.{List, [], ◌∷◌, ℕ, ◌≤◌}
use Rattle.sending.specs.Sending.{Segment, Probed, never, tick, Sending}

-- no segment was sent after tick t
pub data SentBy (t : ℕ) : List Segment → Type 0 where
  none_sent : SentBy t []
  one_sent : {g : Segment} {gs : List Segment} → g.at ≤ t → SentBy t gs → SentBy t (g ∷ gs)

-- nor a PROBE
pub data ProbedBy (t : ℕ) : Probed → Type 0 where
  none_probed : ProbedBy t never
  one_probed : {n : ℕ} → n ≤ t → ProbedBy t (tick n)

pub record Past (t : ℕ) (s : Sending) : Type 0 where
  pub sent : SentBy t s.kept
  pub probed : ProbedBy t s.probed
