-- 01 §6: segments, and how they are read out of the lent tables. Lists of segments and of messages have the newest first.
use Rattle.std.specs.Prelude.{List, [], ◌∷◌, ℕ, zero, suc, ◌+◌, ◌%◌, get_or}
pub use Rattle.output.specs.Output.{size_of, end_of}
unfoldable pub use Rattle.output.specs.Output.{data_of}

-- at most so many segments are kept, and at most so many datagrams leave in a tick
abbrev pub segments_most : ℕ
segments_most = 64

abbrev pub datagrams_most : ℕ
datagrams_most = 32

-- a segment that was sent: where it ends, and the tick of its last sending; it starts where the one before it ends, the oldest at acked
pub record Segment : Type 0 where
  pub to : ℕ
  pub at : ℕ

-- where the segment after these starts
unfoldable pub start_of : ℕ → List Segment → ℕ
start_of acked [] = acked
start_of acked (g ∷ gs) = g.to

-- the n segments from number k on: number s stands at s % 64
unfoldable pub segs : List ℕ → List ℕ → ℕ → ℕ → List Segment
segs ends times k zero = []
segs ends times k (suc n) = record { to = get_or ends ((k + n) % segments_most) 0; at = get_or times ((k + n) % segments_most) 0 } ∷ segs ends times k n
