-- 01 §6: what a sending side is. Lists of segments and of messages have the newest first.
use Rattle.std.specs.Prelude.{List, [], ℕ, ◌-◌, take, drop}
use Rattle.ring.specs.Ring.{capacity}
use Rattle.segments.specs.declared.Line.{Line}
pub use Rattle.segments.specs.Segments.{segments_most, datagrams_most, Segment, size_of, end_of}
unfoldable pub use Rattle.segments.specs.Segments.{start_of, data_of}

-- the last PROBE since room ran out: none, or its tick
pub data Probed : Type 0 where
  never : Probed
  tick : ℕ → Probed

-- positions count the END: a stream of n bytes has positions 0 .. n, the last one being its END
pub record Sending : Type 0 where
  -- the bytes given so far
  pub given : ℕ
  -- 1 once finish was called
  pub closed : ℕ
  -- all below this position is acknowledged
  pub acked : ℕ
  -- the next position to be sent
  pub next : ℕ
  -- bytes may be sent below this position
  pub limit : ℕ
  -- the given bytes from position acked on
  pub bytes : List ℕ
  -- the segments between acked and next
  pub kept : List Segment
  pub probed : Probed

unfoldable pub fresh : Sending
fresh = record { given = 0; closed = 0; acked = 0; next = 0; limit = capacity; bytes = []; kept = []; probed = never }

abbrev pub line_of : Sending → Line
line_of s = record { given = s.given; closed = s.closed; limit = s.limit }

-- the n bytes from position p on
unfoldable pub part_of : Sending → ℕ → ℕ → List ℕ
part_of s p n = take n (drop (p - s.acked) s.bytes)
