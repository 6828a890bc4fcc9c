-- 01 §1: give and finish.
use Rattle.std.specs.Prelude.{List, ◌++◌, ℕ, ◌+◌, ◌-◌, min, eqb, length, take}
use Rattle.laws.specs.Choice.{if}
use Rattle.ring.specs.Ring.{capacity}
use Rattle.wire.specs.Datagram.{ceiling}
use Rattle.segments.specs.declared.Line.{Line}
use Rattle.sending.specs.Sending.{Sending, line_of}

-- room for give: 65,536 less the bytes given and not yet acknowledged, and at most 2^62 bytes in all; none after finish
unfoldable pub room_of : Line → ℕ → ℕ
room_of l acked = if (eqb l.closed 1) 0 (min (capacity - (l.given - acked)) (ceiling - l.given))

-- how many of the bytes are taken
abbrev pub taken_of : Sending → List ℕ → ℕ
taken_of s bs = min (length bs) (room_of (line_of s) s.acked)

unfoldable pub give_of : Sending → List ℕ → Sending
give_of s bs = record {
  given = s.given + taken_of s bs;
  closed = s.closed;
  acked = s.acked;
  next = s.next;
  limit = s.limit;
  bytes = s.bytes ++ take (taken_of s bs) bs;
  kept = s.kept;
  probed = s.probed;
}

unfoldable pub finish_of : Sending → Sending
finish_of s = record {
  given = s.given;
  closed = 1;
  acked = s.acked;
  next = s.next;
  limit = s.limit;
  bytes = s.bytes;
  kept = s.kept;
  probed = s.probed;
}
