-- 01 §6 and the row 7 of §3: an ACK.
use Rattle.std.specs.Prelude.{List, [], ◌∷◌, ℕ, ◌+◌, ◌-◌, max, ltb, drop}
use Rattle.laws.specs.Choice.{if}
use Rattle.laws.specs.Rows.{when}
use Rattle.sending.specs.Sending.{Segment, Probed, never, Sending}

-- 7: a position above what was ever sent
abbrev pub ack_refusal : ℕ → ℕ → ℕ
ack_refusal next position = when (ltb next position) 7

-- a segment is kept until its end is reached
unfoldable pub left_of : ℕ → List Segment → List Segment
left_of position [] = []
left_of position (g ∷ gs) = if (ltb position g.to) (g ∷ left_of position gs) (left_of position gs)

-- the end of the newest one that is not kept
unfoldable pub acked_of : ℕ → ℕ → List Segment → ℕ
acked_of acked position [] = acked
acked_of acked position (g ∷ gs) = if (ltb position g.to) (acked_of acked position gs) g.to

-- new room: a PROBE is forgotten
abbrev pub probed_of : ℕ → ℕ → Probed → Probed
probed_of limit top probed = if (ltb limit top) never probed

unfoldable pub ack_of : Sending → ℕ → ℕ → Sending
ack_of s position credit = record {
  given = s.given;
  closed = s.closed;
  acked = acked_of s.acked position s.kept;
  next = s.next;
  limit = max s.limit (position + credit);
  bytes = drop (acked_of s.acked position s.kept - s.acked) s.bytes;
  kept = left_of position s.kept;
  probed = probed_of s.limit (position + credit) s.probed;
}
