-- A sending side, read out of the lent buffers: bytes of the stream at position % 65,536, segment number s at s % 64.
use Rattle.std.specs.Prelude.{◌≡◌, List, [], ◌∷◌, ℕ, zero, suc, ◌+◌, ◌-◌, ◌≤◌, ◌<◌, min, length}
use Rattle.ring.specs.Ring.{capacity, span}
use Rattle.wire.specs.Datagram.{payload_most, ceiling}
use Rattle.segments.specs.declared.Line.{Line}
use Rattle.segments.specs.declared.Row.{Row}
use Rattle.segments.specs.Segments.{segs}
use Rattle.sending.specs.Sending.{segments_most, Segment, Probed, never, tick, Sending, start_of}

-- a word: 0, or one more than the tick
unfoldable pub word_of : ℕ → Probed
word_of zero = never
word_of (suc t) = tick t

unfoldable pub sending_of : Line → Row → ℕ → List ℕ → List ℕ → List ℕ → Sending
sending_of l p probed ring ends times = record {
  given = l.given;
  closed = l.closed;
  acked = p.acked;
  next = p.next;
  limit = l.limit;
  bytes = span ring p.acked (l.given - p.acked);
  kept = segs ends times p.oldest p.kept;
  probed = word_of probed;
}

-- a fresh one's scalars; its PROBE is the word 0
unfoldable pub fresh_line : Line
fresh_line = record { given = 0; closed = 0; limit = capacity }

unfoldable pub fresh_row : Row
fresh_row = record { acked = 0; next = 0; oldest = 0; kept = 0 }

-- each segment starts where the one before it ends, the oldest at acked; none is empty, and none has more bytes than a DATA
pub data Chain (acked given : ℕ) : List Segment → Type 0 where
  none : Chain acked given []
  one : {g : Segment} {gs : List Segment} → start_of acked gs < g.to → min g.to given ≤ start_of acked gs + payload_most → Chain acked given gs → Chain acked given (g ∷ gs)

-- what holds of every sending side that began fresh
pub record Orderly (s : Sending) : Type 0 where
  pub chain : Chain s.acked s.given s.kept
  pub last : s.next ≡ start_of s.acked s.kept
  pub few : length s.kept ≤ segments_most
  -- the END, one position more, is sent after finish only
  pub top : s.next ≤ s.given + s.closed
  pub closed : s.closed ≤ 1
  -- no byte is sent beyond the limit
  pub within : min s.next s.given ≤ s.limit
  pub held : length s.bytes ≡ s.given - s.acked
  pub room : s.given ≤ s.acked + capacity
  pub whole : s.given ≤ ceiling

pub record Sound (l : Line) (p : Row) (probed : ℕ) (ring ends times : List ℕ) : Type 0 where
  pub orderly : Orderly (sending_of l p probed ring ends times)
  pub oldest : p.oldest < segments_most

-- what the scalars of a sound side are; enough for every call to stay inside its buffers
pub record Plausible (l : Line) (p : Row) : Type 0 where
  pub given : l.given ≤ ceiling
  pub closed : l.closed ≤ 1
  pub acked : p.acked ≤ p.next
  pub next : p.next ≤ l.given + 1
  pub room : l.given ≤ p.acked + capacity
  pub oldest : p.oldest < segments_most
  pub kept : p.kept ≤ segments_most
