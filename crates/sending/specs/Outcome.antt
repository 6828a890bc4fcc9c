-- What the functions promise of the lent buffers, whatever these hold.
use Rattle.std.specs.Prelude.{◌≡◌, Bool, true, List, ℕ, ◌*◌, ◌≤◌, ◌<◌, min, max, length, take}
use Rattle.laws.specs.Over.{over}
use Rattle.ring.specs.Ring.{Put, span}
use Rattle.wire.specs.Datagram.{wire}
use Rattle.segments.specs.declared.Tick.{Tick}
use Rattle.segments.specs.declared.Stamp.{Stamp}
use Rattle.segments.specs.declared.Line.{Line}
use Rattle.segments.specs.declared.Row.{Row}
use Rattle.segments.specs.Segments.{segments_most, segs}
use Rattle.sending.specs.declared.Sent.{Sent}
use Rattle.sending.specs.declared.Credit.{Credit}
use Rattle.sending.specs.Giving.{room_of}
use Rattle.sending.specs.Acking.{left_of, acked_of, probed_of}
use Rattle.sending.specs.Steps.{Work, steps_of}
use Rattle.sending.specs.Buffers.{word_of, Chain}
pub use Rattle.segments.specs.Outcome.{datagram_most, Room}

-- steps 2, 3 and 4 were done
pub record DidSend (w : Tick) (e : Stamp) (p : Row) (out : List ℕ) (work : Work) (r : Sent) (ends' times' x : List ℕ) : Type 0 where
  pub wrote : x ≡ over (wire e.epoch e.number work.sent) out
  pub bytes : r.bytes ≡ length (wire e.epoch e.number work.sent)
  pub count : r.count ≡ length work.sent
  pub next : r.next ≡ work.next
  pub noted : segs ends' times' p.oldest r.kept ≡ work.kept
  pub probed : word_of r.probed ≡ work.probed
  pub ends_size : length ends' ≡ segments_most
  pub times_size : length times' ≡ segments_most
  pub small : r.bytes ≤ datagram_most * r.count
  pub few : r.count ≤ w.allowed
  pub kept : r.kept ≤ segments_most

abbrev pub Sends : Tick → Stamp → Line → Row → ℕ → List ℕ → List ℕ → List ℕ → List ℕ → Sent → List ℕ → List ℕ → List ℕ → Type 0
Sends w e l p probed ring ends times out r ends' times' x =
    DidSend w e p out (steps_of w l (word_of probed) (span ring) p.acked p.next (segs ends times p.oldest p.kept)) r ends' times' x

-- r is p after an ACK at a position: for a chain of segments, whatever their times
pub record Acked (ends : List ℕ) (p : Row) (position : ℕ) (r : Row) : Type 0 where
  pub next : r.next ≡ p.next
  pub oldest : r.oldest < segments_most
  pub few : r.kept ≤ p.kept
  pub kept : (times : List ℕ) (given : ℕ) → Chain p.acked given (segs ends times p.oldest p.kept)
      → segs ends times r.oldest r.kept ≡ left_of position (segs ends times p.oldest p.kept)
  pub acked : (times : List ℕ) (given : ℕ) → Chain p.acked given (segs ends times p.oldest p.kept)
      → r.acked ≡ acked_of p.acked position (segs ends times p.oldest p.kept)

-- r is the limit and the last PROBE after an ACK that grants credit up to `top`
pub record Granted (limit probed top : ℕ) (r : Credit) : Type 0 where
  pub highest : r.limit ≡ max limit top
  pub last : word_of r.probed ≡ probed_of limit top (word_of probed)

-- r bytes were taken into the ring
pub record Gave (l : Line) (acked : ℕ) (ring bytes : List ℕ) (r : ℕ) (ring' : List ℕ) : Type 0 where
  pub count : r ≡ min (length bytes) (room_of l acked)
  pub put : Put ring l.given (take r bytes) ring'

-- b is true where P holds, and only there
pub record Tells (b : Bool) (P : Type 0) : Type 0 where
  pub yes : b ≡ true → P
  pub only : P → b ≡ true
