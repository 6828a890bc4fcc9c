-- What steps 2 and 3 promise of the lent buffers, whatever these hold.
use Rattle.std.specs.Prelude.{◌≡◌, List, [], ℕ, ◌+◌, ◌*◌, ◌≤◌, ◌<◌, length}
use Rattle.laws.specs.Over.{over}
use Rattle.ring.specs.Ring.{capacity, span}
use Rattle.wire.specs.Datagram.{ceiling, wire}
use Rattle.segments.specs.declared.Tick.{Tick}
use Rattle.segments.specs.declared.Stamp.{Stamp}
use Rattle.segments.specs.declared.Line.{Line}
use Rattle.segments.specs.declared.Row.{Row}
use Rattle.segments.specs.declared.Wrote.{Wrote}
use Rattle.segments.specs.declared.Added.{Added}
use Rattle.segments.specs.Segments.{segments_most, datagrams_most, segs}
use Rattle.segments.specs.Steps.{Resent, resend_of, Cut, cut_of, cuts_of}
pub use Rattle.output.specs.Output.{datagram_most, SentOne}

-- the buffers are as long as they are to be, the scalars are plausible, and clock and numbers last
pub record Room (w : Tick) (e : Stamp) (l : Line) (p : Row) (out ring ends times : List ℕ) : Type 0 where
  pub ring_size : length ring ≡ capacity
  pub ends_size : length ends ≡ segments_most
  pub times_size : length times ≡ segments_most
  pub given : l.given ≤ ceiling
  pub oldest : p.oldest < segments_most
  pub kept : p.kept ≤ segments_most
  pub now : w.now ≤ ceiling
  pub most : w.allowed ≤ datagrams_most
  pub numbers : e.number + w.allowed < ceiling
  pub out_size : datagram_most * w.allowed ≤ length out

-- step 2 was done: its datagrams stand in x one after the other, its segments in the tables
pub record DidResend (w : Tick) (e : Stamp) (p : Row) (out ends : List ℕ) (work : Resent) (r : Wrote) (times' x : List ℕ) : Type 0 where
  pub wrote : x ≡ over (wire e.epoch e.number work.sent) out
  pub bytes : r.bytes ≡ length (wire e.epoch e.number work.sent)
  pub count : r.count ≡ length work.sent
  pub noted : segs ends times' p.oldest p.kept ≡ work.kept
  pub times_size : length times' ≡ segments_most
  pub small : r.bytes ≤ datagram_most * r.count
  pub few : r.count ≤ w.allowed

-- step 3 was done
pub record DidCut (w : Tick) (e : Stamp) (p : Row) (out : List ℕ) (work : Cut) (r : Added) (ends' times' x : List ℕ) : Type 0 where
  pub wrote : x ≡ over (wire e.epoch e.number work.sent) out
  pub bytes : r.bytes ≡ length (wire e.epoch e.number work.sent)
  pub count : r.count ≡ length work.sent
  pub next : r.next ≡ work.next
  pub many : r.kept ≡ length work.kept
  pub noted : segs ends' times' p.oldest r.kept ≡ work.kept
  pub ends_size : length ends' ≡ segments_most
  pub times_size : length times' ≡ segments_most
  pub small : r.bytes ≤ datagram_most * r.count
  pub few : r.count ≤ w.allowed
  pub kept : r.kept ≤ segments_most

abbrev pub Resends : Tick → Stamp → Line → Row → List ℕ → List ℕ → List ℕ → List ℕ → Wrote → List ℕ → List ℕ → Type 0
Resends w e l p ring ends times out r times' x = DidResend w e p out ends (resend_of w l (span ring) p.acked (segs ends times p.oldest p.kept)) r times' x

abbrev pub Cuts : Tick → Stamp → Line → Row → List ℕ → List ℕ → List ℕ → List ℕ → Added → List ℕ → List ℕ → List ℕ → Type 0
Cuts w e l p ring ends times out r ends' times' x =
    DidCut w e p out (cut_of w l (span ring) w.allowed (record { next = p.next; sent = []; kept = segs ends times p.oldest p.kept })) r ends' times' x

abbrev pub Both : Tick → Stamp → Line → Row → List ℕ → List ℕ → List ℕ → List ℕ → Added → List ℕ → List ℕ → List ℕ → Type 0
Both w e l p ring ends times out r ends' times' x = DidCut w e p out (cuts_of w l (span ring) p.acked p.next (segs ends times p.oldest p.kept)) r ends' times' x
