-- What the functions' promises say of a sound side: it is as the definition has it, and sound. Assumes nothing.
use Rattle.std.specs.Prelude.{◌≡◌, Bool, true, List, [], ◌++◌, take, drop}
use Rattle.std.proofs.Math.Path.{refl, sym}
use Rattle.std.proofs.Common.{ap, ◌∙◌, le_of_suc-le-suc, not-suc-le-zero, length-take}
use Prim.Native.Nat.{ℕ, zero, suc, ◌+◌, ◌-◌, ◌≤◌, ◌<◌}
use Rattle.std.proofs.Math.Decide.{dec_lt}
use native.Mathlib.Omega.{arith}
use Rattle.std.proofs.Math.ListN.{length}
use Rattle.laws.specs.Over.{over}
use Rattle.ring.specs.Ring.{capacity, span}
use Rattle.ring.specs.SpanLaws.{put_span}
use Rattle.wire.specs.Datagram.{wire}
use Rattle.segments.specs.declared.Tick.{Tick}
use Rattle.segments.specs.declared.Stamp.{Stamp}
use Rattle.segments.specs.declared.Line.{Line}
use Rattle.segments.specs.declared.Row.{Row}
use Rattle.sending.specs.declared.Sent.{Sent}
use Rattle.sending.specs.declared.Credit.{Credit}
use Rattle.sending.specs.Sending.{Segment, Probed, fresh, start_of, part_of, size_of, data_of}
use Rattle.sending.specs.Giving.{taken_of, give_of, finish_of}
use Rattle.sending.specs.Acking.{ack_of}
use Rattle.sending.specs.Steps.{again_of, resend_of, after, Cut, cut_to, cut_one, cut_of, cuts_of, probe_of, steps_of, send_of}
use Rattle.sending.specs.Buffers.{word_of, sending_of, fresh_line, fresh_row, Chain, Orderly, Sound, Plausible}
use Rattle.segments.specs.Segments.{segs}
use Rattle.sending.specs.Buffers.Chain.{none, one}
use Rattle.sending.specs.Outcome.{Sends, Acked, Granted, Gave, Tells}
use Rattle.sending.specs.GiveLaws.{room_closed, room_small}
use Rattle.segments.specs.SegmentLaws.{segs_length}
use Rattle.sending.specs.OrderLaws.{orderly_fresh, chain_up, acked_next, next_given, orderly_give, orderly_finish, dropped, orderly_ack, orderly_send, Kept, kept_cut, kept_resend, begun}

-- parts of a stretch of the ring
take_span : (r : List ℕ) (p n m : ℕ) → m ≤ n → take m (span r p n) ≡ span r p m
unfolding span
take_span r p n zero h = refl
take_span r p zero (suc m) h = absurd (not-suc-le-zero h)
take_span r p (suc n) (suc m) h = rw (take_span r (p + 1) n m (le_of_suc-le-suc h))

span_at_is : (r : List ℕ) {p q m n : ℕ} → p ≡ q → m ≡ n → span r p m ≡ span r q n
span_at_is r e f = rw (e, f)

drop_span : (r : List ℕ) (p n k : ℕ) → drop k (span r p n) ≡ span r (p + k) (n - k)
unfolding span
drop_span r p n zero = span_at_is r {p = p} {q = p + 0} {m = n} {n = n - 0} (omega arith) (omega arith)
drop_span r p zero (suc k) = let z : 0 - suc k ≡ 0 = omega arith in rw z
drop_span r p (suc n) (suc k) =
    drop_span r (p + 1) n k ∙ span_at_is r {p = p + 1 + k} {q = p + suc k} {m = n - k} {n = suc n - suc k} (omega arith) (omega arith)

-- the ring's bytes are the list's
module _ (l : Line) (p : Row) (probed : ℕ) (ring ends times : List ℕ) where
  part_span : (a n : ℕ) → p.acked ≤ a → n ≤ l.given - a → span ring a n ≡ part_of (sending_of l p probed ring ends times) a n
  unfolding part_of sending_of
  part_span a n h k =
      let e : p.acked + (a - p.acked) ≡ a = omega arith in
      sym (rw (drop_span ring p.acked (l.given - p.acked) (a - p.acked), e) (take_span ring a (l.given - p.acked - (a - p.acked)) n (omega arith)))

  data_part : (a b : ℕ) → p.acked ≤ a → data_of l.given (span ring) a b ≡ data_of l.given (part_of (sending_of l p probed ring ends times)) a b
  unfolding data_of
  data_part a b h = rw (part_span a (size_of l.given a b) h (omega arith))

-- two ways to the same bytes from acked on give the same steps
module _ (w : Tick) (l : Line) (acked : ℕ) (f g : ℕ → ℕ → List ℕ) (same : (a b : ℕ) → acked ≤ a → data_of l.given f a b ≡ data_of l.given g a b) where
  resend_part : {given : ℕ} {gs : List Segment} → Chain acked given gs → resend_of w l f acked gs ≡ resend_of w l g acked gs
  unfolding resend_of again_of
  resend_part none = refl
  resend_part (one {g} {gs} a b c) = rw (resend_part c, same (start_of acked gs) g.to (chain_up c))

  cut_part : (n : ℕ) (c : Cut) → Kept acked l c → cut_of w l f n c ≡ cut_of w l g n c
  unfolding cut_of cut_one
  cut_part zero c k = refl
  cut_part (suc n) c k =
      let d = cut_of w l g n c in
      let i = kept_cut w l acked g n c k in
      let h : acked ≤ d.next = omega (arith, i.last, chain_up i.chain) in
      rw (cut_part n c k, same d.next (cut_to l d.next) h)

  steps_part : (probed : Probed) (next : ℕ) (gs : List Segment) → Kept acked l (record { next = next; sent = []; kept = gs })
      → steps_of w l probed f acked next gs ≡ steps_of w l probed g acked next gs
  unfolding steps_of cuts_of
  steps_part probed next gs k =
      let R = resend_of w l g acked gs in
      rw (resend_part k.chain)
      (ap (λ (c : Cut). probe_of w l probed (after R c)) (cut_part (w.allowed - length R.sent) (record { next = next; sent = []; kept = R.kept }) (kept_resend w l acked g next gs k)))

-- THE CALLS
-- a fresh side
pub record FreshEnd (ring ends times : List ℕ) : Type 0 where
  pub side : sending_of fresh_line fresh_row 0 ring ends times ≡ fresh
  pub sound : Sound fresh_line fresh_row 0 ring ends times

pub fresh_end : (ring ends times : List ℕ) → FreshEnd ring ends times
unfolding sending_of fresh fresh_line fresh_row span segs word_of
fresh_end ring ends times = record { side = refl; sound = record { orderly = orderly_fresh; oldest = omega arith } }

-- give
abbrev pub longer : Line → ℕ → Line
longer l n = record { given = l.given + n; closed = l.closed; limit = l.limit }

pub record GivenEnd (l : Line) (p : Row) (probed : ℕ) (ring ends times bytes : List ℕ) (n : ℕ) (ring' : List ℕ) : Type 0 where
  pub count : n ≡ taken_of (sending_of l p probed ring ends times) bytes
  pub side : sending_of (longer l n) p probed ring' ends times ≡ give_of (sending_of l p probed ring ends times) bytes
  pub sound : Sound (longer l n) p probed ring' ends times

no_bytes : (r s : List ℕ) (a : ℕ) (bs : List ℕ) → span r a 0 ≡ span s a 0 ++ take 0 bs
unfolding span
no_bytes r s a bs = refl

module _ (l : Line) (acked : ℕ) (ring bytes : List ℕ) (n : ℕ) (ring' : List ℕ) (g : Gave l acked ring bytes n ring') where
  given_bytes : acked ≤ l.given + l.closed → l.closed ≤ 1 → l.given ≤ acked + capacity → span ring' acked (l.given + n - acked) ≡ span ring acked (l.given - acked) ++ take n bytes
  given_bytes top closed room = go (dec_lt l.given acked)
    where
      go : Dec (l.given < acked) → span ring' acked (l.given + n - acked) ≡ span ring acked (l.given - acked) ++ take n bytes
      go (yes h) =
          let c = room_closed l acked (omega arith) in
          let z : n ≡ 0 = omega (arith, g.count) in
          let a : l.given - acked ≡ 0 = omega arith in
          let b : l.given + n - acked ≡ 0 = omega arith in
          rw (b, a, z) (no_bytes ring' ring acked bytes)
      go (no h) =
          let small = room_small l acked in
          let k : length (take n bytes) ≡ n = length-take n bytes ∙ (omega (arith, g.count)) in
          let e : l.given + n - acked ≡ l.given - acked + length (take n bytes) = omega arith in
          rw e (put_span acked (l.given - acked) g.put (omega arith) (omega (arith, g.count)))

module _ (l : Line) (p : Row) (probed : ℕ) (ring ends times : List ℕ) where
  given_count : (bytes : List ℕ) (n : ℕ) (ring' : List ℕ) → Gave l p.acked ring bytes n ring' → n ≡ taken_of (sending_of l p probed ring ends times) bytes
  unfolding sending_of
  given_count bytes n ring' g = g.count

  given_side : (bytes : List ℕ) (n : ℕ) (ring' : List ℕ) → Gave l p.acked ring bytes n ring' → Orderly (sending_of l p probed ring ends times)
      → sending_of (longer l n) p probed ring' ends times ≡ give_of (sending_of l p probed ring ends times) bytes
  unfolding sending_of give_of
  given_side bytes n ring' g o =
      let a = acked_next o in
      rw (← g.count, given_bytes l p.acked ring bytes n ring' g (omega (arith, o.top)) o.closed o.room)

  pub given_end : (bytes : List ℕ) (n : ℕ) (ring' : List ℕ) → Gave l p.acked ring bytes n ring' → Sound l p probed ring ends times → GivenEnd l p probed ring ends times bytes n ring'
  given_end bytes n ring' g s =
      let e = given_side bytes n ring' g s.orderly in
      record {
        count = given_count bytes n ring' g;
        side = e;
        sound = record { orderly = rw e (orderly_give (sending_of l p probed ring ends times) bytes s.orderly); oldest = s.oldest };
      }

-- finish
abbrev pub shut : Line → Line
shut l = record { given = l.given; closed = 1; limit = l.limit }

pub record FinishedEnd (l : Line) (p : Row) (probed : ℕ) (ring ends times : List ℕ) : Type 0 where
  pub side : sending_of (shut l) p probed ring ends times ≡ finish_of (sending_of l p probed ring ends times)
  pub sound : Sound (shut l) p probed ring ends times

pub finished_end : (l : Line) (p : Row) (probed : ℕ) (ring ends times : List ℕ) → Sound l p probed ring ends times → FinishedEnd l p probed ring ends times
unfolding sending_of finish_of
finished_end l p probed ring ends times s = record { side = refl; sound = record { orderly = orderly_finish _ s.orderly; oldest = s.oldest } }

-- an ACK
abbrev pub raised : Line → Credit → Line
raised l c = record { given = l.given; closed = l.closed; limit = c.limit }

pub record AckedEnd (l : Line) (p : Row) (probed : ℕ) (ring ends times : List ℕ) (position credit : ℕ) (r : Row) (c : Credit) : Type 0 where
  pub side : sending_of (raised l c) r c.probed ring ends times ≡ ack_of (sending_of l p probed ring ends times) position credit
  pub sound : Sound (raised l c) r c.probed ring ends times

module _ (l : Line) (p : Row) (probed : ℕ) (ring ends times : List ℕ) (position credit : ℕ) (r : Row) (c : Credit) where
  acked_side : Acked ends p position r → Granted l.limit probed (position + credit) c → Orderly (sending_of l p probed ring ends times)
      → sending_of (raised l c) r c.probed ring ends times ≡ ack_of (sending_of l p probed ring ends times) position credit
  unfolding sending_of ack_of
  acked_side a g o =
      let k = a.kept times l.given o.chain in
      let e = a.acked times l.given o.chain in
      let u : p.acked ≤ r.acked = omega (arith, e, (dropped position o.chain).up) in
      let i : p.acked + (r.acked - p.acked) ≡ r.acked = omega arith in
      let j : l.given - p.acked - (r.acked - p.acked) ≡ l.given - r.acked = omega arith in
      rw (← e, k, a.next, g.highest, g.last, drop_span ring p.acked (l.given - p.acked) (r.acked - p.acked), i, j)

  pub acked_end : Acked ends p position r → Granted l.limit probed (position + credit) c → Sound l p probed ring ends times → AckedEnd l p probed ring ends times position credit r c
  acked_end a g s =
      let e = acked_side a g s.orderly in
      record { side = e; sound = record { orderly = rw e (orderly_ack (sending_of l p probed ring ends times) position credit s.orderly); oldest = a.oldest } }

-- a tick
abbrev pub moved : Row → Sent → Row
moved p r = record { acked = p.acked; next = r.next; oldest = p.oldest; kept = r.kept }

pub record SentEnd (w : Tick) (e : Stamp) (l : Line) (p : Row) (probed : ℕ) (ring ends times out : List ℕ) (r : Sent) (ends' times' x : List ℕ) : Type 0 where
  pub side : sending_of l (moved p r) r.probed ring ends' times' ≡ (send_of w (sending_of l p probed ring ends times)).side
  pub wrote : x ≡ over (wire e.epoch e.number (send_of w (sending_of l p probed ring ends times)).sent) out
  pub bytes : r.bytes ≡ length (wire e.epoch e.number (send_of w (sending_of l p probed ring ends times)).sent)
  pub count : r.count ≡ length (send_of w (sending_of l p probed ring ends times)).sent
  pub sound : Sound l (moved p r) r.probed ring ends' times'

module _ (w : Tick) (e : Stamp) (l : Line) (p : Row) (probed : ℕ) (ring ends times out : List ℕ) (r : Sent) (ends' times' x : List ℕ) where
  sent_steps : Orderly (sending_of l p probed ring ends times)
      → steps_of w l (word_of probed) (span ring) p.acked p.next (segs ends times p.oldest p.kept)
      ≡ steps_of w l (word_of probed) (part_of (sending_of l p probed ring ends times)) p.acked p.next (segs ends times p.oldest p.kept)
  unfolding sending_of
  sent_steps o =
      steps_part w l p.acked (span ring) (part_of (sending_of l p probed ring ends times)) (data_part l p probed ring ends times) (word_of probed) p.next
      (segs ends times p.oldest p.kept) (begun o)

  sent_side : Sends w e l p probed ring ends times out r ends' times' x → Orderly (sending_of l p probed ring ends times)
      → sending_of l (moved p r) r.probed ring ends' times' ≡ (send_of w (sending_of l p probed ring ends times)).side
  unfolding sending_of send_of
  sent_side d o = rw (d.next, d.noted, d.probed, sent_steps o)

  pub sent_end : Sends w e l p probed ring ends times out r ends' times' x → Sound l p probed ring ends times
      → SentEnd w e l p probed ring ends times out r ends' times' x
  unfolding sending_of send_of
  sent_end d s =
      let o = s.orderly in
      let i = sent_side d o in
      let q = sent_steps o in
      record {
        side = i;
        wrote = rw (← q) d.wrote;
        bytes = rw (← q) d.bytes;
        count = rw (← q) d.count;
        sound = record { orderly = rw i (orderly_send w _ o); oldest = s.oldest };
      }

-- a sound side's scalars are plausible
pub sound_plausible : {l : Line} {p : Row} {probed : ℕ} {ring ends times : List ℕ} → Sound l p probed ring ends times → Plausible l p
unfolding sending_of
sound_plausible {l} {p} {probed} {ring} {ends} {times} s =
    let o = s.orderly in
    let k = segs_length ends times p.oldest p.kept in
    record {
      given = o.whole;
      closed = o.closed;
      acked = acked_next o;
      next = next_given o;
      room = o.room;
      oldest = s.oldest;
      kept = omega (arith, o.few);
    }

pub tells_sound : {b : Bool} {l : Line} {p : Row} {probed : ℕ} {ring ends times : List ℕ} → Tells b (Plausible l p) → Sound l p probed ring ends times → b ≡ true
tells_sound t s = t.only (sound_plausible s)
