-- Step 2, and then step 3. Assumes nothing.
use Rattle.std.proofs.Common.{◌≡◌, ◌∙◌, refl, length, take, drop, List, [], ◌++◌, ℕ, ◌+◌, ◌-◌, ◌≤◌, arith, length-append}
use borrow.Rule.Slice.PartMut.{put_mid}
use Rattle.wire.specs.Datagram.{wire}
use Rattle.segments.specs.declared.Tick.{Tick}
use Rattle.segments.specs.declared.Stamp.{Stamp}
use Rattle.segments.specs.declared.Line.{Line}
use Rattle.segments.specs.declared.Row.{Row}
use Rattle.segments.specs.declared.Wrote.{Wrote}
use Rattle.segments.specs.declared.Added.{Added}
use Rattle.segments.specs.Segments.{segs}
use Rattle.segments.specs.Steps.{resend_of, cut_of, cuts_of}
use Rattle.segments.specs.Outcome.{DidResend, DidCut}
use Rattle.segments.specs.WireLaws.{wire_append, over_rest}
use Rattle.segments.specs.StepLaws.{cut_same}

-- what n datagrams leave of a tick's allowance and numbers
abbrev pub less : Tick → ℕ → Tick
less w n = record { now = w.now; every = w.every; allowed = w.allowed - n }

abbrev pub past : Stamp → ℕ → Stamp
past e n = record { epoch = e.epoch; number = e.number + n }

-- step 2 and then step 3, in the rest of the buffer
pub both : (w : Tick) (e : Stamp) (l : Line) (p : Row) (part : ℕ → ℕ → List ℕ) (ends times out : List ℕ) (r : Wrote) (t x : List ℕ) (c : Added) (b' t' y : List ℕ) (k : ℕ)
    → DidResend w e p out ends (resend_of w l part p.acked (segs ends times p.oldest p.kept)) r t x → length x ≤ r.bytes + k
    → DidCut (less w r.count) (past e r.count) p (take k (drop r.bytes x))
    (cut_of (less w r.count) l part (w.allowed - r.count) (record { next = p.next; sent = []; kept = segs ends t p.oldest p.kept })) c b' t' y
    → DidCut w e p out (cuts_of w l part p.acked p.next (segs ends times p.oldest p.kept))
    (record { bytes = r.bytes + c.bytes; count = r.count + c.count; next = c.next; kept = c.kept }) b' t' (put_mid r.bytes k x y)
unfolding cuts_of
both w e l p part ends times out r t x c b' t' y k d b g =
    let R = resend_of w l part p.acked (segs ends times p.oldest p.kept) in
    let C = cut_of w l part (w.allowed - length R.sent) (record { next = p.next; sent = []; kept = R.kept }) in
    let same : cut_of (less w r.count) l part (w.allowed - r.count) (record { next = p.next; sent = []; kept = segs ends t p.oldest p.kept }) ≡ C =
    cut_same (less w r.count) w l part (w.allowed - r.count) _ refl ∙ rw (d.count, d.noted) in
    let f : DidCut (less w r.count) (past e r.count) p (take k (drop r.bytes x)) C c b' t' y = rw same at g in
    let n : e.number + r.count ≡ e.number + length R.sent = omega (arith, d.count) in
    let ws : wire e.epoch e.number (C.sent ++ R.sent) ≡ wire e.epoch e.number R.sent ++ wire e.epoch (e.number + r.count) C.sent =
    wire_append e.epoch e.number C.sent R.sent ∙ rw n in
    record {
      wrote = rw ws (over_rest _ _ out x y r.bytes k d.wrote d.bytes b f.wrote);
      bytes = rw (ws, length-append) (omega (arith, d.bytes, f.bytes));
      count = rw length-append (omega (arith, d.count, f.count));
      next = f.next;
      many = f.many;
      noted = f.noted;
      ends_size = f.ends_size;
      times_size = f.times_size;
      small = omega (arith, d.small, f.small);
      few = omega (arith, d.few, f.few);
      kept = f.kept;
    }
