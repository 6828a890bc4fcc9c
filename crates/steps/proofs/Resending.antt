-- The loop of resend: what it has done is what the definition does with the segments that it has passed. Assumes nothing.
use Rattle.std.proofs.Common.{◌≡◌, ◌∙◌, refl, Bool, true, false, length, set, sym, add-zero, add-one, arith, length-set, length-append, List, ◌∷◌, ◌++◌, ℕ, zero, suc, ◌+◌, ◌-◌, ◌*◌, ◌%◌, ◌≤◌, ◌<◌, get_or, get_or-set_same, get_or-set_other}
use Rattle.laws.specs.Over.{Over}
use Rattle.laws.specs.OverLaws.{over_none, over_more, over_length}
use Rattle.ring.specs.Ring.{span}
use Rattle.wire.specs.Datagram.{encode, wire}
use Rattle.segments.specs.declared.Tick.{Tick}
use Rattle.segments.specs.declared.Stamp.{Stamp}
use Rattle.segments.specs.declared.Line.{Line}
use Rattle.segments.specs.declared.Row.{Row}
use Rattle.segments.specs.Segments.{segments_most, Segment, start_of, data_of}
use Rattle.segments.specs.Steps.{due_of, resend_of}
use Rattle.segments.specs.Segments.{segs}
use Rattle.segments.specs.Outcome.{datagram_most, SentOne, Room, DidResend}
use Rattle.segments.specs.WireLaws.{wire_more}
use Rattle.segments.specs.SegmentLaws.{seg, segs_more, segs_set}
use Rattle.segments.specs.StepLaws.{again_skip, again_send, due_allowed, due_none}

-- the loop has passed i segments
pub record Resending (w : Tick) (e : Stamp) (l : Line) (p : Row) (ring ends times out : List ℕ) (i from o n : ℕ) (t x : List ℕ) : Type 0 where
  pub starts : from ≡ start_of p.acked (segs ends times p.oldest i)
  pub wrote : Over (wire e.epoch e.number (resend_of w l (span ring) p.acked (segs ends times p.oldest i)).sent) out x
  pub bytes : o ≡ length (wire e.epoch e.number (resend_of w l (span ring) p.acked (segs ends times p.oldest i)).sent)
  pub count : n ≡ length (resend_of w l (span ring) p.acked (segs ends times p.oldest i)).sent
  pub noted : segs ends t p.oldest i ≡ (resend_of w l (span ring) p.acked (segs ends times p.oldest i)).kept
  pub ahead : (j : ℕ) → i ≤ j → j < segments_most → get_or t ((p.oldest + j) % segments_most) 0 ≡ get_or times ((p.oldest + j) % segments_most) 0
  pub size : length t ≡ segments_most
  pub long : length x ≡ length out
  pub small : o ≤ datagram_most * n
  pub few : n ≤ w.allowed

pub resending_none : (w : Tick) (e : Stamp) (l : Line) (p : Row) (ring ends times out : List ℕ) → length times ≡ segments_most
    → Resending w e l p ring ends times out 0 p.acked 0 0 times out
unfolding segs wire start_of resend_of
resending_none w e l p ring ends times out h = record {
  starts = refl;
  wrote = over_none out;
  bytes = refl;
  count = refl;
  noted = refl;
  ahead = λ j l b. refl;
  size = h;
  long = refl;
  small = omega arith;
  few = omega arith;
}

skip : {w : Tick} {e : Stamp} {l : Line} {p : Row} {ring ends times out : List ℕ} {i from o n : ℕ} {t x : List ℕ} → Resending w e l p ring ends times out i from o n t x
    → Room w e l p out ring ends times → i < p.kept → {q : Bool} → q ≡ due_of w (get_or t ((p.oldest + i) % segments_most) 0) n → q ≡ false
    → Resending w e l p ring ends times out (i + 1) (get_or ends ((p.oldest + i) % segments_most) 0) o n t x
unfolding start_of
skip {w} {e} {l} {p} {ring} {ends} {times} {out} {i} {from} {o} {n} {t} {x} r ok lo {q} u v =
    let b : i < segments_most = omega (arith, ok.kept) in
    let h : due_of w (get_or t ((p.oldest + i) % segments_most) 0) n ≡ false = sym u ∙ v in
    let gs = segs ends times p.oldest i in
    let g : Segment = seg ends times (p.oldest + i) in
    let m : segs ends times p.oldest (i + 1) ≡ g ∷ gs = segs_more ends times p.oldest i in
    let same : get_or t ((p.oldest + i) % segments_most) 0 ≡ g.at = r.ahead i (omega arith) b in
    let s = again_skip w l (span ring) p.acked g gs (rw (same, r.count) at h) in
    record {
      starts = rw m;
      wrote = rw (m, s) r.wrote;
      bytes = rw (m, s) r.bytes;
      count = rw (m, s) r.count;
      noted = rw (m, s, segs_more ends t p.oldest i, same, r.noted);
      ahead = λ j lo hi. r.ahead j (omega arith) hi;
      size = r.size;
      long = r.long;
      small = r.small;
      few = r.few;
    }

send : {w : Tick} {e : Stamp} {l : Line} {p : Row} {ring ends times out : List ℕ} {i from o n : ℕ} {t x : List ℕ} {m : ℕ} {x' : List ℕ}
    → Resending w e l p ring ends times out i from o n t x
    → Room w e l p out ring ends times → i < p.kept → {q : Bool} → q ≡ due_of w (get_or t ((p.oldest + i) % segments_most) 0) n → q ≡ true
    → SentOne x o (encode e.epoch (e.number + n + 1) (data_of l.given (span ring) from (get_or ends ((p.oldest + i) % segments_most) 0))) m x'
    → Resending w e l p ring ends times out (i + 1) (get_or ends ((p.oldest + i) % segments_most) 0) (o + m) (n + 1) (set t ((p.oldest + i) % segments_most) w.now) x'
unfolding start_of
send {w} {e} {l} {p} {ring} {ends} {times} {out} {i} {from} {o} {n} {t} {x} {m} {x'} r ok lo {q} u v d =
    let b : i < segments_most = omega (arith, ok.kept) in
    let fits : datagram_most * w.allowed ≤ length out = ok.out_size in
    let h : due_of w (get_or t ((p.oldest + i) % segments_most) 0) n ≡ true = sym u ∙ v in
    let c : ℕ = (p.oldest + i) % segments_most in
    let gs = segs ends times p.oldest i in
    let k = resend_of w l (span ring) p.acked gs in
    let g : Segment = seg ends times (p.oldest + i) in
    let more : segs ends times p.oldest (i + 1) ≡ g ∷ gs = segs_more ends times p.oldest i in
    let same : get_or t c 0 ≡ g.at = r.ahead i (omega arith) b in
    let s = again_send w l (span ring) p.acked g gs (rw (same, r.count) at h) in
    let at : get_or (set t c w.now) c 0 ≡ w.now = get_or-set_same t c w.now 0 (omega (arith, r.size)) in
    let D = encode e.epoch (e.number + n + 1) (data_of l.given (span ring) from (get_or ends c 0)) in
    let D' = encode e.epoch (e.number + length k.sent + 1) (data_of l.given (span ring) (start_of p.acked gs) (get_or ends c 0)) in
    let W = wire e.epoch e.number k.sent in
    let e_d : D ≡ D' = rw (r.count, r.starts) in
    let lt : n < w.allowed = due_allowed w _ n u v in
    let ov : Over (W ++ D) out x' = rw d.is (over_more D D o (length D) r.wrote refl r.bytes refl) in
    let len : length (W ++ D) ≡ o + m = rw length-append (omega (arith, r.bytes, d.size)) in
    record {
      starts = rw more;
      wrote = rw (more, s, wire_more, ← e_d) ov;
      bytes = rw (more, s, wire_more, ← e_d) (sym len);
      count = rw (more, s, r.count, add-one);
      noted = rw (more, s, segs_more ends (set t c w.now) p.oldest i, at, segs_set ends t p.oldest i w.now b, r.noted);
      ahead = λ j lo hi. get_or-set_other t c ((p.oldest + j) % segments_most) w.now 0 (λ q. omega arith) ∙ r.ahead j (omega arith) hi;
      size = length-set t c w.now ∙ r.size;
      long = over_length ov (omega (arith, d.small, r.small));
      small = omega (arith, d.small, r.small);
      few = omega arith;
    }

-- with the place of segment i
pub resending_skip : {w : Tick} {e : Stamp} {l : Line} {p : Row} {ring ends times out : List ℕ} {i from o n : ℕ} {t x : List ℕ} {at : ℕ} → Resending w e l p ring ends times out i from o n t x
    → Room w e l p out ring ends times → i < p.kept → at ≡ (p.oldest + i) % segments_most → {q : Bool} → q ≡ due_of w (get_or t at 0) n → q ≡ false
    → Resending w e l p ring ends times out (i + 1) (get_or ends at 0) o n t x
resending_skip r ok lo is u v = rw is (skip r ok lo (rw is at u) v)

pub resending_send : {w : Tick} {e : Stamp} {l : Line} {p : Row} {ring ends times out : List ℕ} {i from o n : ℕ} {t x : List ℕ} {m at : ℕ} {x' : List ℕ}
    → Resending w e l p ring ends times out i from o n t x
    → Room w e l p out ring ends times → i < p.kept → at ≡ (p.oldest + i) % segments_most → {q : Bool} → q ≡ due_of w (get_or t at 0) n → q ≡ true
    → SentOne x o (encode e.epoch (e.number + n + 1) (data_of l.given (span ring) from (get_or ends at 0))) m x'
    → Resending w e l p ring ends times out (i + 1) (get_or ends at 0) (o + m) (n + 1) (set t at w.now) x'
resending_send r ok lo is u v d = rw is (send r ok lo (rw is at u) v (rw is at d))

pub resending_all : {w : Tick} {e : Stamp} {l : Line} {p : Row} {ring ends times out : List ℕ} {i from o n : ℕ} {t x : List ℕ}
    → Resending w e l p ring ends times out i from o n t x → i ≤ p.kept → p.kept ≤ i
    → DidResend w e p out ends (resend_of w l (span ring) p.acked (segs ends times p.oldest p.kept)) (record { bytes = o; count = n }) t x
resending_all {p = p} {i = i} r a b =
    let q : p.kept ≡ i = omega arith in
    rw q (record { wrote = r.wrote.is; bytes = r.bytes; count = r.count; noted = r.noted; times_size = r.size; small = r.small; few = r.few })

-- nothing more is allowed: the rest stays
resending_rest : {w : Tick} {e : Stamp} {l : Line} {p : Row} {ring ends times out : List ℕ} {i from o n : ℕ} {t x : List ℕ} → (d : ℕ)
    → Resending w e l p ring ends times out i from o n t x → Room w e l p out ring ends times → i + d ≤ p.kept → w.allowed ≤ n
    → Resending w e l p ring ends times out (i + d) (start_of p.acked (segs ends times p.oldest (i + d))) o n t x
resending_rest zero r ok b h = rw (add-zero, ← r.starts) r
resending_rest {w} {p = p} {i = i} {n = n} {t = t} (suc d) r ok b h =
    let s = resending_rest d r ok (omega arith) h in
    let u = skip s ok (omega arith) refl (due_none w (get_or t ((p.oldest + (i + d)) % segments_most) 0) n h) in
    let q : i + suc d ≡ i + d + 1 = omega arith in
    rw (q, ← u.starts) u

pub resending_full : {w : Tick} {e : Stamp} {l : Line} {p : Row} {ring ends times out : List ℕ} {i from o n : ℕ} {t x : List ℕ}
    → Resending w e l p ring ends times out i from o n t x → Room w e l p out ring ends times → i ≤ p.kept → w.allowed ≤ n
    → DidResend w e p out ends (resend_of w l (span ring) p.acked (segs ends times p.oldest p.kept)) (record { bytes = o; count = n }) t x
resending_full {p = p} {i = i} r ok b h = resending_all (resending_rest (p.kept - i) r ok (omega arith) h) (omega arith) (omega arith)
