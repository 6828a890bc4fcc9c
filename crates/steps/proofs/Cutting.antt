-- The loop of cut: what it has done after n datagrams is what the definition does in n turns. Assumes nothing.
use Rattle.std.proofs.Common.{◌≡◌, ◌∙◌, refl, length, set, sym, ap, add-one, arith, length-set, length-append, List, [], ◌++◌, ℕ, suc, ◌+◌, ◌*◌, ◌%◌, ◌≤◌, ◌<◌}
use Rattle.laws.specs.Over.{Over}
use Rattle.laws.specs.OverLaws.{over_none, over_more, over_length}
use Rattle.ring.specs.Ring.{span}
use Rattle.wire.specs.Datagram.{encode, wire}
use Rattle.segments.specs.declared.Tick.{Tick}
use Rattle.segments.specs.declared.Stamp.{Stamp}
use Rattle.segments.specs.declared.Line.{Line}
use Rattle.segments.specs.declared.Row.{Row}
use Rattle.segments.specs.Segments.{segments_most, data_of}
use Rattle.segments.specs.Steps.{Cut, cut_to, cut_of}
use Rattle.segments.specs.Segments.{segs}
use Rattle.segments.specs.Outcome.{datagram_most, SentOne, Room, Cuts}
use Rattle.segments.specs.WireLaws.{wire_more}
use Rattle.segments.specs.SegmentLaws.{segs_length, segs_add}
use Rattle.segments.specs.StepLaws.{cut_more, cut_send, cut_full, cut_nothing, cut_stays}

abbrev begun : Row → List ℕ → List ℕ → Cut
begun p ends times = record { next = p.next; sent = []; kept = segs ends times p.oldest p.kept }

-- the buffers hold what `c` says
pub record Holds (e : Stamp) (p : Row) (out : List ℕ) (c : Cut) (a k o n : ℕ) (b t x : List ℕ) : Type 0 where
  pub next : a ≡ c.next
  pub wrote : Over (wire e.epoch e.number c.sent) out x
  pub bytes : o ≡ length (wire e.epoch e.number c.sent)
  pub count : n ≡ length c.sent
  pub many : k ≡ length c.kept
  pub noted : segs b t p.oldest k ≡ c.kept

-- the loop has written n datagrams
pub record Cutting (w : Tick) (e : Stamp) (l : Line) (p : Row) (ring ends times out : List ℕ) (a k o n : ℕ) (b t x : List ℕ) : Type 0 where
  pub holds : Holds e p out (cut_of w l (span ring) n (begun p ends times)) a k o n b t x
  pub ends_size : length b ≡ segments_most
  pub times_size : length t ≡ segments_most
  pub long : length x ≡ length out
  pub small : o ≤ datagram_most * n
  pub few : n ≤ w.allowed
  pub kept : k ≤ segments_most

pub cutting_none : (w : Tick) (e : Stamp) (l : Line) (p : Row) (ring ends times out : List ℕ) → Room w e l p out ring ends times
    → Cutting w e l p ring ends times out p.next p.kept 0 0 ends times out
unfolding cut_of wire
cutting_none w e l p ring ends times out ok = record {
  holds = record {
    next = refl;
    wrote = over_none out;
    bytes = refl;
    count = refl;
    many = sym (segs_length ends times p.oldest p.kept);
    noted = refl;
  };
  ends_size = ok.ends_size;
  times_size = ok.times_size;
  long = refl;
  small = omega arith;
  few = omega arith;
  kept = ok.kept;
}

more : {w : Tick} {e : Stamp} {l : Line} {p : Row} {ring ends times out : List ℕ} {a k o n : ℕ} {b t x : List ℕ} {m to : ℕ} {x' : List ℕ}
    → Cutting w e l p ring ends times out a k o n b t x → Room w e l p out ring ends times → n < w.allowed → k < segments_most → to ≡ cut_to l a → a < to
    → SentOne x o (encode e.epoch (e.number + n + 1) (data_of l.given (span ring) a to)) m x'
    → Cutting w e l p ring ends times out to (k + 1) (o + m) (n + 1) (set b ((p.oldest + k) % segments_most) to) (set t ((p.oldest + k) % segments_most) w.now) x'
more {w} {e} {l} {p} {ring} {ends} {times} {out} {a} {k} {o} {n} {b} {t} {x} {m} {to} {x'} r ok lt few is up d =
    let c = cut_of w l (span ring) n (begun p ends times) in
    let h = r.holds in
    let fits : datagram_most * w.allowed ≤ length out = ok.out_size in
    let at : to ≡ cut_to l c.next = is ∙ ap (cut_to l) h.next in
    let u : length c.kept < segments_most = omega (arith, h.many) in
    let v : c.next < cut_to l c.next = omega (arith, h.next) in
    let g = cut_more w l (span ring) n (begun p ends times) ∙ cut_send w l (span ring) c u v in
    let D = encode e.epoch (e.number + n + 1) (data_of l.given (span ring) a to) in
    let W = wire e.epoch e.number c.sent in
    let e_d : D ≡ encode e.epoch (e.number + length c.sent + 1) (data_of l.given (span ring) c.next to) =
    ap (λ (j : ℕ). encode e.epoch (e.number + j + 1) (data_of l.given (span ring) a to)) h.count
    ∙ ap (λ (q : ℕ). encode e.epoch (e.number + length c.sent + 1) (data_of l.given (span ring) q to)) h.next in
    let ov : Over (W ++ D) out x' = rw d.is (over_more D D o (length D) h.wrote refl h.bytes refl) in
    let len : length (W ++ D) ≡ o + m = rw length-append (omega (arith, h.bytes, d.size)) in
    record {
      holds = rw (g, ← at) (record {
        next = refl;
        wrote = rw (wire_more, ← e_d) ov;
        bytes = rw (wire_more, ← e_d) (sym len);
        count = add-one n ∙ ap suc h.count;
        many = add-one k ∙ ap suc h.many;
        noted = segs_add b t p.oldest k to w.now few r.ends_size r.times_size ∙ rw h.noted;
      });
      ends_size = length-set b _ _ ∙ r.ends_size;
      times_size = length-set t _ _ ∙ r.times_size;
      long = over_length ov (omega (arith, d.small, r.small));
      small = omega (arith, d.small, r.small);
      few = omega arith;
      kept = omega arith;
    }

-- with the place of the new segment
pub cutting_more : {w : Tick} {e : Stamp} {l : Line} {p : Row} {ring ends times out : List ℕ} {a k o n : ℕ} {b t x : List ℕ} {m to at : ℕ} {x' : List ℕ}
    → Cutting w e l p ring ends times out a k o n b t x → Room w e l p out ring ends times → n < w.allowed → k < segments_most → to ≡ cut_to l a → a < to
    → SentOne x o (encode e.epoch (e.number + n + 1) (data_of l.given (span ring) a to)) m x' → at ≡ (p.oldest + k) % segments_most
    → Cutting w e l p ring ends times out to (k + 1) (o + m) (n + 1) (set b at to) (set t at w.now) x'
cutting_more r ok lt few is up d at_is = rw at_is (more r ok lt few is up d)

-- what was promised, where no turn is left or none would do anything
module _ {w : Tick} {e : Stamp} {l : Line} {p : Row} {ring ends times out : List ℕ} {a k o n : ℕ} {b t x : List ℕ} (r : Cutting w e l p ring ends times out a k o n b t x) where
  done : cut_of w l (span ring) w.allowed (begun p ends times) ≡ cut_of w l (span ring) n (begun p ends times) → Cuts w e l p ring ends times out (record { bytes = o; count = n; next = a; kept = k }) b t x
  done q = let h = r.holds in rw q (record {
    wrote = h.wrote.is;
    bytes = h.bytes;
    count = h.count;
    next = h.next;
    many = h.many;
    noted = h.noted;
    ends_size = r.ends_size;
    times_size = r.times_size;
    small = r.small;
    few = r.few;
    kept = r.kept;
  })

  pub cutting_full : segments_most ≤ k → Cuts w e l p ring ends times out (record { bytes = o; count = n; next = a; kept = k }) b t x
  cutting_full h = done (cut_stays w l (span ring) n w.allowed _ r.few (cut_full w l (span ring) _ (omega (arith, r.holds.many))))

  pub cutting_nothing : {to : ℕ} → k < segments_most → to ≡ cut_to l a → to ≤ a → Cuts w e l p ring ends times out (record { bytes = o; count = n; next = a; kept = k }) b t x
  cutting_nothing {to} few is h =
      let c = cut_of w l (span ring) n (begun p ends times) in
      let at : to ≡ cut_to l c.next = is ∙ ap (cut_to l) r.holds.next in
      let u : length c.kept < segments_most = omega (arith, r.holds.many) in
      let v : cut_to l c.next ≤ c.next = omega (arith, r.holds.next) in
      done (cut_stays w l (span ring) n w.allowed _ r.few (cut_nothing w l (span ring) c u v))
