-- Step 4, after steps 2 and 3. Assumes nothing.
use Rattle.std.proofs.Common.{◌≡◌, refl, ap, ◌∙◌, sym, arith, ltb-true, Bool, true, false, eqb, leb, ltb, ◌&&◌, List, ◌++◌, ℕ, suc, ◌+◌, ◌<◌, add-one, length, length-append}
use Rattle.laws.specs.Over.{Over}
use Rattle.laws.specs.OverLaws.{over_more}
use Rattle.wire.specs.Datagram.{PROBE, encode, wire}
use Rattle.segments.specs.declared.Tick.{Tick}
use Rattle.segments.specs.declared.Stamp.{Stamp}
use Rattle.segments.specs.declared.Line.{Line}
use Rattle.segments.specs.declared.Row.{Row}
use Rattle.segments.specs.declared.Added.{Added}
use Rattle.segments.specs.Outcome.{SentOne, DidCut}
use Rattle.segments.specs.WireLaws.{wire_more}
use Rattle.segments.specs.StepLaws.{and_left, and_right}
use Rattle.sending.specs.Steps.{Cut, ago_of, probes_of, probe_of}
use Rattle.sending.specs.Buffers.{word_of}
use Rattle.sending.specs.Outcome.{DidSend}

-- where a PROBE leaves, one more datagram is allowed
pub probes_allow : (w : Tick) (l : Line) (probed next kept sent : ℕ) {q : Bool} → q ≡ probes_of w l (word_of probed) next kept sent → q ≡ true → sent < w.allowed
unfolding probes_of
probes_allow w l probed next kept sent u v =
    let t₁ = ltb next l.given in
    let t₂ = eqb kept 0 in
    let t₃ = leb l.limit next in
    let t₄ = ltb sent w.allowed in
    let t₅ = ago_of w (word_of probed) in
    ltb-true sent w.allowed (and_left t₄ t₅ (and_right t₃ (t₄ && t₅) (and_right t₂ (t₃ && (t₄ && t₅)) (and_right t₁ (t₂ && (t₃ && (t₄ && t₅))) (sym u ∙ v)))))

-- step 4, after what steps 2 and 3 did
module _ (w : Tick) (e : Stamp) (l : Line) (p : Row) (probed : ℕ) (out : List ℕ) (C : Cut) (r : Added) (b t x : List ℕ) (q : Bool) (d : DidCut w e p out C r b t x)
    (u : q ≡ probes_of w l (word_of probed) r.next r.kept r.count) where
  same_test : q ≡ probes_of w l (word_of probed) C.next (length C.kept) (length C.sent)
  same_test = u ∙ rw (d.next, d.many, d.count)

  -- no PROBE
  pub probe_none : q ≡ false → DidSend w e p out (probe_of w l (word_of probed) C) (record { bytes = r.bytes; count = r.count; next = r.next; kept = r.kept; probed = probed }) b t x
  unfolding probe_of
  probe_none v = rw (sym same_test ∙ v) (record {
    wrote = d.wrote;
    bytes = d.bytes;
    count = d.count;
    next = d.next;
    noted = d.noted;
    probed = refl;
    ends_size = d.ends_size;
    times_size = d.times_size;
    small = d.small;
    few = d.few;
    kept = d.kept;
  })

  -- one
  pub probe_one : (m : ℕ) (x' : List ℕ) → q ≡ true → SentOne x r.bytes (encode e.epoch (e.number + r.count + 1) (PROBE r.next)) m x'
      → DidSend w e p out (probe_of w l (word_of probed) C) (record { bytes = r.bytes + m; count = r.count + 1; next = r.next; kept = r.kept; probed = w.now + 1 }) b t x'
  unfolding probe_of word_of
  probe_one m x' v s =
      let D = encode e.epoch (e.number + r.count + 1) (PROBE r.next) in
      let W = wire e.epoch e.number C.sent in
      let e_d : D ≡ encode e.epoch (e.number + length C.sent + 1) (PROBE C.next) = rw (d.count, d.next) in
      let lt : r.count < w.allowed = probes_allow w l probed r.next r.kept r.count u v in
      let o : Over W out x = record { is = d.wrote } in
      let ov : Over (W ++ D) out x' = rw s.is (over_more D D r.bytes (length D) o refl d.bytes refl) in
      let len : length (W ++ D) ≡ r.bytes + m = rw length-append (omega (arith, d.bytes, s.size)) in
      rw (sym same_test ∙ v) (record {
        wrote = rw (wire_more, ← e_d) ov.is;
        bytes = rw (wire_more, ← e_d) (sym len);
        count = add-one r.count ∙ ap suc d.count;
        next = d.next;
        noted = d.noted;
        probed = rw add-one;
        ends_size = d.ends_size;
        times_size = d.times_size;
        small = omega (arith, s.small, d.small);
        few = omega arith;
        kept = d.kept;
      })
