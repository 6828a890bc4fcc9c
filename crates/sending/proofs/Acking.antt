-- The loop of ack: what is to be done to all segments is what is to be done to the rest. Assumes nothing.
use Rattle.std.proofs.Common.{◌≡◌, ◌∙◌, refl, sym, ap, arith, List, [], ◌∷◌, ◌++◌, ℕ, suc, ◌+◌, ◌-◌, ◌%◌, ◌≤◌, ◌<◌, get_or}
use Rattle.segments.specs.declared.Row.{Row}
use Rattle.sending.specs.Sending.{segments_most}
use Rattle.sending.specs.Acking.{left_of, acked_of}
use Rattle.sending.specs.Buffers.{Chain}
use Rattle.segments.specs.Segments.{Segment, segs}
use Rattle.sending.specs.Outcome.{Acked}
use Rattle.segments.specs.SegmentLaws.{seg, segs_oldest, segs_wrap}
use Rattle.sending.specs.AckLaws.{left_oldest, acked_oldest, chain_oldest, Beyond, beyond}

-- i segments are dropped
pub record Acking (e : List ℕ) (r : Row) (p acked i : ℕ) : Type 0 where
  pub left : (t : List ℕ) → left_of p (segs e t r.oldest r.kept) ≡ left_of p (segs e t (r.oldest + i) (r.kept - i))
  pub acked_is : (t : List ℕ) → acked_of r.acked p (segs e t r.oldest r.kept) ≡ acked_of acked p (segs e t (r.oldest + i) (r.kept - i))
  pub chain : (t : List ℕ) (given : ℕ) → Chain r.acked given (segs e t r.oldest r.kept) → Chain acked given (segs e t (r.oldest + i) (r.kept - i))

pub acking_none : (e : List ℕ) (r : Row) (p : ℕ) → Acking e r p r.acked 0
acking_none e r p =
    let o : r.oldest + 0 ≡ r.oldest = omega arith in
    let k : r.kept - 0 ≡ r.kept = omega arith in
    record { left = λ t. rw (o, k); acked_is = λ t. rw (o, k); chain = λ t given c. rw (o, k) c }

-- the oldest of those left
shorter : (e t : List ℕ) (r : Row) (i : ℕ) → i < r.kept
    → segs e t (r.oldest + i) (r.kept - i) ≡ segs e t (r.oldest + (i + 1)) (r.kept - (i + 1)) ++ (seg e t (r.oldest + i) ∷ [])
shorter e t r i h =
    let k : r.kept - i ≡ suc (r.kept - (i + 1)) = omega arith in
    let o : r.oldest + i + 1 ≡ r.oldest + (i + 1) = omega arith in
    rw (k, segs_oldest e t (r.oldest + i) (r.kept - (i + 1)), o)

pub acking_more : {e : List ℕ} {r : Row} {p acked i : ℕ} → Acking e r p acked i → i < r.kept → get_or e ((r.oldest + i) % segments_most) 0 ≤ p
    → Acking e r p (get_or e ((r.oldest + i) % segments_most) 0) (i + 1)
acking_more {e} {r} {p} {acked} {i} a h b =
    let rest : List ℕ → List Segment = λ t. segs e t (r.oldest + (i + 1)) (r.kept - (i + 1)) in
    let g : List ℕ → Segment = λ t. seg e t (r.oldest + i) in record {
      left = λ t. a.left t ∙ rw (shorter e t r i h) (left_oldest p (g t) b (rest t));
      acked_is = λ t. a.acked_is t ∙ rw (shorter e t r i h) (acked_oldest p (g t) b acked (rest t));
      chain = λ t given c. chain_oldest acked given (rest t) (g t) (rw (shorter e t r i h) at (a.chain t given c));
    }

-- the oldest left ends beyond the position
pub acking_stop : {e : List ℕ} {r : Row} {p acked i : ℕ} → Acking e r p acked i → i < r.kept → p < get_or e ((r.oldest + i) % segments_most) 0
    → Acked e r p (record { acked = acked; next = r.next; oldest = (r.oldest + i) % segments_most; kept = r.kept - i })
acking_stop {e} {r} {p} {acked} {i} a h b = record {
  next = refl;
  oldest = omega arith;
  few = omega arith;
  kept = λ t given c.
      segs_wrap e t (r.oldest + i) (r.kept - i)
      ∙ sym (a.left t ∙ ap (left_of p) (shorter e t r i h) ∙ (rest t given c).left ∙ sym (shorter e t r i h));
  acked = λ t given c. sym (a.acked_is t ∙ ap (acked_of acked p) (shorter e t r i h) ∙ (rest t given c).acked_is);
}
  where
    rest : (t : List ℕ) (given : ℕ) → Chain r.acked given (segs e t r.oldest r.kept)
        → Beyond acked p (segs e t (r.oldest + (i + 1)) (r.kept - (i + 1)) ++ (seg e t (r.oldest + i) ∷ []))
    rest t given c =
        beyond acked given p (segs e t (r.oldest + (i + 1)) (r.kept - (i + 1))) (seg e t (r.oldest + i)) b (rw (shorter e t r i h) at (a.chain t given c))

-- none is left
pub acking_all : {e : List ℕ} {r : Row} {p acked i : ℕ} → Acking e r p acked i → r.kept ≤ i
    → Acked e r p (record { acked = acked; next = r.next; oldest = (r.oldest + r.kept) % segments_most; kept = 0 })
unfolding left_of acked_of segs
acking_all {e} {r} {p} {acked} {i} a h =
    let z : r.kept - i ≡ 0 = omega arith in record {
      next = refl;
      oldest = omega arith;
      few = omega arith;
      kept = λ t given c. sym (rw z at (a.left t));
      acked = λ t given c. sym (rw z at (a.acked_is t));
    }

pub ruleset acking_laws = (acking_none, acking_more, acking_stop, acking_all)
