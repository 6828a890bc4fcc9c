-- Laws of one turn of steps 2 and 3. Assumes nothing.
use Rattle.std.specs.Prelude.{◌≡◌, refl, Bool, true, false, ◌&&◌, List, ◌∷◌, leb, ltb, length}
use Rattle.std.proofs.Common.{sym, ap, ◌∙◌, add-suc, arith}
use Prim.Native.Nat.{ℕ, zero, suc, ◌+◌, ◌-◌, ◌≤◌, ◌<◌, min}
use Rattle.std.proofs.Math.Nat.{add-zero}
use Rattle.std.proofs.Math.Numerals.{add-one}
use borrow.Author.Tests.{eq-eqb, ne_eqb, ltb-true, lt-ltb, le-ltb}
use Rattle.wire.specs.Datagram.{payload_most}
use Rattle.segments.specs.declared.Tick.{Tick}
use Rattle.segments.specs.declared.Line.{Line}
use Rattle.segments.specs.Segments.{segments_most, Segment, start_of, data_of}
use Rattle.segments.specs.Steps.{due_of, again_of, resend_of, Cut, cut_to, cut_one, cut_of}

-- two tests
pub and_left : (a b : Bool) → (a && b) ≡ true → a ≡ true
and_left true b h = refl
and_left false b h = h

pub and_right : (a b : Bool) → (a && b) ≡ true → b ≡ true
and_right true b h = h
and_right false b h = let z : ◌≡◌ {A = ℕ} 0 1 = cc in absurd (omega arith)

pub and_none : (a b : Bool) → b ≡ false → (a && b) ≡ false
and_none true b h = h
and_none false b h = refl

-- a segment is due where it was sent R ticks ago or more, and allowed
pub due_allowed : (w : Tick) (at n : ℕ) {q : Bool} → q ≡ due_of w at n → q ≡ true → n < w.allowed
unfolding due_of
due_allowed w at n u v = let h = sym u ∙ v in ltb-true n w.allowed (and_right (leb w.every (w.now - at)) (ltb n w.allowed) h)

pub due_none : (w : Tick) (at n : ℕ) → w.allowed ≤ n → due_of w at n ≡ false
unfolding due_of
due_none w at n h = and_none (leb w.every (w.now - at)) (ltb n w.allowed) (le-ltb n w.allowed h)

-- one segment more, in step 2
module _ (w : Tick) (l : Line) (part : ℕ → ℕ → List ℕ) (acked : ℕ) (g : Segment) (gs : List Segment) where
  pub again_skip : due_of w g.at (length (resend_of w l part acked gs).sent) ≡ false
      → resend_of w l part acked (g ∷ gs) ≡ record { sent = (resend_of w l part acked gs).sent; kept = g ∷ (resend_of w l part acked gs).kept }
  unfolding resend_of again_of
  again_skip h = rw h

  pub again_send : due_of w g.at (length (resend_of w l part acked gs).sent) ≡ true
      → resend_of w l part acked (g ∷ gs)
      ≡ record { sent = data_of l.given part (start_of acked gs) g.to ∷ (resend_of w l part acked gs).sent; kept = record { to = g.to; at = w.now } ∷ (resend_of w l part acked gs).kept }
  unfolding resend_of again_of
  again_send h = rw h

-- where a segment ends
module _ (l : Line) (a n : ℕ) (e : n ≡ min payload_most (min (l.given - a) (l.limit - a))) where
  pub cut_to_end : l.closed ≡ 1 → a + n ≡ l.given → a + n + 1 ≡ cut_to l a
  unfolding cut_to
  cut_to_end c h = rw (← e, c, eq-eqb (a + n) l.given h)

  pub cut_to_more : l.closed ≡ 1 → (a + n ≡ l.given → ⊥) → a + n ≡ cut_to l a
  unfolding cut_to
  cut_to_more c h = rw (← e, c, ne_eqb (a + n) l.given h)

  pub cut_to_open : (l.closed ≡ 1 → ⊥) → a + n ≡ cut_to l a
  unfolding cut_to
  cut_to_open c = rw (← e, ne_eqb l.closed 1 c)

-- one turn more, in step 3
module _ (w : Tick) (l : Line) (part : ℕ → ℕ → List ℕ) where
  pub cut_more : (n : ℕ) (c : Cut) → cut_of w l part (n + 1) c ≡ cut_one w l part (cut_of w l part n c)
  unfolding cut_of
  cut_more n c = rw add-one

  pub cut_send : (c : Cut) → length c.kept < segments_most → c.next < cut_to l c.next
      → cut_one w l part c ≡ record {
        next = cut_to l c.next;
        sent = data_of l.given part c.next (cut_to l c.next) ∷ c.sent;
        kept = record { to = cut_to l c.next; at = w.now } ∷ c.kept;
      }
  unfolding cut_one
  cut_send c a b = rw (lt-ltb (length c.kept) segments_most a, lt-ltb c.next (cut_to l c.next) b)

  pub cut_full : (c : Cut) → segments_most ≤ length c.kept → cut_one w l part c ≡ c
  unfolding cut_one
  cut_full c a = rw (le-ltb (length c.kept) segments_most a)

  pub cut_nothing : (c : Cut) → length c.kept < segments_most → cut_to l c.next ≤ c.next → cut_one w l part c ≡ c
  unfolding cut_one
  cut_nothing c a b = rw (lt-ltb (length c.kept) segments_most a, le-ltb c.next (cut_to l c.next) b)

  -- where a turn does nothing, no later one does
  cut_on : (n d : ℕ) (c : Cut) → cut_one w l part (cut_of w l part n c) ≡ cut_of w l part n c → cut_of w l part (n + d) c ≡ cut_of w l part n c
  unfolding cut_of
  cut_on n zero c h = rw add-zero
  cut_on n (suc d) c h = rw (add-suc, cut_on n d c h) h

  pub cut_stays : (n m : ℕ) (c : Cut) → n ≤ m → cut_one w l part (cut_of w l part n c) ≡ cut_of w l part n c → cut_of w l part m c ≡ cut_of w l part n c
  cut_stays n m c h q = let e : m ≡ n + (m - n) = omega arith in ap (λ (i : ℕ). cut_of w l part i c) e ∙ cut_on n (m - n) c q

-- cutting looks at the clock only
pub cut_same : (w v : Tick) (l : Line) (part : ℕ → ℕ → List ℕ) (n : ℕ) (c : Cut) → w.now ≡ v.now → cut_of w l part n c ≡ cut_of v l part n c
unfolding cut_of cut_one
cut_same w v l part zero c h = refl
cut_same w v l part (suc n) c h = rw (cut_same w v l part n c h, h)
