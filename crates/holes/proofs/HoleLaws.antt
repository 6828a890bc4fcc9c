-- What slow, leap and follow make of the lent buffers. Assumes nothing.
use Rattle.std.proofs.Common.{◌≡◌, ◌∙◌, refl, List, length, sym, ap, arith, ⊎_elim, ℕ, ◌+◌, ◌≤◌, ◌<◌, max}
use Rattle.ring.specs.Ring.{capacity}
use Rattle.receiving.specs.Receiving.{Cell, fill_cells, arrived, arrived_of, Ranged, Clear, Sound}
use Rattle.arrivals.specs.Marks.{of, mark}
use Rattle.marks.specs.Stretches.{Marked}
use Rattle.arrivals.specs.Steps.{Moves, Written, Stored, Placed, Advanced}
use Rattle.receiving.specs.Calls.{New, Fills}
use Rattle.holes.specs.FillingLaws.{filling_cells, cells_same, clear_same, lays_filling, moves_cells, order_filling, after_clear, after_beyond, after_top, follow_clear, follow_beyond, follow_top}
use Rattle.receiving.specs.ReadLaws.{arrived_before, arrived_within, arrived_beyond, arrived_empty}
use Rattle.holes.specs.Holes.{Fresh}
use Rattle.holes.specs.FilledLaws.{filled_read, ahead_fills}
use Rattle.laws.specs.Split.{split}
use Rattle.receiving.specs.declared.Scalars.{Scalars}

-- once the last stretch has its marks, marks tell what has arrived
flat : {m m₀ : List ℕ} {s : Scalars} → Ranged s → Marked m s.tail s.high 1 m₀ → (q : ℕ) → s.taken ≤ q → q < s.taken + capacity → mark m₀ q ≡ arrived_of s m q
flat {m} {m₀} {s} g k q l h =
    let a = g.taken_low in
    let b = g.low_tail in
    let c = g.tail_high in
    let d = g.high_limit in
    ⊎_elim (λ y. k.same.below q y (omega arith) ∙ sym (arrived_before s.tail s.high (mark m) q y))
    (λ y.
    ⊎_elim (λ z. k.into q y z ∙ sym (arrived_within s.tail s.high (mark m) q y z))
    (λ z. k.same.above q z (omega arith) ∙ sym (arrived_beyond s.tail s.high (mark m) q c z))
    (split q s.high))
    (split q s.tail)

pub slow_fills : {r m m₀ r₁ m₁ m' bs : List ℕ} {s : Scalars} {p top l : ℕ} → Ranged s → New s p (length bs) → Marked m s.tail s.high 1 m₀
    → Placed r m₀ p bs s.low s.high r₁ m₁ → Advanced m₁ s.low top m' l
    → top ≡ max s.high (p + length bs)
    → Fills r m s p bs r₁ m' (record { taken = s.taken; low = l; tail = top; high = top; known = s.known; end = s.end })
slow_fills {r} {m} {m₀} {r₁} {m₁} {m'} {bs} {s} {p} {top} {l} g n fl la ad et =
    let a : ℕ = max p s.low in
    let lt = g.taken_low in
    let lo = g.low_tail in
    let th = g.tail_high in
    let hl = g.high_limit in
    let hs = g.high_small in
    let new = n.new in
    let some = n.some in
    let up = n.limit in
    let small = n.small in
    let u = ad.moves.low_l in
    let v = ad.moves.l_top in
    let ranged : Ranged (record { taken = s.taken; low = l; tail = top; high = top; known = s.known; end = s.end }) =
    record { taken_low = omega arith; low_tail = omega arith; tail_high = omega arith; high_limit = omega arith; high_small = omega arith } in
    let ms : length m' ≡ length m = ad.marks_same ∙ la.marks_same ∙ fl.length_same in
    let cl : Sound s r m → Clear s (mark m₀) = λ x. clear_same g (flat g fl) x.clear in
    let st : Sound s r m → Stored r m₀ p bs a (p + length bs) r₁ m₁ = λ x. la.stored (λ q lo hi. (cl x).beyond q (omega arith) (omega arith)) in record {
      ring_same = la.ring_same;
      marks_same = ms;
      ranged = ranged;
      done = λ x. record {
        ranged = ranged;
        ring_size = la.ring_same ∙ x.ring_size;
        marks_size = ms ∙ x.marks_size;
        clear = clear_same ranged (λ q l h. arrived_empty top (mark m') q) (record {
          clear = after_clear s (of r) (mark m₀) (of r₁) (mark m₁) (mark m') bs p a l top g (cl x) (st x).lays ad.moves refl et new some up;
          beyond = after_beyond s (of r) (mark m₀) (of r₁) (mark m₁) (mark m') bs p a l top g (cl x) (st x).lays ad.moves refl et new some up;
          top = after_top s (of r) (mark m₀) (of r₁) (mark m₁) (mark m') bs p a l top g (cl x) (st x).lays ad.moves refl et new some up;
        });
        bare = λ q l h. absurd (omega arith);
      };
      read = λ x.
          filled_read r m bs r₁ m' s p l top top
          (cells_same (of r₁) s.taken l (λ q l h. arrived_empty top (mark m') q)
          ∙ moves_cells (of r₁) s.taken ad.moves g.taken_low (omega arith)
          ∙ filling_cells (lays_filling (st x).lays refl (omega arith) g.taken_low up)
          ∙ ap (λ (cs : List Cell). fill_cells s.taken cs p bs) (cells_same (of r) s.taken s.low (flat g fl)));
    }

-- beyond a new hole: the last stretch gets its marks
pub leap_fills : {r m r' m' bs : List ℕ} {s : Scalars} {p : ℕ} → Ranged s → New s p (length bs) → Written r p bs p (p + length bs) r' → Marked m s.tail s.high 1 m' → s.high < p
    → Fills r m s p bs r' m' (record { taken = s.taken; low = s.low; tail = p; high = p + length bs; known = s.known; end = s.end })
leap_fills {r} {m} {r'} {m'} {bs} {s} {p} g n w fl hp =
    let e : ℕ = p + length bs in
    let lo = g.taken_low in
    let lt = g.low_tail in
    let th = g.tail_high in
    let up = n.limit in
    ahead_fills p g n w fl.length_same (omega arith) (omega arith) (omega arith) (omega arith)
    (λ q l h o.
    ⊎_elim (λ b. arrived_before p e (mark m') q b) (λ b. arrived_beyond p e (mark m') q (omega arith) b) o ∙ flat g fl q l h)
    (λ q l h. let z = arrived_within p e (mark m') q l h in omega arith)
    (λ x q l h. flat g fl q (omega arith) (omega arith) ∙ x.clear.beyond q (omega arith) (omega arith))

-- in order, with bytes beyond: what has arrived from e on is passed up to l
follow_fills : {r m r' m' bs : List ℕ} {s : Scalars} {p : ℕ} (l tail : ℕ) → Ranged s → New s p (length bs) → Written r p bs s.low (p + length bs) r' → Fresh m s (p + length bs)
    → length m' ≡ length m → p ≤ s.low → p + length bs ≤ l → l ≤ tail → tail ≤ s.high
    → (Sound s r m → Moves (arrived_of s m) (p + length bs) s.high (arrived tail s.high (mark m')) l)
    → (Sound s r m → (q : ℕ) → tail ≤ q → q < s.high → mark m' q ≡ 0)
    → Fills r m s p bs r' m' (record { taken = s.taken; low = l; tail = tail; high = s.high; known = s.known; end = s.end })
follow_fills {r} {m} {r'} {m'} {bs} {s} {p} l tail g n w free ms le el lt th moves bare =
    let e : ℕ = p + length bs in
    let et = free.before in
    let lo = g.taken_low in
    let sh = g.tail_high in
    let hl = g.high_limit in
    let new = n.new in
    let up = n.limit in
    let ranged : Ranged (record { taken = s.taken; low = l; tail = tail; high = s.high; known = s.known; end = s.end }) =
    record { taken_low = omega arith; low_tail = lt; tail_high = th; high_limit = hl; high_small = g.high_small } in
    let none : (q : ℕ) → s.low ≤ q → q < e → arrived_of s m q ≡ 0 =
    λ q a b. arrived_before s.tail s.high (mark m) q (omega arith) ∙ free.none q a b in
    let top : s.high ≡ max s.high e = omega arith in record {
      ring_same = w.beside.length_same;
      marks_same = ms;
      ranged = ranged;
      done = λ x. record {
        ranged = ranged;
        ring_size = w.beside.length_same ∙ x.ring_size;
        marks_size = ms ∙ x.marks_size;
        clear = record {
          clear = follow_clear s (arrived_of s m) (arrived tail s.high (mark m')) e l s.high g x.clear none (moves x) top new up;
          beyond = follow_beyond s (arrived_of s m) (arrived tail s.high (mark m')) e l s.high g x.clear none (moves x) top new up;
          top = follow_top s (arrived_of s m) (arrived tail s.high (mark m')) e l s.high g x.clear none (moves x) top new up;
        };
        bare = bare x;
      };
      read = λ x.
          filled_read r m bs r' m' s p l tail s.high
          (moves_cells (of r') s.taken (moves x) (omega arith) (omega arith)
          ∙ filling_cells (order_filling (arrived_of s m) w.beside.same w.into none lo le (omega arith) up));
    }

module _ {r m r' m' bs : List ℕ} {s : Scalars} {p l : ℕ} (g : Ranged s) (n : New s p (length bs)) (w : Written r p bs s.low (p + length bs) r') (free : Fresh m s (p + length bs))
    (ad : Advanced m (p + length bs) s.tail m' l) (le : p ≤ s.low) where
  -- up to a hole
  pub hole_fills : (l ≡ s.tail → ⊥) → Fills r m s p bs r' m' (record { taken = s.taken; low = l; tail = s.tail; high = s.high; known = s.known; end = s.end })
  hole_fills ne =
      let e : ℕ = p + length bs in
      let et = free.before in
      let t : ℕ = s.tail in
      let h : ℕ = s.high in
      let lo = g.taken_low in
      let th = g.tail_high in
      let hl = g.high_limit in
      let new = n.new in
      let u = ad.moves.low_l in
      let v = ad.moves.l_top in
      let k : l < t = let z : (t ≤ l) → ⊥ = λ y. ne (omega arith) in ⊎_elim (λ y. y) (λ y. absurd (z y)) (split l t) in
      follow_fills l t g n w free ad.marks_same le u v th
      (λ x. record {
        low_l = u;
        l_top = omega arith;
        same = record {
          below = λ q a b. arrived_before t h (mark m') q (omega arith) ∙ ad.moves.same.below q a b ∙ sym (arrived_before t h (mark m) q (omega arith));
          above = λ q a b.
              ⊎_elim (λ c. arrived_before t h (mark m') q c ∙ ad.moves.same.above q a b ∙ sym (arrived_before t h (mark m) q c))
              (λ c.
              ⊎_elim (λ d. arrived_within t h (mark m') q c d ∙ sym (arrived_within t h (mark m) q c d))
              (λ d. arrived_beyond t h (mark m') q th d ∙ ad.moves.same.above q a b ∙ sym (arrived_beyond t h (mark m) q th d))
              (split q h))
              (split q t);
        };
        cleared = λ q a b. arrived_before t h (mark m') q (omega arith) ∙ ad.moves.cleared q a b;
        marked = λ q a b.
            let i = arrived_before t h (mark m) q (omega arith) in
            let z = ad.moves.marked q a b in
            omega arith;
        stop = λ a. arrived_before t h (mark m) l k ∙ ad.moves.stop k;
      })
      (λ x q a b. ad.moves.same.above q (omega arith) (omega arith) ∙ x.bare q a b)

  -- up to the last stretch, and so to its end
  pub tail_fills : l ≡ s.tail → Fills r m s p bs r' m' (record { taken = s.taken; low = s.high; tail = s.high; high = s.high; known = s.known; end = s.end })
  tail_fills el =
      let e : ℕ = p + length bs in
      let et = free.before in
      let t : ℕ = s.tail in
      let h : ℕ = s.high in
      let lo = g.taken_low in
      let th = g.tail_high in
      let hl = g.high_limit in
      let new = n.new in
      follow_fills h h g n w free ad.marks_same le (omega arith) (omega arith) (omega arith)
      (λ x. record {
        low_l = omega arith;
        l_top = omega arith;
        same = record {
          below = λ q a b. arrived_empty h (mark m') q ∙ ad.moves.same.below q a (omega arith) ∙ sym (arrived_before t h (mark m) q (omega arith));
          above = λ q a b. arrived_empty h (mark m') q ∙ ad.moves.same.above q (omega arith) b ∙ sym (arrived_beyond t h (mark m) q th a);
        };
        cleared = λ q a b.
            arrived_empty h (mark m') q
            ∙ ⊎_elim (λ c. ad.moves.cleared q a c) (λ c. ad.moves.same.above q c (omega arith) ∙ x.bare q (omega arith) b) (split q l);
        marked = λ q a b.
            ⊎_elim
            (λ c.
            let i = arrived_before t h (mark m) q c in
            let z = ad.moves.marked q a (omega arith) in
            omega arith)
            (λ c. let i = arrived_within t h (mark m) q c b in omega arith)
            (split q t);
        stop = λ a. absurd (omega arith);
      })
      (λ x q a b. absurd (omega arith))
