-- What hear makes of the lent buffers, from its steps. Assumes nothing.
use Rattle.std.proofs.Common.{◌≡◌, ◌∙◌, refl, List, length, eqb, true, false, sym, ap, arith, ⊎_elim, ℕ, ◌+◌, ◌≤◌, ◌<◌, eq-eqb, ne_eqb, eqb-true}
use Rattle.ring.specs.Ring.{capacity}
use Rattle.receiving.specs.Receiving.{Receiving, at, hear_of, end_of, arrived, arrived_of, Ranged, Sound, receiving_of}
use Rattle.arrivals.specs.Marks.{of, mark}
use Rattle.finding.specs.Finding.{Unmarked}
use Rattle.arrivals.specs.Steps.{Written}
use Rattle.receiving.specs.Calls.{New, Fills, Hears}
use Rattle.holes.specs.FillingLaws.{filling_cells, cells_same, order_filling, again_filling}
use Rattle.receiving.specs.ReadLaws.{arrived_before, arrived_within, arrived_beyond, arrived_none, arrived_empty}
use Rattle.holes.specs.Holes.{Fresh}
use Rattle.holes.specs.FilledLaws.{filled_read, ahead_fills}
use Rattle.laws.specs.Split.{split}
use Rattle.receiving.specs.declared.Scalars.{Scalars}

pub fast_fills : {r bs r' : List ℕ} {s : Scalars} {p : ℕ} (m : List ℕ) → Ranged s → New s p (length bs) → Written r p bs s.low (p + length bs) r' → s.high ≤ s.low → p ≤ s.low
    → Fills r m s p bs r' m (record { taken = s.taken; low = p + length bs; tail = p + length bs; high = p + length bs; known = s.known; end = s.end })
fast_fills {r} {bs} {r'} {s} {p} m g n w hh le =
    let e : ℕ = p + length bs in
    let hi = n.new in
    let up = n.limit in
    let lo = g.taken_low in
    let ranged : Ranged (record { taken = s.taken; low = e; tail = e; high = e; known = s.known; end = s.end }) =
    record { taken_low = omega arith; low_tail = omega arith; tail_high = omega arith; high_limit = up; high_small = n.small } in
    let none : Sound s r m → (q : ℕ) → s.taken ≤ q → q < s.taken + capacity → arrived_of s m q ≡ 0 =
    λ x q l h. ⊎_elim (λ b. x.clear.clear q l (omega arith) h) (λ b. x.clear.beyond q (omega arith) h) (split q s.low) in
    let zeros : Sound s r m → (q : ℕ) → s.taken ≤ q → q < s.taken + capacity → arrived e e (mark m) q ≡ 0 =
    λ x q l h. arrived_empty e (mark m) q ∙ arrived_none s.tail s.high (mark m) q g.tail_high (none x q l h) in record {
      ring_same = w.beside.length_same;
      marks_same = refl;
      ranged = ranged;
      done = λ x. record {
        ranged = ranged;
        ring_size = w.beside.length_same ∙ x.ring_size;
        marks_size = x.marks_size;
        clear = record { clear = λ q l k h. zeros x q l h; beyond = λ q l h. zeros x q (omega arith) h; top = λ h. absurd (omega arith) };
        bare = λ q l h. absurd (omega arith);
      };
      read = λ x.
          filled_read r m bs r' m s p e e e
          (cells_same (of r') s.taken e (λ q l h. zeros x q l h ∙ sym (none x q l h))
          ∙ filling_cells (order_filling (arrived_of s m) w.beside.same w.into (λ q l h. none x q (omega arith) (omega arith)) lo le (omega arith) up));
    }

-- nothing new
again_fills : {r m bs : List ℕ} {s : Scalars} {p : ℕ} → Ranged s → ((q : ℕ) → p ≤ q → q < p + length bs → s.low ≤ q → 0 < arrived_of s m q) → Fills r m s p bs r m s
again_fills {r} {m} {bs} {s} {p} g here = record {
  ring_same = refl;
  marks_same = refl;
  ranged = g;
  done = λ x. x;
  read = λ x. filled_read r m bs r m s p s.low s.tail s.high (filling_cells (again_filling (of r) (arrived_of s m) bs s.taken s.low p here));
}

module _ {r m bs : List ℕ} {s : Scalars} {p : ℕ} (g : Ranged s) where
  pub none_fills : length bs ≡ 0 → Fills r m s p bs r m s
  none_fills h = again_fills g (λ q a b c. absurd (omega arith))

  pub old_fills : p + length bs ≤ s.low → Fills r m s p bs r m s
  old_fills h = again_fills g (λ q a b c. absurd (omega arith))

  pub within_fills : s.tail ≤ p → p + length bs ≤ s.high → Fills r m s p bs r m s
  within_fills h k = again_fills g (λ q a b c. let z = arrived_within s.tail s.high (mark m) q (omega arith) (omega arith) in omega arith)

-- right after it: the last stretch grows
pub extend_fills : {r r' bs : List ℕ} {s : Scalars} {p : ℕ} (m : List ℕ) → Ranged s → New s p (length bs) → Written r p bs p (p + length bs) r' → s.low < p → p ≡ s.high
    → Fills r m s p bs r' m (record { taken = s.taken; low = s.low; tail = s.tail; high = p + length bs; known = s.known; end = s.end })
extend_fills {r} {r'} {bs} {s} {p} m g n w lp ep =
    let e : ℕ = p + length bs in
    let t : ℕ = s.tail in
    let lo = g.taken_low in
    let lt = g.low_tail in
    let th = g.tail_high in
    let up = n.limit in
    ahead_fills s.tail g n w refl lp (omega arith) lt (omega arith)
    (λ q l h o.
    ⊎_elim (λ b. arrived_before t e (mark m) q b ∙ sym (arrived_before t s.high (mark m) q b))
    (λ b.
    ⊎_elim (λ c. arrived_within t e (mark m) q b (omega arith) ∙ sym (arrived_within t s.high (mark m) q b (omega arith)))
    (λ c. arrived_beyond t e (mark m) q (omega arith) c ∙ sym (arrived_beyond t s.high (mark m) q th (omega arith)))
    o)
    (split q t))
    (λ q l h. let z = arrived_within t e (mark m) q (omega arith) h in omega arith)
    (λ x q l h.
    ⊎_elim (λ b. x.bare q l b)
    (λ b. arrived_none t s.high (mark m) q th (x.clear.beyond q b (omega arith)))
    (split q s.high))

-- a DATA with END
pub hears_end : {r m r' m' bs : List ℕ} {s t : Scalars} {p e : ℕ} → Fills r m s p bs r' m' t → e ≡ 1
    → Hears r m s p bs e r' m' (record { taken = t.taken; low = t.low; tail = t.tail; high = t.high; known = 1; end = p + length bs })
unfolding receiving_of hear_of end_of
hears_end {r} {m} {r'} {m'} {bs} {s} {t} {p} {e} f h =
    let k : eqb e 1 ≡ true = eq-eqb e 1 h in
    let g : Ranged (record { taken = t.taken; low = t.low; tail = t.tail; high = t.high; known = 1; end = p + length bs }) = record {
      taken_low = f.ranged.taken_low;
      low_tail = f.ranged.low_tail;
      tail_high = f.ranged.tail_high;
      high_limit = f.ranged.high_limit;
      high_small = f.ranged.high_small;
    } in record {
      ring_same = f.ring_same;
      marks_same = f.marks_same;
      ranged = g;
      done = λ x.
          let y = f.done x in record {
            ranged = g;
            ring_size = y.ring_size;
            marks_size = y.marks_size;
            clear = record { clear = y.clear.clear; beyond = y.clear.beyond; top = y.clear.top };
            bare = y.bare;
          };
      read = λ x. rw k (ap (λ (w : Receiving). record { taken = w.taken; cells = w.cells; end = at (p + length bs) }) (f.read x));
    }

-- and one without
pub hears_none : {r m r' m' bs : List ℕ} {s t : Scalars} {p e : ℕ} → Fills r m s p bs r' m' t → (e ≡ 1 → ⊥) → Hears r m s p bs e r' m' t
unfolding hear_of
hears_none {r} {m} {r'} {m'} {bs} {s} {t} {p} {e} f h =
    let k : eqb e 1 ≡ false = ne_eqb e 1 h in record {
      ring_same = f.ring_same;
      marks_same = f.marks_same;
      ranged = f.ranged;
      done = f.done;
      read = λ x. rw k (f.read x);
    }

-- what fresh answers
pub fresh_not : {m : List ℕ} {s : Scalars} {e : ℕ} → false ≡ true → Fresh m s e
fresh_not u = absurd (let z : ◌≡◌ {A = ℕ} 0 1 = cc in omega arith)

pub fresh_none : {m : List ℕ} {s : Scalars} {e r : ℕ} → e ≤ s.tail → Unmarked m s.low e r → eqb r 0 ≡ true → Fresh m s e
fresh_none {r = r} h u k = record { before = h; none = u.none (eqb-true r 0 k) }

pub ruleset fresh_laws = (fresh_not, fresh_none)

pub ruleset fill_laws = (none_fills, old_fills, within_fills)
