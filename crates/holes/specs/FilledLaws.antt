-- What becomes of the lent buffers, from cells and marks. Assumes nothing.
use Rattle.std.specs.Prelude.{◌≡◌, ◌⊎◌, List, ℕ, ◌+◌, ◌-◌, ◌≤◌, ◌<◌, length}
use Rattle.std.proofs.Common.{◌∙◌, inl, inr, arith}
use Rattle.ring.specs.Ring.{capacity}
use Rattle.receiving.specs.Receiving.{fill_cells, fill_of, arrived, arrived_of, cells_of, Ranged, Sound, receiving_of}
use Rattle.arrivals.specs.Marks.{of, mark}
use Rattle.arrivals.specs.Steps.{Written}
use Rattle.receiving.specs.Calls.{New, Fills}
use Rattle.holes.specs.FillingLaws.{filling_cells, ahead_filling}
use Rattle.receiving.specs.declared.Scalars.{Scalars}

-- from cells to the whole
pub filled_read : (r m bs r' m' : List ℕ) (s : Scalars) (p low tail high : ℕ)
    → cells_of (of r') (arrived tail high (mark m')) s.taken low ≡ fill_cells s.taken (cells_of (of r) (arrived_of s m) s.taken s.low) p bs
    → receiving_of (record { taken = s.taken; low = low; tail = tail; high = high; known = s.known; end = s.end }) r' m' ≡ fill_of (receiving_of s r m) p bs
unfolding receiving_of fill_of
filled_read r m bs r' m' s p low tail high e = rw e

-- beyond all that has arrived: scalars and marks after, of which these are asked
pub ahead_fills : {r m r' m' bs : List ℕ} {s : Scalars} {p : ℕ} (tail : ℕ) → Ranged s → New s p (length bs) → Written r p bs p (p + length bs) r' → length m' ≡ length m → s.low < p → s.high ≤ p
    → s.low ≤ tail → tail ≤ p + length bs
    → ((q : ℕ) → s.taken ≤ q → q < s.taken + capacity → (q < p) ⊎ (p + length bs ≤ q) → arrived tail (p + length bs) (mark m') q ≡ arrived_of s m q)
    → ((q : ℕ) → p ≤ q → q < p + length bs → 0 < arrived tail (p + length bs) (mark m') q)
    → (Sound s r m → (q : ℕ) → tail ≤ q → q < p + length bs → mark m' q ≡ 0)
    → Fills r m s p bs r' m' (record { taken = s.taken; low = s.low; tail = tail; high = p + length bs; known = s.known; end = s.end })
ahead_fills {r} {m} {r'} {m'} {bs} {s} {p} tail g n w ms lp hp lt te out one bare =
    let e : ℕ = p + length bs in
    let lo = g.taken_low in
    let some = n.some in
    let up = n.limit in
    let ranged : Ranged (record { taken = s.taken; low = s.low; tail = tail; high = e; known = s.known; end = s.end }) =
    record { taken_low = lo; low_tail = lt; tail_high = te; high_limit = up; high_small = n.small } in record {
      ring_same = w.beside.length_same;
      marks_same = ms;
      ranged = ranged;
      done = λ x. record {
        ranged = ranged;
        ring_size = w.beside.length_same ∙ x.ring_size;
        marks_size = ms ∙ x.marks_size;
        clear = record {
          clear = λ q l k h. out q l h (inl (omega arith)) ∙ x.clear.clear q l k h;
          beyond = λ q l h. out q (omega arith) h (inr l) ∙ x.clear.beyond q (omega arith) h;
          top = λ h. one (e - 1) (omega arith) (omega arith);
        };
        bare = bare x;
      };
      read = λ x.
          filled_read r m bs r' m' s p s.low tail e
          (filling_cells (ahead_filling w.beside.same w.into out (λ q l h. x.clear.beyond q (omega arith) (omega arith)) one (omega arith) lo up));
    }
