-- What start and take make of the lent buffers. Assumes nothing.
use Rattle.std.proofs.Common.{◌≡◌, sym, ◌∙◌, ap, drop, replicate, ⊎_elim, List, ◌++◌, ℕ, ◌+◌, ◌-◌, ◌≤◌, ◌<◌, min, arith, length-append, length-drop, length, get_or, ext_get_or, get_or-drop}
use Rattle.std.proofs.Math.ListN.{get_or-replicate, get_or-append, get_or-eq_default}
use Rattle.std.proofs.lemmas.List.{length-replicate}
use Rattle.laws.specs.Over.{over, Over}
use Rattle.laws.specs.OverLaws.{over_length}
use Rattle.ring.specs.Ring.{capacity, Got}
use Rattle.receiving.specs.Receiving.{Cell, missing, byte, heads, got_of, take_of, fresh, end_of, arrived, arrived_of, cell_at, cells_of, Ranged, Sound, receiving_of}
use Rattle.receiving.specs.Calls.{Takes, Starts}
use Rattle.laws.specs.Split.{split}
use Rattle.receiving.specs.CellLaws.{heads_is, past}
use Rattle.receiving.specs.ReadLaws.{cell_low, cell_missing, arrived_beyond, arrived_none, arrived_empty, length_cells, cells_at}
use Rattle.arrivals.specs.Marks.{of, mark}
use Rattle.arrivals.specs.MarkLaws.{mark_turn, mark_none}
use Rattle.receiving.specs.declared.Scalars.{Scalars}

module _ (s : Scalars) (r m : List ℕ) (k : ℕ) (x : Sound s r m) (fit : s.taken + k ≤ s.low) where
  -- no mark where the window moves in
  moved_in : (q : ℕ) → s.taken + capacity ≤ q → q < s.taken + k + capacity → arrived_of s m q ≡ 0
  moved_in q lo hi =
      let g = x.ranged in
      let o : ℕ = q - capacity in
      arrived_beyond s.tail s.high (mark m) q g.tail_high (omega arith) ∙ mark_turn m q (omega arith)
      ∙ arrived_none s.tail s.high (mark m) o g.tail_high (x.clear.clear o (omega arith) (omega arith) (omega arith))

  -- the cells after k were taken
  taken_cells : cells_of (of r) (arrived_of s m) (s.taken + k) s.low ≡ drop k (cells_of (of r) (arrived_of s m) s.taken s.low) ++ replicate k missing
  taken_cells =
      let g = x.ranged in
      let t : ℕ = s.taken in
      let low : ℕ = s.low in
      let cs : List Cell = cells_of (of r) (arrived_of s m) t low in
      let n : length cs ≡ capacity = length_cells (of r) (arrived_of s m) t low in
      let n' : length (cells_of (of r) (arrived_of s m) (t + k) low) ≡ capacity = length_cells (of r) (arrived_of s m) (t + k) low in
      let ld : length (drop k cs) ≡ capacity - k = length-drop k cs ∙ ap (λ (z : ℕ). z - k) n in
      let lr : length (replicate k missing) ≡ k = length-replicate k missing in
      let la : length (drop k cs ++ replicate k missing) ≡ length (drop k cs) + length (replicate k missing) = length-append (drop k cs) (replicate k missing) in
      ext_get_or missing (cells_of (of r) (arrived_of s m) (t + k) low) (drop k cs ++ replicate k missing) (omega arith)
      (λ i h.
      let b : i < capacity = omega arith in
      cells_at (of r) (arrived_of s m) (t + k) low i b
      ∙ ⊎_elim
      (λ c.
      let e : t + (k + i) ≡ t + k + i = omega arith in
      let f : k + i < capacity = omega arith in
      let d : i < length (drop k cs) = omega arith in
      sym (get_or-append (drop k cs) (replicate k missing) missing i d ∙ get_or-drop k cs i missing ∙ cells_at (of r) (arrived_of s m) t low (k + i) f ∙ ap (cell_at (of r) (arrived_of s m) low) e))
      (λ c.
      let j : ℕ = i - (capacity - k) in
      let e : capacity - k + j ≡ i = omega arith in
      let f : get_or (drop k cs ++ replicate k missing) (capacity - k + j) missing ≡ get_or (replicate k missing) j missing = past (drop k cs) (replicate k missing) (capacity - k) j ld in
      let f' : get_or (drop k cs ++ replicate k missing) i missing ≡ get_or (replicate k missing) j missing = rw e at f in
      let u : j < k = omega arith in
      cell_missing (of r) (arrived_of s m) low (t + k + i) (omega arith) (moved_in (t + k + i) (omega arith) (omega arith)) ∙ sym (f' ∙ get_or-replicate k j missing missing u))
      (split i (capacity - k)))

  taken_sound : Ranged (record { taken = s.taken + k; low = s.low; tail = s.tail; high = s.high; known = s.known; end = s.end })
      → Sound (record { taken = s.taken + k; low = s.low; tail = s.tail; high = s.high; known = s.known; end = s.end }) r m
  taken_sound g' = record {
    ranged = g';
    ring_size = x.ring_size;
    marks_size = x.marks_size;
    clear = record {
      clear = λ q l h u. ⊎_elim (λ b. x.clear.clear q (omega arith) h b) (λ b. moved_in q b (omega arith)) (split q (s.taken + capacity));
      beyond = λ q l h. ⊎_elim (λ b. x.clear.beyond q l b) (λ b. moved_in q b (omega arith)) (split q (s.taken + capacity));
      top = x.clear.top;
    };
    bare = x.bare;
  }

  -- the bytes that were read are the ones at the front
  taken_heads : (n : ℕ) (d : List ℕ) → k ≡ min n (s.low - s.taken) → Got r s.taken k d → heads n (cells_of (of r) (arrived_of s m) s.taken s.low) ≡ d
  unfolding of
  taken_heads n d e got =
      let g = x.ranged in
      let t : ℕ = s.taken in
      let l : length d ≡ k = got.size in
      heads_is n (cells_of (of r) (arrived_of s m) t s.low) d (omega arith)
      (λ i h.
      let f : of r (t + i) ≡ get_or d i 0 = sym (got.read i (omega arith)) in
      cells_at (of r) (arrived_of s m) t s.low i (omega arith) ∙ cell_low (of r) (arrived_of s m) s.low (t + i) (omega arith) ∙ ap byte f)
      (λ h.
      ⊎_elim
      (λ b.
      cells_at (of r) (arrived_of s m) t s.low (length d) b
      ∙ cell_missing (of r) (arrived_of s m) s.low (t + length d) (omega arith) (x.clear.clear (t + length d) (omega arith) (omega arith) (omega arith)))
      (λ b. get_or-eq_default (cells_of (of r) (arrived_of s m) t s.low) missing (omega (arith, length_cells (of r) (arrived_of s m) t s.low)))
      (split (length d) capacity))

taken_read : (s : Scalars) (r m d : List ℕ) (n k : ℕ) → heads n (cells_of (of r) (arrived_of s m) s.taken s.low) ≡ d → length d ≡ k
    → cells_of (of r) (arrived_of s m) (s.taken + k) s.low ≡ drop k (cells_of (of r) (arrived_of s m) s.taken s.low) ++ replicate k missing
    → receiving_of (record { taken = s.taken + k; low = s.low; tail = s.tail; high = s.high; known = s.known; end = s.end }) r m ≡ take_of (receiving_of s r m) n
unfolding receiving_of take_of
taken_read s r m d n k h l e =
    let f : length (heads n (cells_of (of r) (arrived_of s m) s.taken s.low)) ≡ k = ap length h ∙ l in
    rw (f, e)

taken_got : (s : Scalars) (r m d : List ℕ) (n : ℕ) → heads n (cells_of (of r) (arrived_of s m) s.taken s.low) ≡ d → d ≡ got_of (receiving_of s r m) n
unfolding receiving_of got_of
taken_got s r m d n h = sym h

-- the first bytes of a buffer, written
over_first : {k : ℕ} (y d : List ℕ) → length y ≡ k → Over y d (y ++ drop k d)
unfolding over
over_first y d l = record { is = rw l }

pub takes : {r d y : List ℕ} {s : Scalars} {n k : ℕ} → Ranged s → Got r s.taken n y → k ≡ min (length d) (s.low - s.taken) → n ≡ k
    → Takes r s d (y ++ drop k d) (record { taken = s.taken + k; low = s.low; tail = s.tail; high = s.high; known = s.known; end = s.end })
takes {r} {d} {y} {s} {n} {k} g got e en =
    let fit : s.taken + k ≤ s.low = omega (arith, g.taken_low) in
    let ranged : Ranged (record { taken = s.taken + k; low = s.low; tail = s.tail; high = s.high; known = s.known; end = s.end }) =
    record { taken_low = fit; low_tail = g.low_tail; tail_high = g.tail_high; high_limit = omega (arith, g.high_limit); high_small = g.high_small } in
    let gk : Got r s.taken k y = rw en at got in
    let l : length y ≡ k = gk.size in
    let o : Over y d (y ++ drop k d) = over_first y d l in
    let f : s.taken + k - s.taken ≡ k = omega arith in
    let h : (m : List ℕ) → Sound s r m → y ≡ got_of (receiving_of s r m) (length d) = λ m x. taken_got s r m y (length d) (taken_heads s r m k x fit (length d) y e gk) in record {
      same = over_length o (omega arith);
      ranged = ranged;
      rises = omega arith;
      count = omega arith;
      few = omega (arith, g.low_tail, g.tail_high, g.high_limit);
      done = λ m x. taken_sound s r m k x fit ranged;
      read = λ m x. taken_read s r m y (length d) k (taken_heads s r m k x fit (length d) y e gk) l (taken_cells s r m k x fit);
      counted = λ m x. f ∙ sym l ∙ ap length (h m x);
      got = λ m x. rw (sym (h m x)) o;
    }

-- a fresh end has nothing, whatever the ring holds
none_cells : (f g : ℕ → ℕ) → ((q : ℕ) → g q ≡ 0) → cells_of f g 0 0 ≡ replicate capacity missing
none_cells f g z =
    let l : length (cells_of f g 0 0) ≡ capacity = length_cells f g 0 0 in
    let k : length (replicate capacity missing) ≡ capacity = length-replicate capacity missing in
    ext_get_or missing (cells_of f g 0 0) (replicate capacity missing) (l ∙ sym k)
    (λ i h.
    let b : i < capacity = omega arith in
    cells_at f g 0 0 i b ∙ cell_missing f g 0 (0 + i) (omega arith) (z (0 + i)) ∙ sym (get_or-replicate capacity i missing missing b))

started_read : (r m : List ℕ) → cells_of (of r) (arrived 0 0 (mark m)) 0 0 ≡ replicate capacity missing → receiving_of (record { taken = 0; low = 0; tail = 0; high = 0; known = 0; end = 0 }) r m ≡ fresh
unfolding receiving_of fresh end_of
started_read r m e = rw e

pub starts : {m m' : List ℕ} → m' ≡ replicate (length m) 0 → length m ≡ capacity → Starts m m' (record { taken = 0; low = 0; tail = 0; high = 0; known = 0; end = 0 })
starts {m} {m'} e l =
    let z : m' ≡ replicate capacity 0 = rw l at e in
    let n : length m' ≡ capacity = rw z (length-replicate {A = ℕ} capacity 0) in
    let none : (q : ℕ) → arrived 0 0 (mark m') q ≡ 0 = λ q. arrived_empty 0 (mark m') q ∙ mark_none z q in
    let g : Ranged (record { taken = 0; low = 0; tail = 0; high = 0; known = 0; end = 0 }) =
    record { taken_low = omega arith; low_tail = omega arith; tail_high = omega arith; high_limit = omega arith; high_small = omega arith } in record {
      marks_same = n ∙ sym l;
      ranged = g;
      done = λ r h. record {
        ranged = g;
        ring_size = h;
        marks_size = n;
        clear = record { clear = λ q a b c. none q; beyond = λ q a b. none q; top = λ b. absurd (omega arith) };
        bare = λ q a b. absurd (omega arith);
      };
      read = λ r. started_read r m' (none_cells (of r) (arrived 0 0 (mark m')) none);
    }
