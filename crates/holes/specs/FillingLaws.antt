-- What a step does to the cells, for any bytes f and marks g by position: rings and stretches alike. Assumes nothing.
use Rattle.std.specs.Prelude.{◌≡◌, refl, ◌⊎◌, List, ℕ, ◌+◌, ◌-◌, ◌≤◌, ◌<◌, max, length, get_or}
use Rattle.std.proofs.Common.{sym, ◌∙◌, ap, inl, inr, ⊎_elim, arith, ext_get_or}
use Rattle.ring.specs.Ring.{capacity}
use Rattle.receiving.specs.Receiving.{Cell, missing, byte, first, fill_cells, cell_at, cells_of, Ranged, Clear}
use Rattle.arrivals.specs.Steps.{Same, Lays, Moves}
use Rattle.laws.specs.Split.{split}
use Rattle.receiving.specs.CellLaws.{length_fill, fill_before, fill_in, fill_after}
use Rattle.receiving.specs.ReadLaws.{cell_low, cell_missing, cell_marked, cell_same, length_cells, cells_at}
use Rattle.receiving.specs.declared.Scalars.{Scalars}

first_byte : {c : Cell} (a b : ℕ) → c ≡ byte a → first c b ≡ byte a
unfolding first
first_byte a b e = rw e

first_missing : {c : Cell} (b : ℕ) → c ≡ missing → first c b ≡ byte b
unfolding first
first_missing b e = rw e

-- cell by cell, in the window from taken on, what fill does
pub record Fillings (f g : ℕ → ℕ) (taken low p : ℕ) (bs : List ℕ) (f' g' : ℕ → ℕ) (low' : ℕ) : Type 0 where
  pub before : (q : ℕ) → taken ≤ q → q < taken + capacity → q < p → cell_at f' g' low' q ≡ cell_at f g low q
  pub inside : (q : ℕ) → taken ≤ q → q < taken + capacity → p ≤ q → q < p + length bs → cell_at f' g' low' q ≡ first (cell_at f g low q) (get_or bs (q - p) 0)
  pub after : (q : ℕ) → taken ≤ q → q < taken + capacity → p + length bs ≤ q → cell_at f' g' low' q ≡ cell_at f g low q

pub filling_cells : {f g f' g' : ℕ → ℕ} {bs : List ℕ} {t low p low' : ℕ} → Fillings f g t low p bs f' g' low'
    → cells_of f' g' t low' ≡ fill_cells t (cells_of f g t low) p bs
filling_cells {f} {g} {f'} {g'} {bs} {t} {low} {p} {low'} x₀ =
    let cs : List Cell = cells_of f g t low in
    let n : length cs ≡ capacity = length_cells f g t low in
    let n' : length (cells_of f' g' t low') ≡ capacity = length_cells f' g' t low' in
    ext_get_or missing (cells_of f' g' t low') (fill_cells t cs p bs) (n' ∙ sym (length_fill t cs p bs ∙ n))
    (λ i h.
    let k : i < capacity = omega arith in
    let l : i < length cs = omega arith in
    let c : get_or cs i missing ≡ cell_at f g low (t + i) = cells_at f g t low i k in
    let lo : t ≤ t + i = omega arith in
    let hi : t + i < t + capacity = omega arith in
    cells_at f' g' t low' i k
    ∙ ⊎_elim (λ x. x₀.before (t + i) lo hi x ∙ sym (fill_before t cs p bs i l x ∙ c))
    (λ x.
    ⊎_elim (λ y. x₀.inside (t + i) lo hi x y ∙ sym (fill_in t cs p bs i l x y ∙ ap (λ (z : Cell). first z (get_or bs (t + i - p) 0)) c))
    (λ y. x₀.after (t + i) lo hi y ∙ sym (fill_after t cs p bs i l y ∙ c))
    (split (t + i) (p + length bs)))
    (split (t + i) p))

-- a store of what is missing, from the higher of p and low on, fills
pub lays_filling : {f g f' g' : ℕ → ℕ} {bs : List ℕ} {t low p a : ℕ} → Lays f g p bs a (p + length bs) f' g' → a ≡ max p low → a ≤ p + length bs → t ≤ low
    → p + length bs ≤ t + capacity
    → Fillings f g t low p bs f' g' low
lays_filling {f} {g} {f'} {g'} {bs} {t} {low} {p} {a} s ea la lo up = record {
  before = λ q l h x. cell_same f g f' g' low q (s.bytes.below q (omega arith) (omega arith)) (s.marks.below q (omega arith) (omega arith));
  inside = λ q l h x y.
      ⊎_elim
      (λ b.
      let e : f' q ≡ f q = s.bytes.below q (omega arith) (omega arith) in
      cell_low f' g' low q b ∙ ap byte e ∙ sym (first_byte (f q) (get_or bs (q - p) 0) (cell_low f g low q b)))
      (λ b.
      let ge : a ≤ q = omega arith in
      let c' : cell_at f' g' low q ≡ byte (f' q) = cell_marked f' g' low q b (s.sets q ge y) in
      ⊎_elim
      (λ z.
      let z₀ : g q ≡ 0 = omega arith in
      c' ∙ ap byte (s.into q ge y z₀) ∙ sym (first_missing (get_or bs (q - p) 0) (cell_missing f g low q b z₀)))
      (λ z. c' ∙ ap byte (s.stays q ge y z) ∙ sym (first_byte (f q) (get_or bs (q - p) 0) (cell_marked f g low q b z)))
      (split (g q) 1))
      (split q low);
  after = λ q l h x. cell_same f g f' g' low q (s.bytes.above q x (omega arith)) (s.marks.above q x (omega arith));
}

-- the cells of a window tell no more than its marks
pub cells_same : {g g' : ℕ → ℕ} (f : ℕ → ℕ) (t low : ℕ) → ((q : ℕ) → t ≤ q → q < t + capacity → g' q ≡ g q) → cells_of f g' t low ≡ cells_of f g t low
cells_same {g} {g'} f t low e =
    let n = length_cells f g t low in
    let n' = length_cells f g' t low in
    ext_get_or missing (cells_of f g' t low) (cells_of f g t low) (n' ∙ sym n)
    (λ i h.
    let k : i < capacity = omega arith in
    cells_at f g' t low i k ∙ cell_same f g f g' low (t + i) refl (e (t + i) (omega arith) (omega arith)) ∙ sym (cells_at f g t low i k))

pub clear_same : {s : Scalars} {g g' : ℕ → ℕ} → Ranged s → ((q : ℕ) → s.taken ≤ q → q < s.taken + capacity → g' q ≡ g q) → Clear s g → Clear s g'
clear_same {s} {g} {g'} r e x =
    let a = r.taken_low in
    let b = r.low_tail in
    let c = r.tail_high in
    let d = r.high_limit in record {
      clear = λ q l h u. e q l u ∙ x.clear q l h u;
      beyond = λ q l u. e q (omega arith) u ∙ x.beyond q l u;
      top = λ h.
          let z : 0 < g (s.high - 1) = x.top h in
          let k : g' (s.high - 1) ≡ g (s.high - 1) = e (s.high - 1) (omega arith) (omega arith) in
          omega arith;
    }

-- passing marks moves low and no cell
pub moves_cells : {g g' : ℕ → ℕ} {low top l : ℕ} (f : ℕ → ℕ) (taken : ℕ) → Moves g low top g' l → taken ≤ low → top ≤ taken + capacity
    → cells_of f g' taken l ≡ cells_of f g taken low
moves_cells {g} {g'} {low} {top} {l} f t a lo up =
    let n = length_cells f g t low in
    let n' = length_cells f g' t l in
    let x = a.low_l in
    let y = a.l_top in
    ext_get_or missing (cells_of f g' t l) (cells_of f g t low) (n' ∙ sym n)
    (λ i h.
    let k : i < capacity = omega arith in
    cells_at f g' t l i k
    ∙ ⊎_elim
    (λ b. cell_low f g' l (t + i) b
    ∙ ⊎_elim (λ c. sym (cell_low f g low (t + i) c)) (λ c. sym (cell_marked f g low (t + i) c (a.marked (t + i) c b))) (split (t + i) low))
    (λ b.
    let e : g' (t + i) ≡ g (t + i) = a.same.above (t + i) b (omega arith) in
    let c : low ≤ t + i = omega arith in
    ⊎_elim (λ z. let z₀ : g (t + i) ≡ 0 = omega arith in cell_missing f g' l (t + i) b (e ∙ z₀) ∙ sym (cell_missing f g low (t + i) c z₀))
    (λ z. let z₁ : 0 < g' (t + i) = omega arith in cell_marked f g' l (t + i) b z₁ ∙ sym (cell_marked f g low (t + i) c z))
    (split (g (t + i)) 1))
    (split (t + i) l)
    ∙ sym (cells_at f g t low i k))

-- in order, and no position has a mark
pub order_filling : {f f' : ℕ → ℕ} {bs : List ℕ} {t low p : ℕ} (g : ℕ → ℕ) → Same f low (p + length bs) f'
    → ((q : ℕ) → low ≤ q → q < p + length bs → f' q ≡ get_or bs (q - p) 0) → ((q : ℕ) → low ≤ q → q < p + length bs → g q ≡ 0)
    → t ≤ low → p ≤ low → low ≤ p + length bs → p + length bs ≤ t + capacity
    → Fillings f g t low p bs f' g (p + length bs)
order_filling {f} {f'} {bs} {t} {low} {p} g w into z lo le hi up = record {
  before = λ q l h x.
      let e : f' q ≡ f q = w.below q (omega arith) (omega arith) in
      cell_low f' g (p + length bs) q (omega arith) ∙ ap byte e ∙ sym (cell_low f g low q (omega arith));
  inside = λ q l h x y.
      cell_low f' g (p + length bs) q y
      ∙ ⊎_elim
      (λ b.
      let e : f' q ≡ f q = w.below q b (omega arith) in
      ap byte e ∙ sym (first_byte (f q) (get_or bs (q - p) 0) (cell_low f g low q b)))
      (λ b. ap byte (into q b y) ∙ sym (first_missing (get_or bs (q - p) 0) (cell_missing f g low q b (z q b y))))
      (split q low);
  after = λ q l h x.
      let e : f' q ≡ f q = w.above q x (omega arith) in
      let b : low ≤ q = omega arith in
      ⊎_elim (λ y. let n : g q ≡ 0 = omega arith in cell_missing f' g (p + length bs) q x n ∙ sym (cell_missing f g low q b n))
      (λ y. cell_marked f' g (p + length bs) q x y ∙ ap byte e ∙ sym (cell_marked f g low q b y))
      (split (g q) 1);
}

-- beyond all that has arrived
pub ahead_filling : {f g f' g' : ℕ → ℕ} {bs : List ℕ} {t low p : ℕ} → Same f p (p + length bs) f' → ((q : ℕ) → p ≤ q → q < p + length bs → f' q ≡ get_or bs (q - p) 0)
    → ((q : ℕ) → t ≤ q → q < t + capacity → (q < p) ⊎ (p + length bs ≤ q) → g' q ≡ g q) → ((q : ℕ) → p ≤ q → q < p + length bs → g q ≡ 0)
    → ((q : ℕ) → p ≤ q → q < p + length bs → 0 < g' q)
    → low ≤ p → t ≤ low → p + length bs ≤ t + capacity
    → Fillings f g t low p bs f' g' low
ahead_filling {f} {g} {f'} {g'} {bs} {t} {low} {p} w into out zero one le lo up = record {
  before = λ q l h x. cell_same f g f' g' low q (w.below q x (omega arith)) (out q l h (inl x));
  inside = λ q l h x y.
      cell_marked f' g' low q (omega arith) (one q x y) ∙ ap byte (into q x y)
      ∙ sym (first_missing (get_or bs (q - p) 0) (cell_missing f g low q (omega arith) (zero q x y)));
  after = λ q l h x. cell_same f g f' g' low q (w.above q x (omega arith)) (out q l h (inr x));
}

-- nothing new
pub again_filling : (f g : ℕ → ℕ) (bs : List ℕ) (taken low p : ℕ) → ((q : ℕ) → p ≤ q → q < p + length bs → low ≤ q → 0 < g q) → Fillings f g taken low p bs f g low
again_filling f g bs t low p here = record {
  before = λ q l h x. refl;
  inside = λ q l k x y.
      let c : cell_at f g low q ≡ byte (f q) = ⊎_elim (λ b. cell_low f g low q b) (λ b. cell_marked f g low q b (here q x y b)) (split q low) in
      c ∙ sym (first_byte (f q) (get_or bs (q - p) 0) c);
  after = λ q l h x. refl;
}

-- the marks after a store and an advance
module _ (s : Scalars) (f g f₁ g₁ g' : ℕ → ℕ) (bs : List ℕ) (p a l top : ℕ) (rg : Ranged s) (x : Clear s g) (st : Lays f g p bs a (p + length bs) f₁ g₁) (ad : Moves g₁ s.low top g' l)
    (ea : a ≡ max p s.low) (et : top ≡ max s.high (p + length bs)) (new : s.low < p + length bs) (some : 0 < length bs) (up : p + length bs ≤ s.taken + capacity) where
  -- what is not stored to has the mark it had
  mark_out : (q : ℕ) → s.taken ≤ q → q < s.taken + capacity → (p + length bs ≤ q) ⊎ (q < a) → g₁ q ≡ g q
  mark_out q lo hi c = ⊎_elim (λ b. st.marks.above q b (omega arith)) (λ b. st.marks.below q b (omega arith)) c

  pub after_clear : (q : ℕ) → s.taken ≤ q → q ≤ l → q < s.taken + capacity → g' q ≡ 0
  after_clear q lo le hi =
      let u = ad.low_l in
      let v = ad.l_top in
      ⊎_elim (λ b. ad.same.below q b (omega arith) ∙ mark_out q lo hi (inr (omega arith)) ∙ x.clear q lo (omega arith) hi)
      (λ b.
      ⊎_elim (λ c. ad.cleared q b c)
      (λ c.
      let e : q ≡ l = omega arith in
      let k : g' q ≡ g₁ q = ad.same.above q c (omega arith) in
      ⊎_elim (λ d. k ∙ rw e (ad.stop d))
      (λ d. k ∙ mark_out q lo hi (inl (omega arith)) ∙ x.beyond q (omega arith) hi)
      (split l top))
      (split q l))
      (split q s.low)

  pub after_beyond : (q : ℕ) → top ≤ q → q < s.taken + capacity → g' q ≡ 0
  after_beyond q lo hi =
      let u = ad.low_l in
      let v = ad.l_top in
      ad.same.above q (omega arith) (omega arith) ∙ mark_out q (omega arith) hi (inl (omega arith)) ∙ x.beyond q (omega arith) hi

  pub after_top : l < top → 0 < g' (top - 1)
  after_top h =
      let u = ad.low_l in
      let k : g' (top - 1) ≡ g₁ (top - 1) = ad.same.above (top - 1) (omega arith) (omega arith) in
      ⊎_elim
      (λ b.
      let y : 0 < g₁ (top - 1) = st.sets (top - 1) (omega arith) b in
      omega arith)
      (λ b.
      let w : g₁ (top - 1) ≡ g (top - 1) = mark_out (top - 1) (omega arith) (omega arith) (inl b) in
      let e : top - 1 ≡ s.high - 1 = omega arith in
      let z : 0 < g (s.high - 1) = x.top (omega arith) in
      let z' : 0 < g (top - 1) = rw e z in
      omega arith)
      (split (top - 1) (p + length bs))

-- the marks after bytes in order and an advance from their end
module _ (s : Scalars) (g g' : ℕ → ℕ) (e l top : ℕ) (rg : Ranged s) (x : Clear s g) (free : (q : ℕ) → s.low ≤ q → q < e → g q ≡ 0) (ad : Moves g e top g' l) (et : top ≡ max s.high e)
    (new : s.low < e) (up : e ≤ s.taken + capacity) where
  pub follow_clear : (q : ℕ) → s.taken ≤ q → q ≤ l → q < s.taken + capacity → g' q ≡ 0
  follow_clear q lo le hi =
      let u = ad.low_l in
      let v = ad.l_top in
      ⊎_elim
      (λ b.
      ad.same.below q b (omega arith)
      ∙ ⊎_elim (λ c. x.clear q lo (omega arith) hi) (λ c. free q c b) (split q s.low))
      (λ b.
      ⊎_elim (λ c. ad.cleared q b c)
      (λ c.
      let i : q ≡ l = omega arith in
      let k : g' q ≡ g q = ad.same.above q c (omega arith) in
      ⊎_elim (λ d. k ∙ rw i (ad.stop d)) (λ d. k ∙ x.beyond q (omega arith) hi) (split l top))
      (split q l))
      (split q e)

  pub follow_beyond : (q : ℕ) → top ≤ q → q < s.taken + capacity → g' q ≡ 0
  follow_beyond q lo hi =
      let u = ad.low_l in
      let v = ad.l_top in
      ad.same.above q (omega arith) (omega arith) ∙ x.beyond q (omega arith) hi

  pub follow_top : l < top → 0 < g' (top - 1)
  follow_top h =
      let u = ad.low_l in
      let k : g' (top - 1) ≡ g (top - 1) = ad.same.above (top - 1) (omega arith) (omega arith) in
      let i : top - 1 ≡ s.high - 1 = omega arith in
      let z : 0 < g (s.high - 1) = x.top (omega arith) in
      let y : 0 < g (top - 1) = rw i z in
      omega arith
