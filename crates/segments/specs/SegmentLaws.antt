-- Laws of the segments in their tables. Assumes nothing.
use Rattle.std.specs.Prelude.{◌≡◌, refl, List, [], ◌∷◌, ◌++◌, ℕ, zero, suc, ◌+◌, ◌%◌, ◌<◌, length, get_or, set}
use Rattle.std.proofs.Common.{ap, add-one, arith, get_or-set_same, get_or-set_other}
use Rattle.segments.specs.Segments.{segments_most, Segment}
use Rattle.segments.specs.Segments.{segs}

-- segment number k
abbrev pub seg : List ℕ → List ℕ → ℕ → Segment
seg ends times k = record { to = get_or ends (k % segments_most) 0; at = get_or times (k % segments_most) 0 }

pub segs_length : (ends times : List ℕ) (k n : ℕ) → length (segs ends times k n) ≡ n
unfolding segs
segs_length ends times k zero = refl
segs_length ends times k (suc n) = ap suc (segs_length ends times k n)

-- segments are their cells
pub segs_same : (e e' t t' : List ℕ) (k n : ℕ) → ((j : ℕ) → j < n → get_or e' ((k + j) % segments_most) 0 ≡ get_or e ((k + j) % segments_most) 0)
    → ((j : ℕ) → j < n → get_or t' ((k + j) % segments_most) 0 ≡ get_or t ((k + j) % segments_most) 0) → segs e' t' k n ≡ segs e t k n
unfolding segs
segs_same e e' t t' k zero g h = refl
segs_same e e' t t' k (suc n) g h = rw (g n (omega arith), h n (omega arith), segs_same e e' t t' k n (λ j l. g j (omega arith)) (λ j l. h j (omega arith)))

pub segs_more : (ends t : List ℕ) (k n : ℕ) → segs ends t k (n + 1) ≡ seg ends t (k + n) ∷ segs ends t k n
unfolding segs
segs_more ends t k n = rw add-one

-- a store at segment n leaves those before it
pub segs_set : (ends t : List ℕ) (k n v : ℕ) → n < segments_most → segs ends (set t ((k + n) % segments_most) v) k n ≡ segs ends t k n
segs_set ends t k n v h =
    segs_same ends ends t _ k n (λ j l. refl) (λ j l. get_or-set_other t ((k + n) % segments_most) ((k + j) % segments_most) v 0 (λ e. omega arith))

-- a store of both words of segment n adds it
pub segs_add : (ends times : List ℕ) (k n b v : ℕ) → n < segments_most → length ends ≡ segments_most → length times ≡ segments_most
    → segs (set ends ((k + n) % segments_most) b) (set times ((k + n) % segments_most) v) k (n + 1) ≡ record { to = b; at = v } ∷ segs ends times k n
segs_add ends times k n b v h le lt =
    let c : ℕ = (k + n) % segments_most in
    rw (
      segs_more (set ends c b) (set times c v) k n,
      get_or-set_same ends c b 0 (omega arith),
      get_or-set_same times c v 0 (omega arith),
      segs_same ends (set ends c b) times (set times c v) k n
          (λ j l. get_or-set_other ends c ((k + j) % segments_most) b 0 (λ q. omega arith))
          (λ j l. get_or-set_other times c ((k + j) % segments_most) v 0 (λ q. omega arith)),
    )

-- the oldest stands last
pub segs_oldest : (e t : List ℕ) (k n : ℕ) → segs e t k (suc n) ≡ segs e t (k + 1) n ++ (seg e t k ∷ [])
unfolding segs
segs_oldest e t k zero = ap (λ (i : ℕ). seg e t i ∷ []) {x = k + 0} {y = k} (omega arith)
segs_oldest e t k (suc n) =
    let i : k + suc n ≡ k + 1 + n = omega arith in
    rw i (ap (λ (l : List Segment). seg e t (k + 1 + n) ∷ l) (segs_oldest e t k n))

-- places come round again
pub segs_wrap : (e t : List ℕ) (k n : ℕ) → segs e t (k % segments_most) n ≡ segs e t k n
unfolding segs
segs_wrap e t k zero = refl
segs_wrap e t k (suc n) =
    let i : (k % segments_most + n) % segments_most ≡ (k + n) % segments_most = omega arith in
    rw (i, segs_wrap e t k n)
