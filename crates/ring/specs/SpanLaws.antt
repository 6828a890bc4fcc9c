-- Laws of a stretch of a ring. Assumes nothing.
use Rattle.std.specs.Prelude.{◌≡◌, refl, List, ◌∷◌, ◌++◌, ℕ, zero, suc, ◌+◌, ◌%◌, ◌≤◌, ◌<◌, length, get_or}
use Rattle.std.proofs.Common.{sym, ap, ◌∙◌, zero-add, suc-add, not-suc-le-zero, le_of_suc-le-suc, arith, ext_get_or}
use Rattle.ring.specs.Ring.{capacity, Put, Got, span}

pub span_length : (r : List ℕ) (p n : ℕ) → length (span r p n) ≡ n
unfolding span
span_length r p zero = refl
span_length r p (suc n) = ap suc (span_length r (p + 1) n)

pub span_at : (r : List ℕ) (p n k : ℕ) → k < n → get_or (span r p n) k 0 ≡ get_or r ((p + k) % capacity) 0
unfolding span
span_at r p zero k h = absurd (not-suc-le-zero h)
span_at r p (suc n) zero h = ap (λ (x : ℕ). get_or r (x % capacity) 0) {x = p} {y = p + 0} (omega arith)
span_at r p (suc n) (suc k) h = span_at r (p + 1) n k (le_of_suc-le-suc h) ∙ ap (λ (x : ℕ). get_or r (x % capacity) 0) {x = p + 1 + k} {y = p + suc k} (omega arith)

-- a span is its cells
pub span_is : (r : List ℕ) (p n : ℕ) (s : List ℕ) → length s ≡ n → ((k : ℕ) → k < n → get_or r ((p + k) % capacity) 0 ≡ get_or s k 0) → span r p n ≡ s
span_is r p n s l h =
    let e : length (span r p n) ≡ n = span_length r p n in
    ext_get_or 0 (span r p n) s (e ∙ sym l) (λ k b. let c : k < n = omega arith in span_at r p n k c ∙ h k c)

pub span_append : (r : List ℕ) (p m n : ℕ) → span r p (m + n) ≡ span r p m ++ span r (p + m) n
unfolding span
span_append r p zero n = rw zero-add (ap (λ (q : ℕ). span r q n) {x = p} {y = p + 0} (omega arith))
span_append r p (suc m) n =
    rw (suc-add, span_append r (p + 1) m n)
    (ap (λ (q : ℕ). get_or r (p % capacity) 0 ∷ (span r (p + 1) m ++ span r q n)) {x = p + 1 + m} {y = p + suc m} (omega arith))

-- what was read is a stretch
pub got_span : (r d : List ℕ) (p n m : ℕ) → m ≡ n → Got r p m d → d ≡ span r p n
got_span r d p n m e g₀ =
    let g : Got r p n d = rw e at g₀ in
    ext_get_or 0 d (span r p n) (g.size ∙ sym (span_length r p n)) (λ i h. g.read i (omega (arith, g.size)) ∙ sym (span_at r p n i (omega (arith, g.size))))

-- give: s, written right after the m bytes held from position a on
pub put_span : {r s q : List ℕ} {pos : ℕ} (a m : ℕ) → Put r pos s q → pos ≡ a + m → m + length s ≤ capacity → span q a (m + length s) ≡ span r a m ++ s
put_span {r} {s} {q} {pos} a m p e h =
    let held : span q a m ≡ span r a m = span_is q a m (span r a m) (span_length r a m)
    (λ k b. p.kept ((a + k) % capacity) (omega arith) (λ j c z. omega arith) ∙ sym (span_at r a m k b)) in
    let new : span q (a + m) (length s) ≡ s = span_is q (a + m) (length s) s refl (λ k b. rw (← e) (p.written k b)) in
    span_append q a m (length s) ∙ rw (held, new)
