-- Laws of counting over ticks. Assumes nothing.
use Rattle.std.specs.Prelude.{◌≡◌, refl, ℕ, zero, suc, ◌+◌, ◌-◌, ◌*◌, ◌≤◌, ◌<◌}
use Rattle.std.proofs.Common.{add-zero, add-suc, add_assoc, arith}
use Rattle.std.proofs.Math.Decide.{dec_le, dec_lt}
use Rattle.counting.specs.Count.{count, Arrival, Fair}

-- a stretch in two parts
pub count_add : (s : ℕ → ℕ) (t m n : ℕ) → count s t (m + n) ≡ count s t m + count s (t + m) n
unfolding count
count_add s t m zero = simp add-zero
count_add s t m (suc n) = rw (add-suc, ← add_assoc t m n) (omega (arith, count_add s t m n))

-- one event is enough to count one
pub one : (s : ℕ → ℕ) (t k n : ℕ) → t ≤ k → k < t + n → 1 ≤ s k → 1 ≤ count s t n
unfolding count
one s t k zero l h e = absurd (omega arith)
one s t k (suc n) l h e = go (dec_lt k (t + n)) (one s t k n)
  where
    go : Dec (k < t + n) → (t ≤ k → k < t + n → 1 ≤ s k → 1 ≤ count s t n) → 1 ≤ count s t n + s (t + n)
    go (yes b) ih = omega (arith, ih l b e)
    go (no b) ih = let x : k ≡ t + n = omega arith in rw (← x) (omega arith)

-- at least one event in each r ticks, from t up to l times r later: at least l events
pub many : (s : ℕ → ℕ) (t r l : ℕ) → ((u : ℕ) → t ≤ u → u + r ≤ t + l * r → 1 ≤ count s u r) → l ≤ count s t (l * r)
many s t r zero h = omega arith
many s t r (suc l) h =
    let e : suc l * r ≡ l * r + r = omega arith in
    rw (e, count_add) (omega (arith, many s t r l (λ u a k. h u a (omega arith)), h (t + l * r) (omega arith) (omega arith)))

-- a stretch with at least k events, of which no tick has two, begins with one that has exactly k
pub exactly : (s : ℕ → ℕ) → ((u : ℕ) → s u ≤ 1) → (t n k : ℕ) → k ≤ count s t n → (m : ℕ) × (m ≤ n) × (count s t m ≡ k)
unfolding count
exactly s b t zero k h = (0, omega arith, omega arith)
exactly s b t (suc n) k h = go (dec_le k (count s t n)) (exactly s b t n k)
  where
    go : Dec (k ≤ count s t n) → (k ≤ count s t n → (m : ℕ) × (m ≤ n) × (count s t m ≡ k)) → (m : ℕ) × (m ≤ suc n) × (count s t m ≡ k)
    go (yes l) ih = let v = ih l in (v.0, omega arith, v.2)
    go (no l) ih = (suc n, omega arith, omega (arith, b (t + n)))

-- so any stretch of ticks with at least L sendings has one that arrives
pub fair_row : {sent : ℕ → ℕ} {arrives : ℕ → ℕ → Type 0} {L D T : ℕ} → Fair sent arrives L D T → ((u : ℕ) → sent u ≤ 1)
    → (t n : ℕ) → L ≤ count sent t n → t + n + D ≤ T → Arrival arrives D t n
fair_row {sent} {L = L} f b t n h l =
    let m = exactly sent b t n L h in
    let a = f.one_of t m.0 m.2 (omega arith) in
    record { sent = a.sent; come = a.come; from = a.from; below = omega (arith, a.below); after = a.after; within = a.within; arrived = a.arrived }

-- an event that is counted can be found
pub record Found (s : ℕ → ℕ) (t n : ℕ) : Type 0 where
  pub k : ℕ
  pub from : t ≤ k
  pub below : k < t + n
  pub here : 1 ≤ s k

pub found : (s : ℕ → ℕ) (t n : ℕ) → 1 ≤ count s t n → Found s t n
unfolding count
found s t zero h = absurd (omega arith)
found s t (suc n) h = go (s (t + n)) refl (found s t n)
  where
    go : (m : ℕ) → s (t + n) ≡ m → (1 ≤ count s t n → Found s t n) → Found s t (suc n)
    go zero e ih = let f = ih (omega arith) in record { k = f.k; from = f.from; below = omega arith; here = f.here }
    go (suc m) e ih = record { k = t + n; from = omega arith; below = omega arith; here = omega arith }

-- a stretch within another has no more
pub count_within : (s : ℕ → ℕ) (a m t n : ℕ) → a ≤ t → t + n ≤ a + m → count s t n ≤ count s a m
count_within s a m t n h k =
    let x = t - a in
    let y = a + m - (t + n) in
    let p : a + x ≡ t = omega arith in
    let q : m ≡ x + (n + y) = omega arith in
    rw (q, count_add s a x (n + y), p, count_add s t n y) (omega arith)

-- FAIR, shown: where nothing is sent L times
pub fair_none : {s : ℕ → ℕ} {arrives : ℕ → ℕ → Type 0} {L D T : ℕ} → count s 0 T < L → Fair s arrives L D T
fair_none {s} {T = T} h = record { one_of = λ t n e l. absurd (omega (arith, count_within s 0 T t n (omega arith) (omega arith))) }

-- where one arrives, and there are fewer than L before it and after it
pub fair_one : {s : ℕ → ℕ} {arrives : ℕ → ℕ → Type 0} {L D T : ℕ} (k j : ℕ) → k < j → j ≤ k + D → arrives k j → count s 0 k < L → count s (suc k) (T - suc k) < L → Fair s arrives L D T
fair_one {s} {arrives} {L} {D} {T} k j lt near v before after = record { one_of = λ t n e l. go t n e l (dec_le t k) (dec_lt k (t + n)) }
  where
    go : (t n : ℕ) → count s t n ≡ L → t + n + D ≤ T → Dec (t ≤ k) → Dec (k < t + n) → Arrival arrives D t n
    go t n e l (yes a) (yes b) = record { sent = k; come = j; from = a; below = b; after = lt; within = near; arrived = v }
    go t n e l (yes a) (no b) = absurd (omega (arith, count_within s 0 k t n (omega arith) (omega arith)))
    go t n e l (no a) b = absurd (omega (arith, count_within s (suc k) (T - suc k) t n (omega arith) (omega arith)))

-- where two do
pub fair_two : {s : ℕ → ℕ} {arrives : ℕ → ℕ → Type 0} {L D T : ℕ} (k j k' j' : ℕ) → k < j → j ≤ k + D → arrives k j → k' < j' → j' ≤ k' + D → arrives k' j'
    → count s 0 k < L
    → count s (suc k) (k' - suc k) < L
    → count s (suc k') (T - suc k') < L
    → Fair s arrives L D T
fair_two {s} {arrives} {L} {D} {T} k j k' j' lt near v lt' near' v' before between after =
    record { one_of = λ t n e l. go t n e l (dec_le t k) (dec_lt k (t + n)) (dec_le t k') (dec_lt k' (t + n)) }
  where
    go : (t n : ℕ) → count s t n ≡ L → t + n + D ≤ T → Dec (t ≤ k) → Dec (k < t + n) → Dec (t ≤ k') → Dec (k' < t + n) → Arrival arrives D t n
    go t n e l (yes a) (yes b) c d = record { sent = k; come = j; from = a; below = b; after = lt; within = near; arrived = v }
    go t n e l (yes a) (no b) c d = absurd (omega (arith, count_within s 0 k t n (omega arith) (omega arith)))
    go t n e l (no a) b (yes c) (yes d) = record { sent = k'; come = j'; from = c; below = d; after = lt'; within = near'; arrived = v' }
    go t n e l (no a) b (yes c) (no d) = absurd (omega (arith, count_within s (suc k) (k' - suc k) t n (omega arith) (omega arith)))
    go t n e l (no a) b (no c) d = absurd (omega (arith, count_within s (suc k') (T - suc k') t n (omega arith) (omega arith)))
