-- What is sent again when R ticks have gone since it was sent last is sent in each R ticks. Assumes nothing.
use Rattle.std.specs.Prelude.{◌≡◌, ℕ, zero, suc, ◌+◌, ◌-◌, ◌≤◌, ◌<◌}
use Rattle.std.proofs.Common.{add-zero, arith}
use Rattle.counting.specs.Count.{count}
use Rattle.counting.specs.CountLaws.{one, found}

-- `holds a n`: when n ticks are over it waits, last sent when a were. One tick: it is sent, or R ticks have not yet gone
pub data Beat (sent : ℕ → ℕ) (holds : ℕ → ℕ → Type 0) (R a n : ℕ) : Type 0 where
  beats : sent n ≡ 1 → holds (suc n) (suc n) → Beat sent holds R a n
  rests : suc n - a < R → holds a (suc n) → Beat sent holds R a n

-- so it goes for T ticks, as long as what is known is below b
pub record Timer (sent known : ℕ → ℕ) (holds : ℕ → ℕ → Type 0) (R b T : ℕ) : Type 0 where
  pub up : (n m : ℕ) → n ≤ m → known n ≤ known m
  pub past : (a n : ℕ) → n ≤ T → holds a n → a ≤ n
  pub beat : (a n : ℕ) → n < T → holds a n → known (suc n) < b → Beat sent holds R a n

-- with r ticks left until it is due it is sent at most r ticks later
fires : {sent known : ℕ → ℕ} {holds : ℕ → ℕ → Type 0} {R b T : ℕ} → Timer sent known holds R b T → (r a n : ℕ) → holds a n → a + R ≤ suc n + r → n + r < T → known (suc n + r) < b
    → 1 ≤ count sent n (suc r)
fires {sent} {known} {holds} {R} {b} {T} v zero a n k due l h = go (v.beat a n (omega arith) k (omega (arith, v.up (suc n) (suc n + 0) (omega arith))))
  where
    go : Beat sent holds R a n → 1 ≤ count sent n 1
    go (beats e q) = one sent n n 1 (omega arith) (omega arith) (omega arith)
    go (rests e q) = absurd (omega arith)
fires {sent} {known} {holds} {R} {b} {T} v (suc r) a n k due l h =
    go (v.beat a n (omega arith) k (omega (arith, v.up (suc n) (suc n + suc r) (omega arith)))) (λ q. fires v r a (suc n) q)
  where
    go : Beat sent holds R a n → (holds a (suc n) → a + R ≤ suc (suc n) + r → suc n + r < T → known (suc (suc n) + r) < b → 1 ≤ count sent (suc n) (suc r)) → 1 ≤ count sent n (suc (suc r))
    go (beats e q) ih = one sent n n (suc (suc r)) (omega arith) (omega arith) (omega arith)
    go (rests e q) ih =
        let later = ih q (omega arith) (omega arith) (omega (arith, v.up (suc (suc n) + r) (suc n + suc r) (omega arith))) in
        let f = found sent (suc n) (suc r) later in
        one sent n f.k (suc (suc r)) (omega (arith, f.from)) (omega (arith, f.below)) f.here

-- IN EACH R TICKS
pub timer_tries : {sent known : ℕ → ℕ} {holds : ℕ → ℕ → Type 0} {R b T : ℕ} → Timer sent known holds R b T → 1 ≤ R → (a n : ℕ) → holds a n → n + R ≤ T → known (n + R) < b → 1 ≤ count sent n R
timer_tries {R = R} {T = T} v p a n k l h =
    let r : ℕ = R - 1 in
    let e : suc r ≡ R = omega arith in
    rw e at (fires v r a n k (omega (arith, v.past a n (omega arith) k)) (omega arith) (omega (arith, v.up (suc n + r) (n + R) (omega arith))))

-- it waits until it is known
pub record Held (holds : ℕ → ℕ → Type 0) (n : ℕ) : Type 0 where
  pub last : ℕ
  pub is : holds last n

held_next : {sent known : ℕ → ℕ} {holds : ℕ → ℕ → Type 0} {R b T : ℕ} → Timer sent known holds R b T → (n : ℕ) → n < T → Held holds n → known (suc n) < b → Held holds (suc n)
held_next {sent} {known} {holds} {R} v n l k h = go (v.beat k.last n l k.is h)
  where
    go : Beat sent holds R k.last n → Held holds (suc n)
    go (beats e q) = record { last = suc n; is = q }
    go (rests e q) = record { last = k.last; is = q }

held_on : {sent known : ℕ → ℕ} {holds : ℕ → ℕ → Type 0} {R b T : ℕ} → Timer sent known holds R b T → (t k : ℕ) → Held holds t → t + k ≤ T → known (t + k) < b → Held holds (t + k)
held_on v t zero o l h = rw add-zero o
held_on {known = known} {b = b} v t (suc k) o l h =
    let e : t + suc k ≡ suc (t + k) = omega arith in
    let h' : known (suc (t + k)) < b = rw e at h in
    rw e (held_next v (t + k) (omega arith) (held_on v t k o (omega arith) (omega (arith, v.up (t + k) (suc (t + k)) (omega arith)))) h')

pub held_at : {sent known : ℕ → ℕ} {holds : ℕ → ℕ → Type 0} {R b T : ℕ} → Timer sent known holds R b T → (t n : ℕ) → Held holds t → t ≤ n → n ≤ T → known n < b → Held holds n
held_at v t n o l k h = let q : t + (n - t) ≡ n = omega arith in rw q at (held_on v t (n - t) o (omega arith) (rw q h))
