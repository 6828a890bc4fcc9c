-- Laws of a search for the first byte that is not v. Assumes nothing.
use Rattle.std.proofs.Common.{◌≡◌, List, [], ◌∷◌, ℕ, zero, suc, ◌+◌, ◌-◌, ◌≤◌, arith, fold, All, take, drop, length, length-drop, eqb, eq-eqb}
use Rattle.std.specs.List.{prefix_len}
use Rattle.std.proofs.lemmas.List.Sums.{prefix_len-le-length, prefix_len_passes, prefix_len_stops}
use Rattle.finding.specs.Search.{Other}
use Rattle.std.specs.Int.Bits.{bit_or, bit_xor, or_add_and, xor_add_and, and_le_l, and_le_r}

-- z | x ^ v is 0 only where z is 0 and x is v
or_none : (a b : ℕ) → bit_or a b ≡ 0 → (a ≡ 0) × (b ≡ 0)
or_none a b e = (omega (arith, or_add_and a b, and_le_l a b, and_le_r a b), omega (arith, or_add_and a b, and_le_l a b, and_le_r a b))

xor_none : (x v : ℕ) → bit_xor x v ≡ 0 → x ≡ v
xor_none x v e = omega (arith, xor_add_and x v, and_le_l x v, and_le_r x v)

pub none_other : (v z : ℕ) (xs : List ℕ) → fold (λ z x. bit_or z (bit_xor x v)) z xs ≡ 0 → (z ≡ 0) × All (λ x. x ≡ v) xs
none_other v z [] e = (e, λ k d h. absurd (omega arith))
none_other v z (x ∷ xs) e =
    let i = none_other v (bit_or z (bit_xor x v)) xs e in
    let p = or_none z (bit_xor x v) i.0 in
    (p.0, all_more xs (xor_none x v p.1) i.1)
  where
    all_more : {x v : ℕ} (xs : List ℕ) → x ≡ v → All (λ y. y ≡ v) xs → All (λ y. y ≡ v) (x ∷ xs)
    all_more xs e a zero d h = e
    all_more xs e a (suc k) d h = a k d (omega arith)

-- n bytes that are v lead to the rest
prefix_more : (v n : ℕ) (xs : List ℕ) → n ≤ length xs → All (λ x. x ≡ v) (take n xs) → prefix_len (λ x. eqb x v) xs ≡ n + prefix_len (λ x. eqb x v) (drop n xs)
prefix_more v zero xs h a = grind arith
prefix_more v (suc n) [] h a = absurd (omega arith)
prefix_more v (suc n) (x ∷ xs) h a =
    rw (eq-eqb x v (a 0 0 (omega arith)), prefix_more v n xs (omega arith) (λ k d l. a (suc k) d (omega arith))) (omega arith)

-- what is found is the first other
other_prefix : (m : List ℕ) (v : ℕ) → Other m v 0 (prefix_len (λ x. eqb x v) m)
other_prefix m v = record {
  low = omega arith;
  high = prefix_len-le-length _ m;
  before = λ k l _. let e = prefix_len_passes (λ x. eqb x v) m k 0 l in grind arith;
  found = λ l e. let n = prefix_len_stops (λ x. eqb x v) m 0 l in grind arith;
}

-- the bytes of m before the rest, its last part, are v
pub record Passed (m : List ℕ) (v : ℕ) (rest : List ℕ) : Type 0 where
  pub short : length rest ≤ length m
  pub same : prefix_len (λ x. eqb x v) m + length rest ≡ length m + prefix_len (λ x. eqb x v) rest

pub passed_none : (m : List ℕ) (v : ℕ) → Passed m v m
passed_none m v = record { short = omega arith; same = omega arith }

pub passed_more : {m rest after : List ℕ} {v n : ℕ} → Passed m v rest → n ≤ length rest → All (λ x. x ≡ v) (take n rest) → after ≡ drop n rest → Passed m v after
passed_more {rest = rest} {v = v} {n = n} p l a e =
    let f = prefix_more v n rest l a in
    let k = length-drop n rest in
    rw e (record { short = omega (arith, p.short); same = omega (arith, p.same, f) })

pub passed_bound : {m rest : List ℕ} {v k : ℕ} → Passed m v rest → k ≡ prefix_len (λ x. eqb x v) rest → length m - length rest + k ≤ length m
passed_bound {rest = rest} {v = v} p e = omega (arith, e, p.short, prefix_len-le-length (λ x. eqb x v) rest)

pub passed_other : {m rest : List ℕ} {v k : ℕ} → Passed m v rest → k ≡ prefix_len (λ x. eqb x v) rest → Other m v 0 (length m - length rest + k)
passed_other {m} {rest} {v} {k} p e =
    let i : length m - length rest + k ≡ prefix_len (λ x. eqb x v) m = omega (arith, e, p.short, p.same) in
    rw i (other_prefix m v)
