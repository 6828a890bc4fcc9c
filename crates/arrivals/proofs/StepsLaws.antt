-- Laws of the steps, by position. Assumes nothing.
use Rattle.std.proofs.Common.{◌≡◌, ◌∙◌, List, length, set, drop, take, arith, length-set, length-drop, length-take, ℕ, ◌+◌, ◌-◌, ◌≤◌, ◌<◌, ◌%◌, get_or, get_or-set_same, get_or-set_other, get_or-drop, get_or-take}
use Rattle.ring.specs.Ring as ring
use Rattle.ring.specs.Ring.{capacity}
use Rattle.marks.specs.Stretches.{Put, Marked}
use Rattle.arrivals.specs.Marks.{of, mark}
use Rattle.arrivals.specs.Steps.{Beside, Written, Stored}

-- one position stored to
of_set_same : (l : List ℕ) (q v : ℕ) → length l ≡ capacity → of (set l (q % capacity) v) q ≡ v
unfolding of
of_set_same l q v n = get_or-set_same l (q % capacity) v 0 (omega arith)

of_set_other : (l : List ℕ) (q x v : ℕ) → x < q + capacity → q < x + capacity → (x ≡ q → ⊥) → of (set l (q % capacity) v) x ≡ of l x
unfolding of
of_set_other l q x v h k ne = get_or-set_other l (q % capacity) (x % capacity) v 0 (λ e. ne (omega arith))

-- no position has a mark: all bytes are written
stored_straight : {r m r' m' bs : List ℕ} {p a b : ℕ} → Written r p bs a b r' → Marked m a b 1 m' → ((q : ℕ) → a ≤ q → q < b → mark m q ≡ 0) → Stored r m p bs a b r' m'
stored_straight w f h = record {
  ring_same = w.beside.length_same;
  marks_same = f.length_same;
  lays = record {
    bytes = w.beside.same;
    marks = f.same;
    into = λ q l k z. w.into q l k;
    stays = λ q l k z. let x = h q l k in absurd (omega arith);
    sets = λ q l k. let x = f.into q l k in omega arith;
  };
}

stored_put : {r m m' bs : List ℕ} {p q : ℕ} → length r ≡ capacity → mark m q ≡ 0 → Put m q 1 m' → Stored r m p bs q (q + 1) (set r (q % capacity) (get_or bs (q - p) 0)) m'
stored_put {r} {m} {m'} {bs} {p} {q} n h t =
    let v : ℕ = get_or bs (q - p) 0 in
    let here : of (set r (q % capacity) v) q ≡ v = of_set_same r q v n in
    stored_straight
    (record {
      beside = record {
        length_same = simp length-set;
        same = record {
          below = λ j h k. of_set_other r q j v (omega arith) (omega arith) (λ e. omega arith);
          above = λ j h k. of_set_other r q j v (omega arith) (omega arith) (λ e. omega arith);
        };
      };
      into = λ j l k. let e : j ≡ q = omega arith in rw e here;
    })
    (record {
      length_same = t.length_same;
      same = record { below = λ j h k. t.there j (λ e. omega arith); above = λ j h k. t.there j (λ e. omega arith) };
      into = λ j l k. let e : j ≡ q = omega arith in rw e t.here;
    })
    (λ j l k. let e : j ≡ q = omega arith in rw e h)

pub stored_set : {r m m' bs : List ℕ} {p q j : ℕ} → mark m q ≡ 0 → length r ≡ capacity → j ≡ q % capacity → Put m q 1 m' → Stored r m p bs q (q + 1) (set r j (get_or bs (q - p) 0)) m'
stored_set z n i t = rw i (stored_put n z t)

-- a write into the ring, by position
put_beside : {r s r' : List ℕ} {a : ℕ} → ring.Put r a s r' → (b : ℕ) → b ≡ a + length s → Beside r a b r'
unfolding of
put_beside {r} {s} {r'} {a} w b e = record {
  length_same = w.size;
  same = record {
    below = λ q h k. w.kept (q % capacity) (omega arith) (λ i l z. omega arith);
    above = λ q h k. w.kept (q % capacity) (omega arith) (λ i l z. omega arith);
  };
}

put_into : {r s r' : List ℕ} {a : ℕ} → ring.Put r a s r' → (q : ℕ) → a ≤ q → q < a + length s → of r' q ≡ get_or s (q - a) 0
unfolding of
put_into {r} {s} {r'} {a} w q h k =
    let e : a + (q - a) ≡ q = omega arith in
    let f : get_or r' ((a + (q - a)) % capacity) 0 ≡ get_or s (q - a) 0 = w.written (q - a) (omega arith) in
    rw e at f

pub put_written : {r r' bs : List ℕ} {a p : ℕ} → ring.Put r a (take (length bs - (a - p)) (drop (a - p) bs)) r' → p ≤ a → a ≤ p + length bs
    → Written r p bs a (p + length bs) r'
put_written {r} {r'} {bs} {a} {p} w lo hi =
    let s : List ℕ = take (length bs - (a - p)) (drop (a - p) bs) in
    let l : length s ≡ length bs - (a - p) = simp (length-take, length-drop) (omega arith) in record {
      beside = put_beside w (p + length bs) (omega arith);
      into = λ q h k.
          let x : a - p + (q - a) ≡ q - p = omega arith in
          let y : q - a < length bs - (a - p) = omega arith in
          put_into w q h (omega arith) ∙ get_or-take (length bs - (a - p)) (drop (a - p) bs) (q - a) 0 y ∙ rw (get_or-drop, x);
    }
