-- Marks by the byte: one bit changed is one mark put, a byte of 255 or 0 is eight marks. Only here and in the laws of specs is it opened how a mark is kept. Assumes nothing.
use Rattle.std.proofs.Common.{◌≡◌, ◌∙◌, sym, ap, inl, inr, arith, length-set, length-take, length-drop, ◌⊎◌, ⊎_elim, List, length, set, take, drop, replicate, ℕ, ◌+◌, ◌-◌, ◌*◌, ◌/◌, ◌%◌, ◌^◌, ◌≤◌, ◌<◌, get_or, get_or-set_same, get_or-set_other}
use Rattle.std.proofs.Math.Decide.{ℕ_discrete}
use Rattle.std.proofs.Math.ListN.{get_or-replicate}
use Rattle.std.proofs.lemmas.List.{length-replicate}
use Rattle.std.specs.Int.{w8, bit_not}
use Rattle.std.specs.Int.Bits.{bit_and, bit_or, and_mask}
use Rattle.std.proofs.lemmas.Nat.Bits.{bit_at_set_same, bit_at_set_other, bit_at_clear_same, bit_at_clear_other}
use borrow.Rule.Slice.PartMut.{put_mid, same_len_mid}
use Rattle.laws.specs.Split.{split}
use Rattle.laws.specs.Bits.{bit}
use Rattle.laws.specs.PartLaws.{in_part, before_part, after_part}
use Rattle.ring.specs.Ring.{capacity}
use Rattle.marks.specs.Marks.{mark}
use Rattle.marks.specs.ByteLaws.{mark_byte}
use Rattle.marks.specs.Stretches.{Put, Marked, Straight}

put_byte : (m : List ℕ) (q v w : ℕ) → length m ≡ capacity → bit w (q % 8) ≡ v
    → ((k : ℕ) → k < 8 → (k ≡ q % 8 → ⊥) → bit w k ≡ bit (get_or m (q % capacity / 8) 0) k)
    → Put m q v (set m (q % capacity / 8) w)
unfolding mark
put_byte m q v w l here there = record {
  length_same = simp length-set;
  here = rw (get_or-set_same m (q % capacity / 8) w 0 (omega arith)) here;
  there = λ j ne.
      elim (ℕ_discrete (j % capacity / 8) (q % capacity / 8)) [
        | yes e ↦ rw (e, get_or-set_same m (q % capacity / 8) w 0 (omega arith)) (there (j % 8) (omega arith) (λ e2. ne (omega arith)))
        | no n ↦ rw (get_or-set_other m (q % capacity / 8) (j % capacity / 8) w 0 n)
      ];
}

-- bit k of its byte set, and cleared
pub put_set : {m : List ℕ} {q i : ℕ} → length m ≡ capacity → i ≡ q % capacity / 8 → Put m q 1 (set m i (bit_or (get_or m i 0) (1 * 2 ^ (q % 8) % 2 ^ 8)))
unfolding bit
put_set {m} {q} l e =
    rw e
    (put_byte m q 1 _ l (bit_at_set_same w8 _ (q % 8) (omega arith))
    (λ k b ne. bit_at_set_other w8 _ (q % 8) (omega arith) k ne))

pub put_clear : {m : List ℕ} {q i : ℕ} → length m ≡ capacity → i ≡ q % capacity / 8
    → Put m q 0 (set m i (bit_and (get_or m i 0) (bit_not w8 (1 * 2 ^ (q % 8) % 2 ^ 8))))
unfolding bit
put_clear {m} {q} l e =
    rw e
    (put_byte m q 0 _ l (bit_at_clear_same w8 _ (q % 8) (omega arith))
    (λ k b ne. bit_at_clear_other w8 _ (q % 8) (omega arith) k b ne))

pub read_mark : (m : List ℕ) (q i : ℕ) → i ≡ q % capacity / 8 → bit_and (get_or m i 0 / 2 ^ (q % 8)) 1 ≡ mark m q
unfolding bit mark
read_mark m q i e = rw e (and_mask (get_or m (q % capacity / 8) 0 / 2 ^ (q % 8)) 1)

-- n whole bytes from index at on are the positions a .. b - 1
module _ (m : List ℕ) (a b at n : ℕ) (full : length m ≡ capacity) (s : Straight a b) (ea : at ≡ a % capacity / 8) (en : n ≡ (b - a) / 8) where
  byte_in : (q : ℕ) → a ≤ q → q < b → (q - a) / 8 < n
  byte_in q lo hi =
      let w = s.whole.from in
      let u = s.whole.upto in
      omega arith

  within : at + n ≤ length m
  within =
      let f = s.fits in
      let w = s.whole.from in
      let u = s.whole.upto in
      omega arith

  length_bytes : length (take n (drop at m)) ≡ n
  length_bytes = let w = within in simp (length-take, length-drop) (omega arith)

  -- any other position stands in another byte
  byte_apart : (q x : ℕ) → q % capacity ≡ (a + x) % capacity → b - a ≤ x → x < capacity → (q % capacity / 8 < at) ⊎ (at + n ≤ q % capacity / 8)
  byte_apart q x e lo hi =
      let f = s.fits in
      let w = s.whole.from in
      let u = s.whole.upto in
      ⊎_elim
      (λ lt. inl (omega arith))
      (λ ge.
      let i : a % capacity + (b - a) ≤ q % capacity = omega arith in
      inr (omega arith))
      (split (q % capacity) (a % capacity))

  module _ (y : List ℕ) (v : ℕ) (bin : v < 2) (filled : y ≡ replicate (length (take n (drop at m))) (v * 255)) where
    length_filled : length y ≡ n
    length_filled = ap length filled ∙ length-replicate (length (take n (drop at m))) (v * 255) ∙ length_bytes

    beside_bytes : (q x : ℕ) → q % capacity ≡ (a + x) % capacity → b - a ≤ x → x < capacity → mark (put_mid at n m y) q ≡ mark m q
    unfolding mark
    beside_bytes q x e lo hi =
        let w = within in
        let g : get_or (put_mid at n m y) (q % capacity / 8) 0 ≡ get_or m (q % capacity / 8) 0 =
        ⊎_elim (λ lt. before_part m y at n (omega arith) (q % capacity / 8) lt) (λ ge. after_part m y at n (omega arith) (q % capacity / 8) length_filled ge)
        (byte_apart q x e lo hi) in
        rw g

    into_bytes : (q : ℕ) → a ≤ q → q < b → mark (put_mid at n m y) q ≡ v
    into_bytes q lo hi =
        let w = within in
        let l = length_bytes in
        let ly = length_filled in
        let j : ℕ = (q - a) / 8 in
        let h : j < n = byte_in q lo hi in
        let k : j < length (take n (drop at m)) = omega arith in
        let g : get_or (put_mid at n m y) (at + j) 0 ≡ v * 255 =
        in_part m y at n (omega arith) j (omega arith) ∙ ap (λ (x : List ℕ). get_or x j 0) filled ∙ get_or-replicate (length (take n (drop at m))) j (v * 255) 0 k in
        mark_byte (put_mid at n m y) q s ea lo hi bin g

    filled_bytes : Marked m a b v (put_mid at n m y)
    filled_bytes =
        let o = s.whole.order in
        let t = s.whole.turn in record {
          length_same = same_len_mid at n m y (length_filled ∙ sym length_bytes);
          same = record {
            below = λ q h k. beside_bytes q (q + capacity - a) (omega arith) (omega arith) (omega arith);
            above = λ q h k. beside_bytes q (q - a) (omega arith) (omega arith) (omega arith);
          };
          into = into_bytes;
        }

-- with the numbers as the code has them
pub marked_bytes : {m y : List ℕ} {a b at v : ℕ} → length m ≡ capacity → v < 2 → Straight a b → at ≡ a % capacity / 8
    → y ≡ replicate (length (take (at + (b - a) / 8 - at) (drop at m))) (v * 255)
    → Marked m a b v (put_mid at (at + (b - a) / 8 - at) m y)
marked_bytes {m} {y} {a} {b} {at} {v} full h s ea e = filled_bytes m a b at (at + (b - a) / 8 - at) full s ea (omega arith) y v h e
