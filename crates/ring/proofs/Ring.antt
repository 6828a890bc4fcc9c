-- Two replaced parts are a write into a ring. Assumes nothing.
use Rattle.std.proofs.Common.{◌≡◌, ◌∙◌, refl, List, length, take, drop, ap, arith, length-take, length-drop, ⊎_elim, ℕ, ◌+◌, ◌-◌, ◌%◌, ◌≤◌, ◌<◌, min, zero-le, get_or, get_or-take, get_or-drop}
use borrow.Rule.Slice.PartMut.{put_mid, same_len_mid}
use Rattle.laws.specs.PartLaws.{in_part, before_part, after_part}
use Rattle.laws.specs.Split.{split}
use Rattle.ring.specs.Ring.{capacity, Put}

-- s in two parts: b from index a on, and e, of what is past the end of the ring, at its start
pub put_parts : (r s b e : List ℕ) (pos a k : ℕ) → length r ≡ capacity → length s ≤ capacity → a ≡ pos % capacity → k ≡ min (length s) (capacity - a)
    → b ≡ take k s → e ≡ drop k s → Put r pos s (put_mid 0 (length e) (put_mid a (a + length b - a) r b) e)
put_parts r s b e pos a k full small ea ek hb he =
    let fits : a ≤ length r = omega arith in
    let l : ℕ = a + length b - a in
    let q : List ℕ = put_mid a l r b in
    let lb : length b ≡ k = ap length hb ∙ simp length-take (omega arith) in
    let le : length e ≡ length s - k = ap length he ∙ simp length-drop in
    let lq : length q ≡ length r = same_len_mid a l r b (simp (length-take, length-drop) (omega arith)) in record {
      size = same_len_mid 0 (length e) q e (simp length-take (omega arith)) ∙ lq;
      written = λ h b₀.
          ⊎_elim
          (λ lo.
          let w : (pos + h) % capacity ≡ a + h = omega arith in
          let f : 0 + length e ≤ a + h = omega arith in
          let g : h < length b = omega arith in
          rw w
          (after_part q e 0 (length e) zero-le (a + h) refl f ∙ in_part r b a l fits h g ∙ ap (λ (x : List ℕ). get_or x h 0) hb
          ∙ get_or-take k s h 0 lo))
          (λ hi.
          let w : (pos + h) % capacity ≡ 0 + (h - k) = omega arith in
          let v : k + (h - k) ≡ h = omega arith in
          let g : h - k < length e = omega arith in
          rw w
          (in_part q e 0 (length e) zero-le (h - k) g ∙ ap (λ (x : List ℕ). get_or x (h - k) 0) he ∙ get_or-drop k s (h - k) 0
          ∙ ap (λ (x : ℕ). get_or s x 0) v))
          (split h k);
      kept = λ h b₀ out.
          ⊎_elim (λ lo. absurd (out (k + h) (omega arith) (omega arith)))
          (λ lo.
          after_part q e 0 (length e) zero-le h refl (omega arith)
          ∙ ⊎_elim (λ hi. before_part r b a l fits h hi)
          (λ hi. ⊎_elim (λ to. absurd (out (h - a) (omega arith) (omega arith))) (λ to. after_part r b a l fits h (omega arith) (omega arith)) (split h (a + l)))
          (split h a))
          (split h (length e));
    }
