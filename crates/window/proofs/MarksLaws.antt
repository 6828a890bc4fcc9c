-- Laws of the window that marks keep. Assumes nothing.
use Rattle.std.proofs.Common.{◌≡◌, refl, List, ℕ, zero, suc, ◌+◌, ◌-◌, ◌≤◌, ◌<◌, max, ltb, length, get_or, set, sym, ap, ◌∙◌, le_of_suc-le-suc, not-suc-le-zero, arith, length-set, ext_get_or, get_or-set_same, get_or-set_other, lt-ltb, le-ltb}
use Rattle.std.proofs.Math.Nat.{sub-zero}
use Rattle.std.proofs.Math.Decide.{ℕ_discrete, dec_lt}
use Rattle.laws.specs.Choice.{if}
use Rattle.window.specs.Window.{width, Window, unseen, fresh, seen_of, verdict_of, slide, accept_of}
use Rattle.window.proofs.WindowLaws.{verdict_nought, verdict_above, verdict_old, verdict_new, verdict_again, new_is}
use Rattle.window.proofs.WindowLaws.{length_unseen, unseen_at, length_slide, slide_first, slide_none, slide_rest}
use Rattle.window.specs.Marks.{mark, marks_from, window_of, Accepts}

-- what the code's loop shows: p was accepted, by marks
pub record Marked (h : ℕ) (m : List ℕ) (p h' : ℕ) (m' : List ℕ) : Type 0 where
  pub high : h' ≡ max h p
  pub long : length m' ≡ length m
  pub here : mark m' p ≡ 1
  pub kept : (q : ℕ) → q ≤ h → (q ≡ p → ⊥) → h' < q + width → mark m' q ≡ mark m q
  pub none : (q : ℕ) → h < q → q < p → p < q + width → mark m' q ≡ 0

length_marks : (h : ℕ) (m : List ℕ) (i n : ℕ) → length (marks_from h m i n) ≡ n
unfolding marks_from
length_marks h m i zero = refl
length_marks h m i (suc n) = ap suc (length_marks h m (suc i) n)

pub length_window : (h : ℕ) (m : List ℕ) → length (window_of h m).seen ≡ width
unfolding window_of
length_window h m = length_marks h m 0 width

marks_at : (h : ℕ) (m : List ℕ) (i n k : ℕ) → k < n → get_or (marks_from h m i n) k 0 ≡ if (ltb (i + k) h) (mark m (h - (i + k))) 0
unfolding marks_from
marks_at h m i zero k l = absurd (not-suc-le-zero l)
marks_at h m i (suc n) zero l = ap (λ (x : ℕ). if (ltb x h) (mark m (h - x)) 0) {x = i} {y = i + 0} (omega arith)
marks_at h m i (suc n) (suc k) l =
    marks_at h m (suc i) n k (le_of_suc-le-suc l) ∙ ap (λ (x : ℕ). if (ltb x h) (mark m (h - x)) 0) {x = suc i + k} {y = i + suc k} (omega arith)

-- the number k below h, and what is no number
pub window_mark : (h : ℕ) (m : List ℕ) (k : ℕ) → k < width → k < h → get_or (window_of h m).seen k 0 ≡ mark m (h - k)
unfolding window_of
window_mark h m k l g =
    let e : 0 + k < h = omega arith in
    let z : 0 + k ≡ k = omega arith in
    marks_at h m 0 width k l ∙ rw (lt-ltb (0 + k) h e, z)

pub window_none : (h : ℕ) (m : List ℕ) (k : ℕ) → k < width → h ≤ k → get_or (window_of h m).seen k 0 ≡ 0
unfolding window_of
window_none h m k l g = let e : h ≤ 0 + k = omega arith in marks_at h m 0 width k l ∙ rw (le-ltb (0 + k) h e)

pub window_high : (h : ℕ) (m : List ℕ) → (window_of h m).high ≡ h
unfolding window_of
window_high h m = refl

pub window_seen : (h : ℕ) (m : List ℕ) (p : ℕ) → 0 < p → p ≤ h → h - p < width → seen_of (window_of h m) p ≡ mark m p
unfolding seen_of
window_seen h m p z l g =
    let e : h - (h - p) ≡ p = omega arith in
    rw (window_high h m) (window_mark h m (h - p) g (omega arith) ∙ rw e)

same_window : (v w : Window) → v.high ≡ w.high → v.seen ≡ w.seen → v ≡ w
same_window v w e f = rw (e, f)

module _ (h : ℕ) (m : List ℕ) (p h' : ℕ) (m' : List ℕ) (a : Marked h m p h' m') (some : 0 < p) where
  above_seen : h < p → (window_of h' m').seen ≡ slide width (p - h - 1) (window_of h m).seen
  above_seen hp =
      let d : ℕ = p - h - 1 in
      let old = (window_of h m).seen in
      let hi : h' ≡ p = omega (arith, a.high) in
      let x = length_window h' m' in
      let y : length (slide width d old) ≡ width = length_slide width d old (omega (arith, length_window h m)) in
      ext_get_or 0 (window_of h' m').seen (slide width d old) (x ∙ sym y)
      (λ k b. at k (omega arith) hi)
    where
      at : (k : ℕ) → k < width → h' ≡ p → get_or (window_of h' m').seen k 0 ≡ get_or (slide width (p - h - 1) (window_of h m).seen) k 0
      at zero l e = window_mark h' m' 0 l (omega arith) ∙ rw (sub-zero, e) a.here ∙ sym (slide_first width (p - h - 1) (window_of h m).seen l)
      at (suc j) l e = elim (dec_lt j (p - h - 1)) [
        | yes g ↦ window_mark h' m' (suc j) l (omega arith) ∙ a.none (h' - suc j) (omega arith) (omega arith) (omega arith) ∙ sym (slide_none width (p - h - 1) (window_of h m).seen j l g)
        | no g ↦
            let i : ℕ = j - (p - h - 1) in
            let f : suc j ≡ suc ((p - h - 1) + i) = omega arith in
            rw f (rw f at (below i (suc j) f l e) ∙ sym (slide_rest width (p - h - 1) (window_of h m).seen i (omega arith)))
      ]
        where
          below : (i k : ℕ) → k ≡ suc ((p - h - 1) + i) → k < width → h' ≡ p → get_or (window_of h' m').seen k 0 ≡ get_or (window_of h m).seen i 0
          below i k f l e = elim (dec_lt i h) [
            | yes g ↦
                let n : h' - k ≡ h - i = omega arith in
                window_mark h' m' k l (omega arith) ∙ rw n (a.kept (h - i) (omega arith) (λ q. omega arith) (omega arith)) ∙ sym (window_mark h m i (omega arith) g)
            | no g ↦ window_none h' m' k l (omega arith) ∙ sym (window_none h m i (omega arith) (omega arith))
          ]

  within_seen : p ≤ h → h < p + width → (window_of h' m').seen ≡ set (window_of h m).seen (h - p) 1
  within_seen ph near =
      let hi : h' ≡ h = omega (arith, a.high) in
      let y : length (set (window_of h m).seen (h - p) 1) ≡ width = length-set (window_of h m).seen (h - p) 1 ∙ length_window h m in
      ext_get_or 0 (window_of h' m').seen (set (window_of h m).seen (h - p) 1) (length_window h' m' ∙ sym y) (λ k b. at k (omega (arith, length_window h' m')) hi)
    where
      at : (k : ℕ) → k < width → h' ≡ h → get_or (window_of h' m').seen k 0 ≡ get_or (set (window_of h m).seen (h - p) 1) k 0
      at k l e = elim (ℕ_discrete k (h - p)) [
        | yes q ↦
            let n : h' - k ≡ p = omega arith in
            window_mark h' m' k l (omega arith) ∙ rw (n, q) (a.here ∙ sym (get_or-set_same (window_of h m).seen (h - p) 1 0 (omega (arith, length_window h m))))
        | no q ↦ elim (dec_lt k h) [
          | yes g ↦
              let n : h' - k ≡ h - k = omega arith in
              window_mark h' m' k l (omega arith) ∙ rw n (a.kept (h - k) (omega arith) (λ z. omega arith) (omega arith)) ∙ sym (get_or-set_other (window_of h m).seen (h - p) k 1 0 q ∙ window_mark h m k l g)
          | no g ↦ window_none h' m' k l (omega arith) ∙ sym (get_or-set_other (window_of h m).seen (h - p) k 1 0 q ∙ window_none h m k l (omega arith))
        ]
      ]

  pub marked_accepts : h < p + width → Accepts h m p h' m'
  unfolding accept_of
  marked_accepts near = record {
    long = a.long;
    window = elim (dec_lt h p) [
      | yes l ↦ rw (window_high h m, lt-ltb h p l) (same_window _ _ (window_high h' m' ∙ omega (arith, a.high)) (above_seen l))
      | no l ↦ rw (window_high h m, le-ltb h p (omega arith)) (same_window _ _ (window_high h' m' ∙ omega (arith, a.high)) (within_seen (omega arith) near))
    ];
  }

-- with nothing accepted, whatever the marks are
pub window_fresh : (m : List ℕ) → window_of 0 m ≡ fresh
unfolding fresh
window_fresh m =
    same_window _ _ (window_high 0 m)
    (ext_get_or 0 (window_of 0 m).seen (unseen width) (length_window 0 m ∙ sym (length_unseen width))
    (λ k b. let l : k < width = omega (arith, length_window 0 m) in window_none 0 m k l (omega arith) ∙ sym (unseen_at width k l)))

-- the code's verdict, case by case; r is the mark that it read
module _ (h : ℕ) (m : List ℕ) (p r : ℕ) where
  pub marks_nought : p ≡ 0 → 4 ≡ verdict_of (window_of h m) p
  marks_nought z = verdict_nought (window_of h m) p z

  pub marks_above : (p ≡ 0 → ⊥) → h < p → 0 ≡ verdict_of (window_of h m) p
  marks_above z a = verdict_above (window_of h m) p z (rw (window_high h m) a)

  pub marks_old : (p ≡ 0 → ⊥) → p ≤ h → width ≤ h - p → 5 ≡ verdict_of (window_of h m) p
  marks_old z a o = verdict_old (window_of h m) p z (rw (window_high h m) a) (rw (window_high h m) o)

  pub marks_new : (p ≡ 0 → ⊥) → p ≤ h → h - p < width → r ≡ mark m p → r ≡ 0 → 0 ≡ verdict_of (window_of h m) p
  marks_new z a o e n =
      verdict_new (window_of h m) p z (rw (window_high h m) a) (rw (window_high h m) o) (window_seen h m p (omega arith) a o ∙ sym e ∙ n)

  pub marks_again : (p ≡ 0 → ⊥) → p ≤ h → h - p < width → r ≡ mark m p → (r ≡ 0 → ⊥) → 6 ≡ verdict_of (window_of h m) p
  marks_again z a o e n =
      verdict_again (window_of h m) p z (rw (window_high h m) a) (rw (window_high h m) o) (λ x. n (e ∙ sym (window_seen h m p (omega arith) a o) ∙ x))

pub ruleset verdicts = (marks_nought, marks_above, marks_old, marks_new, marks_again)

-- what a caller of `accept` shows, from what `verdict` ensures
pub new_near : (h : ℕ) (m : List ℕ) (p r : ℕ) → r ≡ verdict_of (window_of h m) p → r ≡ 0 → h < p + width
new_near h m p r e z = rw (window_high h m) at (new_is (window_of h m) p (sym e ∙ z)).near

pub new_some : (h : ℕ) (m : List ℕ) (p r : ℕ) → r ≡ verdict_of (window_of h m) p → r ≡ 0 → 0 < p
new_some h m p r e z = (new_is (window_of h m) p (sym e ∙ z)).some
