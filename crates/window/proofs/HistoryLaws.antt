-- What section 4 is for: a number that was accepted once is never new again, and one of the window that was not is new. Assumes nothing.
use Rattle.std.proofs.Common.{◌≡◌, refl, ℕ, ◌+◌, ◌-◌, ◌≤◌, ◌<◌, length, ◌∙◌, ⊎_elim, arith, List, [], ◌∷◌}
use mathlib.Core.List.Memᴰ
use mathlib.Core.List.{Memᴰ}
use Rattle.std.proofs.Math.Decide.{ℕ_discrete, dec_le}
use Rattle.window.specs.Window.{width, Window, fresh, seen_of, verdict_of, accept_of}
use Rattle.window.proofs.WindowLaws.{length_unseen, unseen_at, new_is, is_new, Accepted, accept_accepted}
use Rattle.window.specs.History.{Reached, none, more}

-- what a history says of its window
pub record Told (s : List ℕ) (w : Window) : Type 0 where
  pub size : length w.seen ≡ width
  pub below : (q : ℕ) → Memᴰ q s → q ≤ w.high
  pub marked : (q : ℕ) → Memᴰ q s → w.high < q + width → seen_of w q ≡ 1
  pub unmarked : (q : ℕ) → (Memᴰ q s → ⊥) → q ≤ w.high → w.high < q + width → seen_of w q ≡ 0

told_none : Told [] fresh
unfolding fresh seen_of
told_none = record {
  size = length_unseen width;
  below = λ q i. absurd (Memᴰ.not-nil i);
  marked = λ q i. absurd (Memᴰ.not-nil i);
  unmarked = λ q n l g. unseen_at width (0 - q) (omega arith);
}

told_more : {s : List ℕ} {w v : Window} {p : ℕ} → Told s w → Accepted w p v → Told (p ∷ s) v
told_more {w = w} {p = p} t a = record {
  size = a.size;
  below = λ q i. ⊎_elim (λ e. omega (arith, a.high)) (λ j. omega (arith, t.below q j, a.high)) (Memᴰ.cases_cons i);
  marked = λ q i g. elim (ℕ_discrete q p) [
    | yes e ↦ rw e a.here
    | no n ↦ ⊎_elim (λ e. absurd (n e)) (λ j. a.kept q (t.below q j) n g ∙ t.marked q j (omega (arith, a.high))) (Memᴰ.cases_cons i)
  ];
  unmarked = λ q n l g. elim (dec_le q w.high) [
    | yes k ↦ a.kept q k (λ e. n (Memᴰ.head e)) g ∙ t.unmarked q (λ i. n (Memᴰ.tail i)) k (omega (arith, a.high))
    | no k ↦ elim (ℕ_discrete q p) [
      | yes e ↦ absurd (n (Memᴰ.head e))
      | no ne ↦ a.none q (omega arith) (omega (arith, a.high)) (omega (arith, a.high))
    ]
  ];
}

pub told : {s : List ℕ} {w : Window} → Reached s w → Told s w
told none = told_none
told (more {w = w} {p = p} r n) = let t = told r in told_more t (accept_accepted w p t.size (new_is w p n).near)

-- THE THEOREMS, over any sequence of acceptances
-- a number that was accepted is never new again
pub never_again : {s : List ℕ} {w : Window} {p : ℕ} → Reached s w → Memᴰ p s → verdict_of w p ≡ 0 → ⊥
never_again {w = w} {p = p} r i e =
    let n = new_is w p e in
    omega (arith, (told r).below p i, (told r).marked p i n.near, n.free ((told r).below p i))

-- one that was not accepted, and is above h or less than `width` behind it, is new
pub still_new : {s : List ℕ} {w : Window} {p : ℕ} → Reached s w → (Memᴰ p s → ⊥) → 0 < p → w.high < p + width → verdict_of w p ≡ 0
still_new {w = w} {p = p} r i z g = is_new w p (record { some = z; near = g; free = λ l. (told r).unmarked p i l g })

-- the highest number is one that was accepted, or 0
pub high_reached : {s : List ℕ} {w : Window} → Reached s w → (w.high ≡ 0 → ⊥) → Memᴰ w.high s
unfolding fresh
high_reached none z = absurd (z refl)
high_reached (more {s = s} {w = w} {p = p} r n) z =
    let a = accept_accepted w p (told r).size (new_is w p n).near in
    elim (dec_le w.high p) [
      | yes l ↦ let e : (accept_of w p).high ≡ p = omega (arith, a.high) in Memᴰ.head e
      | no l ↦ let e : (accept_of w p).high ≡ w.high = omega (arith, a.high) in rw e (Memᴰ.tail (high_reached r (λ x. z (e ∙ x))))
    ]
