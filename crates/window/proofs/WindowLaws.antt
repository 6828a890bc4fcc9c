-- Laws of the window. Assumes nothing.
use Rattle.std.proofs.Common.{◌≡◌, List, ◌∷◌, ◌++◌, ℕ, suc, ◌+◌, ◌-◌, ◌≤◌, ◌<◌, max, length, get_or, set, sym, ◌∙◌, arith, length-set, get_or-set_same, get_or-set_other, get_or-append-add, length-append, get_or-take, length-take-le, lt-ltb, le-ltb, le-leb, eq-eqb, ne_eqb}
use Rattle.std.proofs.Math.Nat.{sub_self}
use Rattle.std.proofs.Math.Decide.{ℕ_discrete, dec_lt}
use Rattle.std.proofs.Math.ListN.{get_or-append}
use Rattle.std.proofs.lemmas.List.{length-replicate, get_or-replicate}
use borrow.Author.Tests.{lt-leb}
use Rattle.laws.specs.Rows.{when, ◌or_else◌, branch}
use Rattle.window.specs.Window.{width, Window, unseen, seen_of, verdict_of, slide, accept_of}

-- THE LISTS

pub length_unseen : (n : ℕ) → length (unseen n) ≡ n
unfolding unseen
length_unseen n = length-replicate {A = ℕ} n 0

pub unseen_at : (n k : ℕ) → k < n → get_or (unseen n) k 0 ≡ 0
unfolding unseen
unseen_at n k h = get_or-replicate {A = ℕ} n k 0 0 h

module _ (n d : ℕ) (seen : List ℕ) where
  pub length_slide : n ≤ length seen → length (slide n d seen) ≡ n
  unfolding slide
  length_slide h = length-take-le n (1 ∷ (unseen d ++ seen)) (omega (arith, length-append (unseen d) seen))

  pub slide_first : 0 < n → get_or (slide n d seen) 0 0 ≡ 1
  unfolding slide
  slide_first h = get_or-take n (1 ∷ (unseen d ++ seen)) 0 0 h

  pub slide_none : (j : ℕ) → suc j < n → j < d → get_or (slide n d seen) (suc j) 0 ≡ 0
  unfolding slide
  slide_none j l g =
      get_or-take n (1 ∷ (unseen d ++ seen)) (suc j) 0 l ∙ get_or-append (unseen d) seen 0 j (omega (arith, length_unseen d)) ∙ unseen_at d j g

  pub slide_rest : (j : ℕ) → suc (d + j) < n → get_or (slide n d seen) (suc (d + j)) 0 ≡ get_or seen j 0
  unfolding slide
  slide_rest j l = get_or-take n (1 ∷ (unseen d ++ seen)) (suc (d + j)) 0 l ∙ rw (length_unseen d) at (get_or-append-add (unseen d) seen j 0)

-- VERDICTS: each case, as the code meets it

module _ (w : Window) (p : ℕ) where
  pub verdict_nought : p ≡ 0 → 4 ≡ verdict_of w p
  unfolding verdict_of when ◌or_else◌
  verdict_nought z = simp (eq-eqb p 0 z)

  pub verdict_above : (p ≡ 0 → ⊥) → w.high < p → 0 ≡ verdict_of w p
  unfolding verdict_of when ◌or_else◌ branch
  verdict_above z a = simp (ne_eqb p 0 z, lt-ltb w.high p a)

  pub verdict_old : (p ≡ 0 → ⊥) → p ≤ w.high → width ≤ w.high - p → 5 ≡ verdict_of w p
  unfolding verdict_of when ◌or_else◌ branch
  verdict_old z a o = simp (ne_eqb p 0 z, le-ltb w.high p a, le-leb width (w.high - p) o)

  pub verdict_new : (p ≡ 0 → ⊥) → p ≤ w.high → w.high - p < width → seen_of w p ≡ 0 → 0 ≡ verdict_of w p
  unfolding verdict_of when ◌or_else◌ branch
  verdict_new z a o e = simp (ne_eqb p 0 z, le-ltb w.high p a, lt-leb width (w.high - p) o, eq-eqb (seen_of w p) 0 e)

  pub verdict_again : (p ≡ 0 → ⊥) → p ≤ w.high → w.high - p < width → (seen_of w p ≡ 0 → ⊥) → 6 ≡ verdict_of w p
  unfolding verdict_of when ◌or_else◌ branch
  verdict_again z a o e = simp (ne_eqb p 0 z, le-ltb w.high p a, lt-leb width (w.high - p) o, ne_eqb (seen_of w p) 0 e)

-- what it is to be new
pub record New (w : Window) (p : ℕ) : Type 0 where
  pub some : 0 < p
  pub near : w.high < p + width
  pub free : p ≤ w.high → seen_of w p ≡ 0

pub new_is : (w : Window) (p : ℕ) → verdict_of w p ≡ 0 → New w p
new_is w p e = elim (ℕ_discrete p 0) [
  | yes z ↦ absurd (omega (arith, verdict_nought w p z))
  | no z ↦ elim (dec_lt w.high p) [
    | yes a ↦ record { some = omega arith; near = omega arith; free = λ l. absurd (omega arith) }
    | no a ↦ elim (dec_lt (w.high - p) width) [
      | no o ↦ absurd (omega (arith, verdict_old w p z (omega arith) (omega arith)))
      | yes o ↦ elim (ℕ_discrete (seen_of w p) 0) [
        | yes f ↦ record { some = omega arith; near = omega arith; free = λ l. f }
        | no f ↦ absurd (omega (arith, verdict_again w p z (omega arith) o f))
      ]
    ]
  ]
]

pub is_new : (w : Window) (p : ℕ) → New w p → verdict_of w p ≡ 0
is_new w p n = elim (dec_lt w.high p) [
  | yes a ↦ sym (verdict_above w p (λ z. omega (arith, n.some)) a)
  | no a ↦ sym (verdict_new w p (λ z. omega (arith, n.some)) (omega arith) (omega (arith, n.near)) (n.free (omega arith)))
]

-- ACCEPTING

-- what it does, number by number
pub record Accepted (w : Window) (p : ℕ) (v : Window) : Type 0 where
  pub high : v.high ≡ max w.high p
  pub size : length v.seen ≡ width
  pub here : seen_of v p ≡ 1
  pub kept : (q : ℕ) → q ≤ w.high → (q ≡ p → ⊥) → v.high < q + width → seen_of v q ≡ seen_of w q
  pub none : (q : ℕ) → w.high < q → q < p → p < q + width → seen_of v q ≡ 0

above_accepted : (w : Window) (p : ℕ) → length w.seen ≡ width → w.high < p → Accepted w p (record { high = p; seen = slide width (p - w.high - 1) w.seen })
unfolding seen_of
above_accepted w p l hp =
    let d : ℕ = p - w.high - 1 in
    record {
      high = omega arith;
      size = length_slide width d w.seen (omega arith);
      here = rw sub_self (slide_first width d w.seen (omega arith));
      kept = λ q a ne b.
          let e : p - q ≡ suc (d + (w.high - q)) = omega arith in
          rw e (slide_rest width d w.seen (w.high - q) (omega arith));
      none = λ q a b c.
          let e : p - q ≡ suc (p - q - 1) = omega arith in
          rw e (slide_none width d w.seen (p - q - 1) (omega arith) (omega arith));
    }

within_accepted : (w : Window) (p : ℕ) → length w.seen ≡ width → p ≤ w.high → w.high < p + width → Accepted w p (record { high = w.high; seen = set w.seen (w.high - p) 1 })
unfolding seen_of
within_accepted w p l hp near = record {
  high = omega arith;
  size = length-set w.seen (w.high - p) 1 ∙ l;
  here = get_or-set_same w.seen (w.high - p) 1 0 (omega arith);
  kept = λ q a ne b. get_or-set_other w.seen (w.high - p) (w.high - q) 1 0 (λ e. ne (omega arith));
  none = λ q a b c. absurd (omega arith);
}

pub accept_accepted : (w : Window) (p : ℕ) → length w.seen ≡ width → w.high < p + width → Accepted w p (accept_of w p)
unfolding accept_of
accept_accepted w p l near = elim (dec_lt w.high p) [
  | yes a ↦ rw (lt-ltb w.high p a) (above_accepted w p l a)
  | no a ↦ rw (le-ltb w.high p (omega arith)) (within_accepted w p l (omega arith) near)
]
