-- The window moves by clearing the marks from a up to p, one by one, and setting that of p. Nothing here knows how a mark is kept.
-- Assumes nothing.
use Rattle.std.proofs.Common.{◌≡◌, ◌∙◌, refl, List, length, ℕ, ◌+◌, ◌-◌, ◌≤◌, ◌<◌, max, arith}
use Rattle.std.proofs.Math.Decide.{ℕ_discrete}
use Rattle.window.specs.Window.{width}
use Rattle.window.specs.Marks.{mark, Put}
use Rattle.window.proofs.MarksLaws.{Marked}

-- the marks of a .. q - 1 are cleared, and those of the window of p below a are as they were
pub record Cleared (m₀ : List ℕ) (a p q : ℕ) (m : List ℕ) : Type 0 where
  pub long : length m ≡ length m₀
  pub none : (j : ℕ) → a ≤ j → j < q → mark m j ≡ 0
  pub kept : (j : ℕ) → j < a → p < j + width → mark m j ≡ mark m₀ j

pub cleared_none : (m : List ℕ) (a p : ℕ) → Cleared m a p a m
cleared_none m a p = record { long = refl; none = λ j lo hi. absurd (omega arith); kept = λ j lo hi. refl }

pub cleared_more : {m₀ m m' : List ℕ} {a p q : ℕ} → Cleared m₀ a p q m → a ≤ q → q < p → p ≤ a + width → Put m q 0 m' → Cleared m₀ a p (q + 1) m'
cleared_more {q = q} s aq qp pa t = record {
  long = t.long ∙ s.long;
  none = λ j lo hi. elim (ℕ_discrete j q) [
    | yes e ↦ rw e t.here
    | no n ↦ t.there j (λ e. n (omega arith)) ∙ s.none j lo (omega arith)
  ];
  kept = λ j lo hi. t.there j (λ e. omega arith) ∙ s.kept j lo hi;
}

-- where the clearing starts for p above h: above h, and low enough to have all between h and p that is in p's window
pub record Starts (h p a : ℕ) : Type 0 where
  pub above : h < a
  pub upto : a ≤ p
  pub near : p ≤ a + width
  pub low : a ≤ max (h + 1) (p - width)

pub starts : {h p s a : ℕ} → h < p → s ≡ p - width → a ≡ max (h + 1) s → Starts h p a
starts l e f = record { above = omega arith; upto = omega arith; near = omega arith; low = omega arith }

pub accepted_above : {h a p q : ℕ} {m₀ m m' : List ℕ} → Starts h p a → p ≤ q → Cleared m₀ a p q m → Put m p 1 m' → Marked h m₀ p p m'
accepted_above a pq s t = record {
  high = omega arith;
  long = t.long ∙ s.long;
  here = t.here;
  kept = λ q qh ne near. t.there q (λ e. omega arith) ∙ s.kept q (omega arith) near;
  none = λ q hq qp near. t.there q (λ e. omega arith) ∙ s.none q (omega arith) (omega arith);
}

pub accepted_within : {h p : ℕ} {m m' : List ℕ} → p ≤ h → h < p + width → Put m p 1 m' → Marked h m p h m'
accepted_within ph near t = record {
  high = omega arith;
  long = t.long;
  here = t.here;
  kept = λ q qh ne hq. t.there q (λ e. ne (omega arith));
  none = λ q hq qp _. absurd (omega arith);
}
