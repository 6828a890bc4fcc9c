-- 03 §2: why D stops at 32.
use Rattle.std.proofs.Common.{◌≡◌, ℕ, ◌+◌, ◌^◌, ◌≤◌, ◌<◌, List, arith}
use Rattle.std.proofs.Math.Decide.{ℕ_discrete, dec_lt}
use Rattle.window.specs.Window.{width, Window, seen_of, verdict_of}
use Rattle.window.proofs.WindowLaws.{verdict_above, verdict_new, verdict_again}
use Rattle.sending.specs.CallLaws.{In}
use Rattle.network.specs.World.{Entry, Arrival}
use Rattle.fairness.specs.Timed.{Plan, Side, other, site_at}
use Rattle.fairness.specs.Networks.{sent_in}
use Rattle.fairness.specs.TimedLaws.{heard}
use Rattle.fairness.proofs.TakenLaws.{sent_above}
use Rattle.fairness.proofs.EdgeLaws.{window_edge}

-- a number that is less than 1,024 behind is not too old
not_old : (w : Window) (p : ℕ) → 0 < p → w.high < p + width → verdict_of w p ≡ 5 → ⊥
not_old w p h n v = elim (dec_lt w.high p) [
  | yes a ↦ omega (arith, verdict_above w p (λ z. omega arith) a)
  | no a ↦ elim (ℕ_discrete (seen_of w p) 0) [
    | yes s ↦ omega (arith, verdict_new w p (λ z. omega arith) (omega arith) (omega arith) s)
    | no s ↦ omega (arith, verdict_again w p (λ z. omega arith) (omega arith) (omega arith) s)
  ]
]

-- so for D up to 32 none is refused with 5
pub never_too_old : (σ : Plan) (d : Side) (D k j : ℕ) (e : Entry) (xs : List Arrival) → σ.epoch < 2 ^ 64 → In e (sent_in σ d k) → k < j → j ≤ k + D → D ≤ 32
    → verdict_of (heard (site_at σ (other d) j) (site_at σ d j) xs).end.window e.number ≡ 5
    → ⊥
never_too_old σ d D k j e xs h i lt near most v =
    not_old _ e.number (omega (arith, sent_above σ d k i)) (omega (arith, window_edge σ d D k j e xs h i lt near)) v
