-- 03 §4: what fairness does not give, refuted by runs of one segment. Each network is fair, and the segment misses its bound.
use Rattle.std.specs.Prelude.{◌≡◌, refl, ℕ, ◌+◌, ◌≤◌, min, eqb}
use Rattle.std.proofs.Common.{arith}
use Rattle.laws.specs.Choice.{if}
use Rattle.counting.specs.Count.{count, Fair}
use Rattle.counting.specs.CountLaws.{fair_none, fair_one}
use Rattle.counting.specs.Bounds.{hand_ticks, drop_ticks}

-- what is sent in one tick and handed over in another
data Comes (from to : ℕ) : ℕ → ℕ → Type 0 where
  comes : Comes from to from to

-- 1 once something has come, where `come k` came in tick k
seen : (ℕ → ℕ) → ℕ → ℕ
seen come n = min 1 (count come 0 n)

nothing : ℕ → ℕ
nothing k = 0

-- R DOUBLES AFTER A LOSS: L = 3, D = 1, R = 1. It is sent in ticks 0, 1, 3 and 7; the third sending arrives, in tick 4
doubling : ℕ → ℕ
doubling k = if (eqb k 0) 1 (if (eqb k 1) 1 (if (eqb k 3) 1 (if (eqb k 7) 1 0)))

third : ℕ → ℕ
third k = if (eqb k 4) 1 0

doubling_fair : Fair doubling (Comes 3 4) 3 1 8
unfolding count doubling
doubling_fair = fair_one 3 4 (omega arith) (omega arith) comes (omega arith) (omega arith)

-- it should be in hand when 4 ticks are over, and is when 5 are
doubling_late : 1 ≤ seen third (0 + hand_ticks 3 1 1) → ⊥
unfolding count seen third
doubling_late h = omega arith

doubling_here : seen third 5 ≡ 1
unfolding count seen third
doubling_here = refl

-- NEWEST FIRST: L = 2, D = 1, R = 1, and 64 segments are kept. The newer 32 leave in each tick, and the oldest in none: the network owes it nothing
newest_fair : Fair nothing (λ k j. ⊥) 2 1 16
unfolding count nothing
newest_fair = fair_none (omega arith)

newest_late : 1 ≤ seen nothing (0 + hand_ticks 2 1 1) → ⊥
unfolding count seen nothing
newest_late h = omega arith

-- NO ANSWER TO WHAT BRINGS NOTHING NEW: L = 2, D = 1, R = 1. Each sending arrives; the first, in tick 1, is answered, and that ACK is lost. There is no second one,
-- so of no two in a row one must arrive
answered : ℕ → ℕ
answered k = if (eqb k 1) 1 0

answered_fair : Fair answered (λ k j. ⊥) 2 1 16
unfolding count answered
answered_fair = fair_none (omega arith)

answered_late : 1 ≤ seen nothing (0 + drop_ticks 2 1 1) → ⊥
unfolding count seen nothing
answered_late h = omega arith
