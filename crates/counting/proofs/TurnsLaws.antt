-- 03 §3: the two bounds, from fairness and turns alone. Assumes nothing.
use Rattle.std.proofs.Common.{◌≡◌, ℕ, zero, suc, ◌+◌, ◌*◌, ◌≤◌, ◌<◌, sym, subst, arith}
use Rattle.std.proofs.Math.Decide.{dec_le}
use Rattle.counting.specs.Count.{count, Fair}
use Rattle.counting.specs.CountLaws.{count_add, one, many, fair_row}
use Rattle.counting.specs.Turns.{Turns}
use Rattle.counting.specs.Bounds.{hand_ticks, drop_ticks}

-- one turn: a tick of the m from n on in which it comes, and is answered
record Turn (answers here : ℕ → ℕ) (b n m : ℕ) : Type 0 where
  tick : ℕ
  from : n ≤ tick
  below : tick < n + m
  there : b ≤ here (suc tick)
  answered : 1 ≤ answers tick

-- each L * R + D ticks have one, as long as it is not known
turn : {sent answers here known : ℕ → ℕ} {come back : ℕ → ℕ → Type 0} {R t b T L D : ℕ} → Turns sent answers here known come back R D t b T → Fair sent come L D T
    → (n : ℕ) → t ≤ n → n + hand_ticks L D R ≤ T → known (n + L * R) < b → Turn answers here b n (hand_ticks L D R)
turn {sent} {answers} {here} {known} {R = R} {t} {b} {T} {L} {D} v f n from h less =
    let row = many sent n R L (λ u a k. v.tries u (omega arith) (omega arith) (omega (arith, v.known_up (u + R) (n + L * R) (omega arith) (omega arith)))) in
    let a = fair_row f v.once n (L * R) row (omega arith) in
    let low : known (suc a.sent) < b = omega (arith, v.known_up (suc a.sent) (n + L * R) (omega (arith, a.below)) (omega arith)) in
    let c = v.comes a.sent a.come (omega (arith, a.from)) a.after a.within (omega (arith, a.within, a.below)) a.arrived low in
    record { tick = c.tick; from = omega (arith, c.after, a.from); below = omega (arith, c.by, a.within, a.below); there = c.there; answered = c.answered }

-- IN HAND: by t + L * R + D
pub here_by : {sent answers here known : ℕ → ℕ} {come back : ℕ → ℕ → Type 0} {R t b T L D : ℕ} → Turns sent answers here known come back R D t b T → Fair sent come L D T
    → t + hand_ticks L D R ≤ T → b ≤ here (t + hand_ticks L D R)
here_by {here = here} {known} {R = R} {t} {b} {T} {L} {D} v f h = go (dec_le b (known (t + L * R)))
  where
    go : Dec (b ≤ known (t + L * R)) → b ≤ here (t + hand_ticks L D R)
    go (yes k) = omega (arith, v.known_true (t + L * R) (omega arith), v.here_up (t + L * R) (t + hand_ticks L D R) (omega arith) h)
    go (no k) =
        let c = turn v f t (omega arith) h (omega arith) in
        omega (arith, c.there, v.here_up (suc c.tick) (t + hand_ticks L D R) (omega (arith, c.below)) h)

-- L turns of W ticks, one after the other, each of which needs that it is not known q ticks on: L is one more than m
module _ {sent answers here known : ℕ → ℕ} {come back : ℕ → ℕ → Type 0} {R t b T D : ℕ} (m W q : ℕ) (within : q ≤ W) (v : Turns sent answers here known come back R D t b T)
    (turns : (n : ℕ) → t ≤ n → n + W ≤ T → known (n + q) < b → Turn answers here b n W)
  where
    -- L answers in a row from the first turn on
    answers_row : (i : ℕ) → t ≤ i → 1 ≤ answers i → suc i + m * W ≤ T → known (suc i + m * W) < b → suc m ≤ count answers i (1 + m * W)
    answers_row i from h l less =
        let later : m ≤ count answers (i + 1) (m * W) =
        many answers (i + 1) W m
        (λ u a k.
        let c = turns u (omega arith) (omega arith) (omega (arith, v.known_up (u + q) (suc i + m * W) (omega arith) (omega arith))) in
        one answers u c.tick W c.from c.below c.answered) in
        rw (count_add answers i 1 (m * W)) (omega (arith, one answers i i 1 (omega arith) (omega arith) h, later))

    after_turns : Fair answers back (suc m) D T → t + (W + m * W) + D ≤ T → b ≤ known (t + (W + m * W) + D)
    after_turns g h = go (dec_le b (known (t + (W + m * W))))
      where
        go : Dec (b ≤ known (t + (W + m * W))) → b ≤ known (t + (W + m * W) + D)
        go (yes k) = omega (arith, v.known_up (t + (W + m * W)) (t + (W + m * W) + D) (omega arith) h)
        go (no k) =
            let top : ℕ = t + (W + m * W) in
            let c = turns t (omega arith) (omega arith) (omega (arith, v.known_up (t + q) top (omega arith) (omega arith))) in
            let i : ℕ = c.tick in
            let few : known (suc i + m * W) < b = omega (arith, v.known_up (suc i + m * W) top (omega (arith, c.below)) (omega arith)) in
            let row = answers_row i c.from c.answered (omega (arith, c.below)) few in
            let a = fair_row g v.answers_once i (1 + m * W) row (omega (arith, c.below)) in
            let last : suc a.come ≤ top + D = omega (arith, c.below, a.below, a.within) in
            let seen : b ≤ here (suc a.sent) = omega (arith, c.there, v.here_up (suc i) (suc a.sent) (omega (arith, a.from)) (omega (arith, a.after))) in
            let done = v.told a.sent a.come (omega (arith, c.from, a.from)) a.after a.within (omega arith) a.arrived seen in
            omega (arith, v.known_up (suc a.come) (top + D) last h)

-- L * L * R + (L + 1) * D ticks are L turns and D more
whole : (m D R t : ℕ) → t + drop_ticks (suc m) D R ≡ t + (hand_ticks (suc m) D R + m * hand_ticks (suc m) D R) + D
whole m D R t = omega arith

-- ACKNOWLEDGED: by t + L * L * R + (L + 1) * D
pub known_by : {sent answers here known : ℕ → ℕ} {come back : ℕ → ℕ → Type 0} {R t b T L D : ℕ} → 1 ≤ L → Turns sent answers here known come back R D t b T
    → Fair sent come L D T
    → Fair answers back L D T
    → t + drop_ticks L D R ≤ T
    → b ≤ known (t + drop_ticks L D R)
known_by {L = zero} p v f g h = absurd (omega arith)
known_by {known = known} {R = R} {t} {b} {T} {L = suc m} {D} p v f g h =
    subst (λ n. b ≤ known n) (sym (whole m D R t))
    (after_turns m (hand_ticks (suc m) D R) (suc m * R) (omega arith) v (turn v f) g (subst (λ n. n ≤ T) (whole m D R t) h))
