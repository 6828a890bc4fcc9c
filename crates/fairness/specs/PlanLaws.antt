-- Every run of ticks, a list of rounds, is the beginning of a plan: so what is said of all plans is said of all runs. Assumes nothing.
use Rattle.std.specs.Prelude.{◌≡◌, refl, List, [], ◌∷◌, ℕ, zero, suc, ◌<◌, eqb, length}
use Rattle.std.proofs.Common.{ap, ◌∙◌, arith, eq-eqb, ne_eqb}
use Rattle.laws.specs.Choice.{if}
use Rattle.network.specs.Rounds.{Round, play}
use Rattle.fairness.specs.Timed.{Plan, rounds_of, at}

-- the n-th round of a list that has the newest first, and after the last nothing
quiet : Round
quiet = record { near_arrivals = []; far_arrivals = []; near_calls = []; far_calls = [] }

round_at : List Round → ℕ → Round
round_at [] n = quiet
round_at (t ∷ ts) n = if (eqb n (length ts)) t (round_at ts n)

pub plan_of : ℕ → ℕ → ℕ → List Round → Plan
plan_of epoch r s ts = record { epoch = epoch; near = r; far = s; round = round_at ts }

rounds_same : (σ τ : Plan) (n : ℕ) → ((k : ℕ) → k < n → σ.round k ≡ τ.round k) → rounds_of σ n ≡ rounds_of τ n
unfolding rounds_of
rounds_same σ τ zero h = refl
rounds_same σ τ (suc n) h = rw (h n (omega arith), rounds_same σ τ n (λ k l. h k (omega arith)))

rounds_are : (epoch r s : ℕ) (ts : List Round) → rounds_of (plan_of epoch r s ts) (length ts) ≡ ts
unfolding rounds_of plan_of round_at
rounds_are epoch r s [] = refl
rounds_are epoch r s (t ∷ ts) =
    let σ = plan_of epoch r s (t ∷ ts) in
    let τ = plan_of epoch r s ts in
    let first : if (eqb (length ts) (length ts)) t (round_at ts (length ts)) ≡ t = rw (eq-eqb (length ts) (length ts) refl) in
    let rest : rounds_of σ (length ts) ≡ ts = rounds_same σ τ (length ts) (λ k l. rw (ne_eqb k (length ts) (λ e. omega arith))) ∙ rounds_are epoch r s ts in
    rw (first, rest)

pub every_run : (epoch r s : ℕ) (ts : List Round) → at (plan_of epoch r s ts) (length ts) ≡ play epoch r s ts
unfolding at plan_of
every_run epoch r s ts = ap (play epoch r s) (rounds_are epoch r s ts)
