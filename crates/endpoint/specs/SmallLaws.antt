-- Laws of the numbers of refusals: none is above 13. Assumes nothing.
use Rattle.std.specs.Prelude.{◌≡◌, Bool, true, false, List, ℕ, ◌≤◌, ◌<◌}
use Rattle.std.proofs.Common.{arith}
use Rattle.laws.specs.Rows.{when, ◌or_else◌, branch}
use Rattle.wire.specs.declared.Header.{Header}
use Rattle.wire.specs.Reading.{form_of, rows_of, data_row, plain_row}
use Rattle.window.specs.Window.{Window, verdict_of}
use Rattle.receiving.specs.Receiving.{End, beyond_of, misplaced_of, refusal_by}
use Rattle.receiving.specs.Receiving as receiving
use Rattle.receiving.specs.declared.Scalars.{Scalars}
use Rattle.receiving.specs.Calls.{refusal}
use Rattle.table.specs.Layout.{Sections}
use Rattle.endpoint.specs.OutcomeLaws.{or_small, at_most}
use Rattle.hearing.specs.Hearing.{place_row, judge_row, hear_row}

abbrev Small : ℕ → Type 0
Small n = n ≤ 13

branch_small : (b : Bool) (x y : ℕ) → Small x → Small y → Small (branch b x y)
unfolding branch
branch_small true x y f g = f
branch_small false x y f g = g

-- a row of n, and the rows after it
row : (b : Bool) (n x : ℕ) → n ≤ 13 → Small x → Small (when b n or_else x)
row b n x h g = or_small (when b n) x 13 (at_most b n 13 h) g

nought : Small 0
nought = omega arith

form_small : (d : List ℕ) → Small (form_of d)
unfolding form_of rows_of data_row plain_row
form_small d =
    row _ 1 _ (omega arith)
    (row _ 1 _ (omega arith)
    (row _ 2 _ (omega arith)
    (row _ 2 _ (omega arith)
    (branch_small _ _ _
    (row _ 2 _ (omega arith) (row _ 2 _ (omega arith) (row _ 2 _ (omega arith) (row _ 2 _ (omega arith) nought))))
    (row _ 2 _ (omega arith) (row _ 2 _ (omega arith) (branch_small _ _ _ (row _ 2 _ (omega arith) nought) nought)))))))

verdict_small : (w : Window) (p : ℕ) → Small (verdict_of w p)
unfolding verdict_of
verdict_small w p = row _ 4 _ (omega arith) (branch_small _ _ _ nought (row _ 5 _ (omega arith) (row _ 6 _ (omega arith) nought)))

misplaced_small : (k : End) (high q n e : ℕ) → Small (misplaced_of k high q n e)
unfolding misplaced_of
misplaced_small receiving.none high q n e = branch_small _ _ _ (row _ 9 _ (omega arith) nought) nought
misplaced_small (receiving.at k) high q n e =
    or_small _ _ 13 (branch_small _ _ _ nought (row _ 9 _ (omega arith) nought)) (branch_small _ _ _ (row _ 9 _ (omega arith) nought) nought)

data_small : (s : Scalars) (p n e : ℕ) → Small (refusal s p n e)
unfolding refusal refusal_by beyond_of
data_small s p n e = or_small _ _ 13 (branch_small _ _ _ nought (row _ 8 _ (omega arith) (row _ 8 _ (omega arith) nought))) (misplaced_small _ _ _ _ _)

place_small : (s : Sections) (h : Header) → Small (place_row s h)
unfolding place_row
place_small s h = branch_small _ _ _ (data_small _ _ _ _) (branch_small _ _ _ (at_most _ 7 13 (omega arith)) nought)

judge_small : (s : Sections) (h : Header) → Small (judge_row s h)
unfolding judge_row
judge_small s h = row _ 3 _ (omega arith) (or_small _ _ 13 (verdict_small _ _) (place_small s h))

hear_most : (s : Sections) (d : List ℕ) → Small (hear_row s d)
unfolding hear_row
hear_most s d = or_small _ _ 13 (form_small d) (judge_small s _)

pub hear_small : (s : Sections) (d : List ℕ) (r : ℕ) → r ≡ hear_row s d → r < 64
hear_small s d r e = omega (arith, hear_most s d)
