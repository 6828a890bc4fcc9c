-- Laws of refusals 8 and 9: each answer of the rows, and what an answer of 0 says. Assumes nothing.
use Rattle.std.specs.Prelude.{◌≡◌, not, ℕ, ◌+◌, ◌-◌, ◌≤◌, ◌<◌, eqb, ltb}
use Rattle.std.proofs.Math.Path.{refl}
use Rattle.std.proofs.Common.{sym, ◌∙◌, arith}
use Rattle.std.proofs.Math.Logic.{⊎_elim}
use Rattle.laws.specs.Rows.{when, ◌or_else◌, branch}
use Rattle.laws.specs.RowsLaws.{row_left, hit_lt, miss_lt, hit_ne, miss_ne, then_eq, else_eq, hit_row, miss_row}
use Rattle.wire.specs.Datagram.{ceiling, payload_most}
use Rattle.ring.specs.Ring.{capacity}
use Rattle.receiving.specs.Receiving.{none, at, beyond_of, misplaced_of, refusal_by}
use Rattle.receiving.specs.Calls.{Room, refusal}
use Rattle.laws.specs.Split.{split}
use Rattle.receiving.specs.declared.Scalars.{Scalars}

-- 8
module _ (taken p n : ℕ) where
  pub beyond_none : n ≡ 0 → 0 ≡ beyond_of taken p n
  unfolding beyond_of
  beyond_none e = then_eq 0 0 _ n 0 e refl

  module _ (some : n ≡ 0 → ⊥) where
    pub beyond_ceiling : ceiling < p + n → 8 ≡ beyond_of taken p n
    unfolding beyond_of
    beyond_ceiling h = else_eq 8 0 _ n 0 some (hit_lt 8 8 _ ceiling (p + n) h (omega arith))

    pub beyond_limit : taken + capacity < p + n → 8 ≡ beyond_of taken p n
    unfolding beyond_of
    beyond_limit h = ⊎_elim (λ c. beyond_ceiling c)
        (λ c. else_eq 8 0 _ n 0 some (miss_lt 8 8 _ ceiling (p + n) c (hit_lt 8 8 _ (taken + capacity) (p + n) h (omega arith))))
        (split ceiling (p + n))

  pub beyond_within : p + n ≤ ceiling → p + n ≤ taken + capacity → 0 ≡ beyond_of taken p n
  unfolding beyond_of
  beyond_within c h = ⊎_elim (λ z. beyond_none (omega arith))
      (λ z. else_eq 0 0 _ n 0 (λ e. omega arith) (miss_lt 0 8 _ ceiling (p + n) c (miss_lt 0 8 _ (taken + capacity) (p + n) h refl)))
      (split n 1)

-- bytes that are not refused with 8 fit
pub record Within (taken p n : ℕ) : Type 0 where
  pub limit : n ≤ taken + capacity - p
  pub small : n ≤ ceiling - p

pub beyond_zero : (taken p n : ℕ) → beyond_of taken p n ≡ 0 → Within taken p n
beyond_zero taken p n e =
    ⊎_elim (λ z. record { limit = omega arith; small = omega arith })
    (λ z.
    ⊎_elim (λ c. let x = beyond_ceiling taken p n (λ y. omega arith) c in absurd (omega arith))
    (λ c.
    ⊎_elim (λ d. let x = beyond_limit taken p n (λ y. omega arith) d in absurd (omega arith))
    (λ d. record { limit = omega arith; small = omega arith })
    (split (taken + capacity) (p + n)))
    (split ceiling (p + n)))
    (split n 1)

-- 9: while no END is known
module _ (high q n e : ℕ) where
  pub unknown_before : e ≡ 1 → q < high → 9 ≡ misplaced_of none high q n e
  unfolding misplaced_of
  unknown_before x h = then_eq 9 _ 0 e 1 x (hit_lt 9 9 _ q high h (omega arith))

  pub unknown_after : e ≡ 1 → high ≤ q → 0 ≡ misplaced_of none high q n e
  unfolding misplaced_of
  unknown_after x h = then_eq 0 _ 0 e 1 x (miss_lt 0 9 _ q high h refl)

  pub unknown_none : (e ≡ 1 → ⊥) → 0 ≡ misplaced_of none high q n e
  unfolding misplaced_of
  unknown_none x = else_eq 0 _ 0 e 1 x refl

-- once it is known at k
module _ (k high q n e : ℕ) where
  bytes_after : (n ≡ 0 → ⊥) → k < q → 9 ≡ branch (eqb n 0) 0 (when (ltb k q) 9 or_else 0)
  bytes_after x h = else_eq 9 0 _ n 0 x (hit_lt 9 9 _ k q h (omega arith))

  bytes_before : (0 < n → q ≤ k) → 0 ≡ branch (eqb n 0) 0 (when (ltb k q) 9 or_else 0)
  bytes_before h = ⊎_elim (λ z. then_eq 0 0 _ n 0 (omega arith) refl) (λ z. else_eq 0 0 _ n 0 (λ y. omega arith) (miss_lt 0 9 _ k q (h z) refl)) (split n 1)

  pub known_after : (n ≡ 0 → ⊥) → k < q → 9 ≡ misplaced_of (at k) high q n e
  unfolding misplaced_of
  known_after x h = hit_row 9 _ _ (bytes_after x h) (λ z. omega arith)

  known_rest : (0 < n → q ≤ k) → (r : ℕ) → r ≡ branch (eqb e 1) (when (not (eqb q k)) 9 or_else 0) 0 → r ≡ misplaced_of (at k) high q n e
  unfolding misplaced_of
  known_rest h r x = miss_row r _ _ 0 (bytes_before h) refl x

  pub known_elsewhere : e ≡ 1 → (q ≡ k → ⊥) → 9 ≡ misplaced_of (at k) high q n e
  known_elsewhere x h =
      ⊎_elim (λ z. known_rest (λ y. absurd (omega arith)) 9 (then_eq 9 _ 0 e 1 x (hit_ne 9 9 _ q k h (omega arith))))
      (λ z.
      ⊎_elim (λ c. known_after (λ y. omega arith) c)
      (λ c. known_rest (λ y. c) 9 (then_eq 9 _ 0 e 1 x (hit_ne 9 9 _ q k h (omega arith))))
      (split k q))
      (split n 1)

  pub known_there : e ≡ 1 → q ≡ k → 0 ≡ misplaced_of (at k) high q n e
  known_there x h = known_rest (λ y. omega arith) 0 (then_eq 0 _ 0 e 1 x (miss_ne 0 9 _ q k h refl))

  pub known_none : (e ≡ 1 → ⊥) → (0 < n → q ≤ k) → 0 ≡ misplaced_of (at k) high q n e
  known_none x h = known_rest h 0 (else_eq 0 _ 0 e 1 x refl)

-- what is not refused may be heard
pub judge_room : (s : Scalars) (p n e r : ℕ) → r ≡ refusal s p n e → r ≡ 0 → n ≤ payload_most → Room s p n
unfolding refusal refusal_by
judge_room s p n e r x y h =
    let w = beyond_zero s.taken p n (row_left (beyond_of s.taken p n) _ (sym x ∙ y)) in
    record { limit = w.limit; small = w.small; few = omega arith }

-- each answer of 8's row, and of 9's
pub ruleset beyond_laws = (beyond_ceiling, beyond_limit, beyond_within, beyond_none)

pub ruleset misplaced_laws = (unknown_before, unknown_after, unknown_none, known_after, known_elsewhere, known_there, known_none)
