-- Laws of rows: one that applies, and one that does not, for each kind of test; and what an answer of 0 says. Assumes nothing.
use Rattle.std.specs.Prelude.{◌≡◌, Bool, true, false, not, eqb, leb, ltb}
use Rattle.std.proofs.Math.Path.{refl}
use Rattle.std.proofs.Common.{◌∙◌, sym, arith, lt-ltb, le-ltb, le-leb, eq-eqb, ne_eqb}
use Prim.Native.Nat.{ℕ, zero, suc, ◌≤◌, ◌<◌}
use Rattle.std.proofs.Math.Decide.{dec_lt, ℕ_discrete}
use Rattle.std.proofs.lemmas.Bool.{lt-leb}
use Rattle.laws.specs.Rows.{when, ◌or_else◌, branch, ◌and◌}

module _ (r n x : ℕ) where
  hit : (t : Bool) → t ≡ true → 0 < n → n ≡ when t n or_else x
  unfolding when ◌or_else◌
  hit t e p = rw e (go n p)
    where
      go : (n : ℕ) → 0 < n → n ≡ n or_else x
      go zero p = absurd (omega arith)
      go (suc n) p = refl

  miss : (t : Bool) → t ≡ false → r ≡ x → r ≡ when t n or_else x
  unfolding when ◌or_else◌
  miss t e p = rw e p

  module _ (a b : ℕ) where
    pub hit_lt : a < b → 0 < n → n ≡ when (ltb a b) n or_else x
    hit_lt h p = hit _ (lt-ltb a b h) p

    pub miss_lt : b ≤ a → r ≡ x → r ≡ when (ltb a b) n or_else x
    miss_lt h p = miss _ (le-ltb a b h) p

    pub hit_eq : a ≡ b → 0 < n → n ≡ when (eqb a b) n or_else x
    hit_eq h p = hit _ (eq-eqb a b h) p

    pub miss_eq : (a ≡ b → ⊥) → r ≡ x → r ≡ when (eqb a b) n or_else x
    miss_eq h p = miss _ (ne_eqb a b h) p

    pub hit_ne : (a ≡ b → ⊥) → 0 < n → n ≡ when (not (eqb a b)) n or_else x
    hit_ne h p = hit _ (rw (ne_eqb a b h)) p

    pub miss_ne : a ≡ b → r ≡ x → r ≡ when (not (eqb a b)) n or_else x
    miss_ne h p = miss _ (rw (eq-eqb a b h)) p

    -- one of two rows
    pub then_eq : a ≡ b → r ≡ n → r ≡ branch (eqb a b) n x
    unfolding branch
    then_eq h p = rw (eq-eqb a b h) p

    pub else_eq : (a ≡ b → ⊥) → r ≡ x → r ≡ branch (eqb a b) n x
    unfolding branch
    else_eq h p = rw (ne_eqb a b h) p

  -- the row of a callee, whose result is r
  pub hit_row : r ≡ n → (r ≡ 0 → ⊥) → r ≡ n or_else x
  unfolding ◌or_else◌
  hit_row e ne = go n e
    where
      go : (n : ℕ) → r ≡ n → r ≡ n or_else x
      go zero e = absurd (ne e)
      go (suc n) e = e

  pub miss_row : (q : ℕ) → q ≡ n → q ≡ 0 → r ≡ x → r ≡ n or_else x
  unfolding ◌or_else◌
  miss_row q e z p = rw (sym e ∙ z) p

pub ruleset rows = (hit_lt, miss_lt, hit_eq, miss_eq, hit_ne, miss_ne, then_eq, else_eq, hit_row, miss_row)

-- where a row of rows answers 0, each of them does
pub row_left : (a b : ℕ) → a or_else b ≡ 0 → a ≡ 0
unfolding ◌or_else◌
row_left zero b e = refl
row_left (suc a) b e = e

pub row_right : (a b : ℕ) → a or_else b ≡ 0 → b ≡ 0
unfolding ◌or_else◌
row_right zero b e = e
row_right (suc a) b e = absurd (omega arith)

-- and its test does not hold
pub passed_lt : (a b n : ℕ) → 0 < n → when (ltb a b) n ≡ 0 → b ≤ a
unfolding when
passed_lt a b n p e = elim (dec_lt a b) [
  | yes l ↦ absurd (omega (arith, rw (lt-ltb a b l) at e))
  | no l ↦ omega arith
]

pub passed_eq : (a b n : ℕ) → 0 < n → when (eqb a b) n ≡ 0 → a ≡ b → ⊥
unfolding when
passed_eq a b n p e q = omega (arith, rw (eq-eqb a b q) at e)

pub passed_ne : (a b n : ℕ) → 0 < n → when (not (eqb a b)) n ≡ 0 → a ≡ b
unfolding when
passed_ne a b n p e = elim (ℕ_discrete a b) [
  | yes q ↦ q
  | no q ↦ absurd (omega (arith, rw (ne_eqb a b q) at e))
]

-- TESTS
pub and_left : (a b : Bool) → a and b ≡ true → a ≡ true
unfolding ◌and◌
and_left true b e = refl
and_left false b e = e

pub and_right : (a b : Bool) → a and b ≡ true → b ≡ true
unfolding ◌and◌
and_right true b e = e
and_right false b e = let z : ◌≡◌ {A = ℕ} 0 1 = cc in absurd (omega arith)

pub both : (a b : Bool) → a ≡ true → b ≡ true → a and b ≡ true
unfolding ◌and◌
both a b e f = rw (e, f)

-- tests that were made one by one; r is the answer of those that are left
module _ (x : Bool) where
  pub and_fails : (a : Bool) → a ≡ false → false ≡ a and x
  unfolding ◌and◌
  and_fails a e = rw e

  pub and_passes : (r a : Bool) → a ≡ true → r ≡ x → r ≡ a and x
  unfolding ◌and◌
  and_passes r a e f = rw e f

  module _ (a b : ℕ) where
    pub fails_eq : (a ≡ b → ⊥) → false ≡ eqb a b and x
    fails_eq h = and_fails (eqb a b) (ne_eqb a b h)

    pub fails_lt : b ≤ a → false ≡ ltb a b and x
    fails_lt h = and_fails (ltb a b) (le-ltb a b h)

    pub fails_le : b < a → false ≡ leb a b and x
    fails_le h = and_fails (leb a b) (lt-leb a b h)

    pub passes_eq : (r : Bool) → a ≡ b → r ≡ x → r ≡ eqb a b and x
    passes_eq r h f = and_passes r (eqb a b) (eq-eqb a b h) f

    pub passes_lt : (r : Bool) → a < b → r ≡ x → r ≡ ltb a b and x
    passes_lt r h f = and_passes r (ltb a b) (lt-ltb a b h) f

    pub passes_le : (r : Bool) → a ≤ b → r ≡ x → r ≡ leb a b and x
    passes_le r h f = and_passes r (leb a b) (le-leb a b h) f

pub ruleset tests = (fails_eq, fails_lt, fails_le, passes_eq, passes_lt, passes_le)

-- two tests that hold where the same holds are one
pub same_test : (a b : Bool) → (a ≡ true → b ≡ true) → (b ≡ true → a ≡ true) → a ≡ b
same_test true b f g = sym (f refl)
same_test false true f g = g refl
same_test false false f g = refl
