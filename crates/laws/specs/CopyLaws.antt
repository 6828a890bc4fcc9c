-- Laws of copying: `take i s ++ drop i d` is a copy of s into d that has come as far as index i. Assumes nothing.
use Rattle.std.specs.Prelude.{◌≡◌, refl, List, [], ◌∷◌, ◌++◌, ℕ, zero, suc, ◌+◌, ◌≤◌, ◌<◌, length, take, drop, get_or, set}
use Rattle.std.proofs.Common.{ap, append-nil, le_of_suc-le-suc, not-suc-le-zero, add-one, drop_of_length-le, take_all}

store : (s d : List ℕ) (i : ℕ) → i < length s → i < length d → set (take i s ++ drop i d) i (get_or s i 0) ≡ take (suc i) s ++ drop (suc i) d
store [] d i h k = absurd (not-suc-le-zero h)
store (x ∷ xs) [] i h k = absurd (not-suc-le-zero k)
store (x ∷ xs) (y ∷ ys) zero h k = refl
store (x ∷ xs) (y ∷ ys) (suc i) h k = ap (λ (l : List ℕ). x ∷ l) (store xs ys i (le_of_suc-le-suc h) (le_of_suc-le-suc k))

-- a turn's store takes the copy of i bytes to the copy of i + 1
pub store_more : (s d : List ℕ) (i : ℕ) → i < length s → i < length d → set (take i s ++ drop i d) i (get_or s i 0) ≡ take (i + 1) s ++ drop (i + 1) d
store_more s d i h k = rw add-one (store s d i h k)

-- a copy that has come to the end of both is the source
pub copied : (s d : List ℕ) (i : ℕ) → length s ≤ i → length d ≤ i → take i s ++ drop i d ≡ s
copied s d i h k = rw (drop_of_length-le d k, append-nil, take_all i s h)
