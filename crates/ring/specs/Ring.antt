-- 01 §1: a ring of 65,536 bytes, in which the byte of position p stands at p % 65,536.
use Rattle.std.specs.Prelude.{◌≡◌, List, [], ◌∷◌, ℕ, zero, suc, ◌+◌, ◌<◌, ◌%◌, length, get_or}

abbrev pub capacity : ℕ
capacity = 65536

-- the n bytes from position p on
unfoldable pub span : List ℕ → ℕ → ℕ → List ℕ
span r p zero = []
span r p (suc n) = get_or r (p % capacity) 0 ∷ span r (p + 1) n

-- r, with s written at the ring positions from pos on, is q: byte k of s is at (pos + k) % capacity, and any other cell is as it was
pub record Put (r : List ℕ) (pos : ℕ) (s q : List ℕ) : Type 0 where
  pub size : length q ≡ length r
  pub written : (k : ℕ) → k < length s → get_or q ((pos + k) % capacity) 0 ≡ get_or s k 0
  pub kept : (j : ℕ) → j < capacity → ((k : ℕ) → k < length s → (pos + k) % capacity ≡ j → ⊥) → get_or q j 0 ≡ get_or r j 0

-- d has n bytes: byte k is what the ring r has at (pos + k) % capacity
pub record Got (r : List ℕ) (pos n : ℕ) (d : List ℕ) : Type 0 where
  pub size : length d ≡ n
  pub read : (k : ℕ) → k < n → get_or d k 0 ≡ get_or r ((pos + k) % capacity) 0
