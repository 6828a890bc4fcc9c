-- What is written over the first bytes of a buffer.
use Rattle.std.specs.Prelude.{◌≡◌, List, ◌++◌, ℕ, length, drop}

-- out, with xs over its first bytes
unfoldable pub over : List ℕ → List ℕ → List ℕ
over xs out = xs ++ drop (length xs) out

-- x is out, with xs over its first bytes
pub record Over (xs out x : List ℕ) : Type 0 where
  pub is : x ≡ over xs out
