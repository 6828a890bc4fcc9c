-- Histories: a history is the list of all bytes of a stream so far, from position 0 on.
use Rattle.std.specs.Prelude.{ℕ, suc, ◌≡◌, List, [], ◌∷◌, ◌++◌}

-- H has byte b at position p
pub data At : List ℕ → ℕ → ℕ → Type 0 where
  here : {b : ℕ} {H : List ℕ} → At (b ∷ H) 0 b
  there : {x b p : ℕ} {H : List ℕ} → At H p b → At (x ∷ H) (suc p) b

-- H has the bytes bs from position p on
pub data Says (H : List ℕ) : ℕ → List ℕ → Type 0 where
  none : {p : ℕ} → Says H p []
  more : {p b : ℕ} {bs : List ℕ} → At H p b → Says H (suc p) bs → Says H p (b ∷ bs)

-- t is a beginning of H
unfoldable pub Prefix : List ℕ → List ℕ → Type 0
Prefix t H = (rest : List ℕ) × (t ++ rest ≡ H)
