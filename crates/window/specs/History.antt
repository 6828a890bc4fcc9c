-- 01 §4: a history of a window: the numbers that were accepted, the latest first, and the window that they led to.
use Rattle.std.specs.Prelude.{◌≡◌, List, [], ◌∷◌, ℕ}
use Rattle.window.specs.Window.{Window, fresh, verdict_of, accept_of}

pub data Reached : List ℕ → Window → Type 0 where
  none : Reached [] fresh
  more : {s : List ℕ} {w : Window} {p : ℕ} → Reached s w → verdict_of w p ≡ 0 → Reached (p ∷ s) (accept_of w p)
