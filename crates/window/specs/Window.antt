-- 01 §4: numbers, taken at most once.
use Rattle.std.specs.Prelude.{not, List, ◌∷◌, ◌++◌, ℕ, ◌-◌, eqb, ltb, leb, get_or, set, take, replicate}
use Rattle.laws.specs.Choice.{if}
use Rattle.laws.specs.Rows.{when, ◌or_else◌, branch}

-- how many numbers are remembered
abbrev pub width : ℕ
width = 1024

-- the highest number accepted, and of the last `width` numbers from it downwards, 1 for each that was accepted and 0 for each that was not
pub record Window : Type 0 where
  pub high : ℕ
  pub seen : List ℕ

-- n numbers of which none was accepted
unfoldable pub unseen : ℕ → List ℕ
unseen n = replicate n 0

unfoldable pub fresh : Window
fresh = record { high = 0; seen = unseen width }

-- 1 where the number p, one of the last `width`, was accepted
unfoldable pub seen_of : Window → ℕ → ℕ
seen_of w p = get_or w.seen (w.high - p) 0

-- what becomes of the number p: 4, 5, 6, or 0 where it is new
unfoldable pub verdict_of : Window → ℕ → ℕ
verdict_of w p =
    when (eqb p 0) 4
    or_else branch (ltb w.high p) 0
    (when (leb width (w.high - p)) 5
    or_else when (not (eqb (seen_of w p) 0)) 6
    or_else 0)

-- the last n numbers, when a number was accepted that is above all of them, and d others between were not
unfoldable pub slide : ℕ → ℕ → List ℕ → List ℕ
slide n d seen = take n (1 ∷ (unseen d ++ seen))

-- the window after p was accepted
unfoldable pub accept_of : Window → ℕ → Window
accept_of w p =
    if (ltb w.high p)
    (record { high = p; seen = slide width (p - w.high - 1) w.seen })
    (record { high = w.high; seen = set w.seen (w.high - p) 1 })
