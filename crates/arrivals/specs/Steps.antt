-- What each step does to the ring and the marks, by position.
use Rattle.std.specs.Prelude.{ℕ, ◌+◌, ◌-◌, ◌≤◌, ◌<◌, max, ◌≡◌, List, length, get_or}
pub use Rattle.marks.specs.Stretches.{Same}
pub use Rattle.finding.specs.Finding.{Runs, Unmarked}
use Rattle.arrivals.specs.Marks.{of, mark}

-- bytes f and marks g, by position: in a .. b - 1, where there was no mark, the byte of bs, which starts at p; where there was one, as it was; then all are marked
pub record Lays (f g : ℕ → ℕ) (p : ℕ) (bs : List ℕ) (a b : ℕ) (f' g' : ℕ → ℕ) : Type 0 where
  pub bytes : Same f a b f'
  pub marks : Same g a b g'
  pub into : (q : ℕ) → a ≤ q → q < b → g q ≡ 0 → f' q ≡ get_or bs (q - p) 0
  pub stays : (q : ℕ) → a ≤ q → q < b → 0 < g q → f' q ≡ f q
  pub sets : (q : ℕ) → a ≤ q → q < b → 0 < g' q

-- marks at low .. l - 1 were passed and cleared; l is the first position without one, or top
pub record Moves (g : ℕ → ℕ) (low top : ℕ) (g' : ℕ → ℕ) (l : ℕ) : Type 0 where
  pub low_l : low ≤ l
  pub l_top : l ≤ top
  pub same : Same g low l g'
  pub cleared : (q : ℕ) → low ≤ q → q < l → g' q ≡ 0
  pub marked : (q : ℕ) → low ≤ q → q < l → 0 < g q
  pub stop : l < top → g l ≡ 0

-- the same for a ring: its length stays too
pub record Beside (r : List ℕ) (a b : ℕ) (r' : List ℕ) : Type 0 where
  pub length_same : length r' ≡ length r
  pub same : Same (of r) a b (of r')

-- positions a .. b - 1 are the bytes of bs, which starts at p
pub record Written (r : List ℕ) (p : ℕ) (bs : List ℕ) (a b : ℕ) (r' : List ℕ) : Type 0 where
  pub beside : Beside r a b r'
  pub into : (q : ℕ) → a ≤ q → q < b → of r' q ≡ get_or bs (q - p) 0

-- Lays, for a ring and its marks
pub record Stored (r m : List ℕ) (p : ℕ) (bs : List ℕ) (a b : ℕ) (r' m' : List ℕ) : Type 0 where
  pub ring_same : length r' ≡ length r
  pub marks_same : length m' ≡ length m
  pub lays : Lays (of r) (mark m) p bs a b (of r') (mark m')

-- the same, if there was no mark from edge on
pub record Laid (r m : List ℕ) (p : ℕ) (bs : List ℕ) (a edge b : ℕ) (r' m' : List ℕ) : Type 0 where
  pub ring_same : length r' ≡ length r
  pub marks_same : length m' ≡ length m
  pub stored : ((q : ℕ) → edge ≤ q → q < b → mark m q ≡ 0) → Stored r m p bs a b r' m'

-- the same from the higher of p and low on, if there was no mark from high on
pub record Placed (r m : List ℕ) (p : ℕ) (bs : List ℕ) (low high : ℕ) (r' m' : List ℕ) : Type 0 where
  pub ring_same : length r' ≡ length r
  pub marks_same : length m' ≡ length m
  pub stored : ((q : ℕ) → high ≤ q → q < p + length bs → mark m q ≡ 0) → Stored r m p bs (max p low) (p + length bs) r' m'

-- Moves, for marks
pub record Advanced (m : List ℕ) (low top : ℕ) (m' : List ℕ) (l : ℕ) : Type 0 where
  pub marks_same : length m' ≡ length m
  pub moves : Moves (mark m) low top (mark m') l
