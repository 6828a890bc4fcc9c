-- How the code keeps a window: h, and one bit for each number, bit q % 64 of word q / 64 % words. Only MarksLaws and the proofs of single marks open it.
use Rattle.std.specs.Prelude.{◌≡◌, List, [], ◌∷◌, ℕ, zero, suc, ◌-◌, ◌/◌, ◌%◌, ltb, length, get_or}
use Rattle.laws.specs.Choice.{if}
use Rattle.laws.specs.Bits.{bit}
use Rattle.window.specs.Window.{width, Window, accept_of}

abbrev pub words : ℕ
words = 16

-- the mark of the number q: 0 or 1
unfoldable pub mark : List ℕ → ℕ → ℕ
mark m q = bit (get_or m (q / 64 % words) 0) (q % 64)

-- the marks of n numbers from h - i downwards; there is none below 1
unfoldable pub marks_from : ℕ → List ℕ → ℕ → ℕ → List ℕ
marks_from h m i zero = []
marks_from h m i (suc n) = if (ltb i h) (mark m (h - i)) 0 ∷ marks_from h m (suc i) n

-- the window that h and the marks m keep
unfoldable pub window_of : ℕ → List ℕ → Window
window_of h m = record { high = h; seen = marks_from h m 0 width }

-- the marks m' are m but for that of q, which is v. This is all that the window needs of the marks.
pub record Put (m : List ℕ) (q v : ℕ) (m' : List ℕ) : Type 0 where
  pub long : length m' ≡ length m
  pub here : mark m' q ≡ v
  pub there : (j : ℕ) → (j % width ≡ q % width → ⊥) → mark m' j ≡ mark m j

-- p was accepted: (h, m) is now (h', m')
pub record Accepts (h : ℕ) (m : List ℕ) (p h' : ℕ) (m' : List ℕ) : Type 0 where
  pub long : length m' ≡ length m
  pub window : window_of h' m' ≡ accept_of (window_of h m) p
