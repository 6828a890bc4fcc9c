-- How bytes are shown.
use Rattle.std.specs.Prelude.{ℕ, ◌/◌, ◌%◌, List, [], ◌∷◌, false}
use Rattle.std.specs.Fmt.{digit_glyph}

-- a space, and two digits to the base 16
abbrev pub pair : ℕ → List ℕ
pair b = 32 ∷ digit_glyph false (b / 16) ∷ digit_glyph false (b % 16) ∷ []
