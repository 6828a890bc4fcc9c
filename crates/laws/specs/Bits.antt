-- One bit of a word.
use Rattle.std.specs.Prelude.{ℕ, ◌/◌, ◌%◌, ◌^◌}

-- bit k of the word w: 0 or 1
unfoldable pub bit : ℕ → ℕ → ℕ
bit w k = w / 2 ^ k % 2
