-- What open writes into the table and the marks.
use Rattle.std.specs.Prelude.{◌≡◌, List, ℕ, length}
use Rattle.receiving.specs.declared.Scalars.{Scalars}
use Rattle.receiving.specs.Calls as receiving
use Rattle.sending.specs.Buffers.{fresh_line, fresh_row}
use Rattle.table.specs.declared.Common.{Common}
use Rattle.table.specs.declared.Sends.{Sends}
use Rattle.table.specs.Layout.{sections_of, common_words, sends_words, scalars_words, ring_of}
use Rattle.table.specs.LayoutLaws.{with_common, with_sends, with_receives}

abbrev pub fresh_common : ℕ → ℕ → Common
fresh_common epoch interval = record { opened = 1; epoch = epoch; interval = interval; clock = 0; number = 0; due = 0; high = 0 }

abbrev pub fresh_sends : Sends
fresh_sends = record { line = fresh_line; row = fresh_row; probed = 0 }

-- all three sections of scalars were saved
pub record Saved (t : List ℕ) (c : Common) (s : Sends) (v : Scalars) (t' : List ℕ) : Type 0 where
  pub size : length t' ≡ length t
  pub sections : sections_of t' ≡ with_receives (with_sends (with_common (sections_of t) (common_words c)) (sends_words s)) (scalars_words v)

pub record Opened (t m : List ℕ) (epoch interval : ℕ) (t' m' : List ℕ) : Type 0 where
  pub size : length t' ≡ length t
  pub marks_size : length m' ≡ length m
  pub scalars : Scalars
  pub sections : sections_of t' ≡ with_receives (with_sends (with_common (sections_of t) (common_words (fresh_common epoch interval))) (sends_words fresh_sends)) (scalars_words scalars)
  pub starts : receiving.Starts (ring_of m) (ring_of m') scalars
