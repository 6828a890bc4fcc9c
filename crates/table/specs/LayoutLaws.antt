-- Laws of the table: what was saved is what is loaded, and nothing else moves. Assumes nothing.
use Rattle.std.specs.Prelude.{◌≡◌, refl, List, ◌++◌, ℕ, ◌+◌, ◌-◌, ◌≤◌, take, drop}
use Rattle.std.proofs.Common.{ap, ◌∙◌, take-take, length-take-le}
use Rattle.std.proofs.lemmas.List.{drop-take}
use native.Mathlib.Omega.{arith}
use Rattle.std.proofs.Math.ListN.{length}
use borrow.Rule.Slice.PartMut.{put_mid, post_of}
use Rattle.laws.specs.PartLaws.{length_part, part_here, part_before, part_after, put_halves}
use Rattle.ring.specs.Ring.{capacity}
use Rattle.receiving.specs.declared.Scalars.{Scalars}
use Rattle.table.specs.declared.Common.{Common}
use Rattle.table.specs.declared.Sends.{Sends}
use Rattle.table.specs.Layout.{common_size, sends_at, sends_size, receives_at, receives_size, window_at, window_size, ends_at, times_at, row_size, table_words, Sections, sections_of, common_words, common_of, sends_words, sends_of, scalars_words, scalars_of, ring_of}

-- READ BACK
pub common_words_lem : (c : Common) → common_of (common_words c) ≡ c
unfolding common_of common_words
common_words_lem c = refl

pub sends_words_lem : (s : Sends) → sends_of (sends_words s) ≡ s
unfolding sends_of sends_words
sends_words_lem s = refl

pub scalars_words_lem : (s : Scalars) → scalars_of (scalars_words s) ≡ s
unfolding scalars_of scalars_words
scalars_words_lem s = refl

pub common_size_lem : (c : Common) → length (common_words c) ≡ common_size
unfolding common_words
common_size_lem c = refl

pub sends_size_lem : (s : Sends) → length (sends_words s) ≡ sends_size
unfolding sends_words
sends_size_lem s = refl

pub scalars_size : (s : Scalars) → length (scalars_words s) ≡ receives_size
unfolding scalars_words
scalars_size s = refl

-- ONE SECTION WRITTEN
-- s with one section another
abbrev pub with_common : Sections → List ℕ → Sections
with_common s w = record { common = w; sends = s.sends; receives = s.receives; window = s.window; ends = s.ends; times = s.times }

abbrev pub with_sends : Sections → List ℕ → Sections
with_sends s w = record { common = s.common; sends = w; receives = s.receives; window = s.window; ends = s.ends; times = s.times }

abbrev pub with_receives : Sections → List ℕ → Sections
with_receives s w = record { common = s.common; sends = s.sends; receives = w; window = s.window; ends = s.ends; times = s.times }

abbrev pub with_window : Sections → List ℕ → Sections
with_window s w = record { common = s.common; sends = s.sends; receives = s.receives; window = w; ends = s.ends; times = s.times }

abbrev pub with_ends : Sections → List ℕ → Sections
with_ends s w = record { common = s.common; sends = s.sends; receives = s.receives; window = s.window; ends = w; times = s.times }

abbrev pub with_times : Sections → List ℕ → Sections
with_times s w = record { common = s.common; sends = s.sends; receives = s.receives; window = s.window; ends = s.ends; times = w }

same_sections : {c s r w e t : List ℕ} (v : Sections) → c ≡ v.common → s ≡ v.sends → r ≡ v.receives → w ≡ v.window → e ≡ v.ends → t ≡ v.times
    → ◌≡◌ {A = Sections} (record { common = c; sends = s; receives = r; window = w; ends = e; times = t }) v
same_sections v e₁ e₂ e₃ e₄ e₅ e₆ = rw (e₁, e₂, e₃, e₄, e₅, e₆)

module _ (t y : List ℕ) (long : table_words ≤ length t) where
  pub put_common : length y ≡ common_size → sections_of (put_mid 0 common_size t y) ≡ with_common (sections_of t) y
  unfolding sections_of
  put_common l =
      let f : 0 + common_size ≤ length t = omega arith in
      let after = part_after t y 0 common_size f l in
      same_sections (with_common (sections_of t) y) (part_here t y 0 common_size f l) (after sends_at sends_size (omega arith)) (after receives_at receives_size (omega arith)) (after window_at window_size (omega arith)) (after ends_at row_size (omega arith)) (after times_at row_size (omega arith))

  pub put_sends : length y ≡ sends_size → sections_of (put_mid sends_at sends_size t y) ≡ with_sends (sections_of t) y
  unfolding sections_of
  put_sends l =
      let f : sends_at + sends_size ≤ length t = omega arith in
      let after = part_after t y sends_at sends_size f l in
      let before = part_before t y sends_at sends_size f l in
      same_sections (with_sends (sections_of t) y) (before 0 common_size (omega arith)) (part_here t y sends_at sends_size f l) (after receives_at receives_size (omega arith)) (after window_at window_size (omega arith)) (after ends_at row_size (omega arith)) (after times_at row_size (omega arith))

  pub put_receives : length y ≡ receives_size → sections_of (put_mid receives_at receives_size t y) ≡ with_receives (sections_of t) y
  unfolding sections_of
  put_receives l =
      let f : receives_at + receives_size ≤ length t = omega arith in
      let after = part_after t y receives_at receives_size f l in
      let before = part_before t y receives_at receives_size f l in
      same_sections (with_receives (sections_of t) y) (before 0 common_size (omega arith)) (before sends_at sends_size (omega arith)) (part_here t y receives_at receives_size f l) (after window_at window_size (omega arith)) (after ends_at row_size (omega arith)) (after times_at row_size (omega arith))

  pub put_window : length y ≡ window_size → sections_of (put_mid window_at window_size t y) ≡ with_window (sections_of t) y
  unfolding sections_of
  put_window l =
      let f : window_at + window_size ≤ length t = omega arith in
      let after = part_after t y window_at window_size f l in
      let before = part_before t y window_at window_size f l in
      same_sections (with_window (sections_of t) y) (before 0 common_size (omega arith)) (before sends_at sends_size (omega arith)) (before receives_at receives_size (omega arith)) (part_here t y window_at window_size f l) (after ends_at row_size (omega arith)) (after times_at row_size (omega arith))

  pub put_ends : length y ≡ row_size → sections_of (put_mid ends_at row_size t y) ≡ with_ends (sections_of t) y
  unfolding sections_of
  put_ends l =
      let f : ends_at + row_size ≤ length t = omega arith in
      let after = part_after t y ends_at row_size f l in
      let before = part_before t y ends_at row_size f l in
      same_sections (with_ends (sections_of t) y) (before 0 common_size (omega arith)) (before sends_at sends_size (omega arith)) (before receives_at receives_size (omega arith)) (before window_at window_size (omega arith)) (part_here t y ends_at row_size f l) (after times_at row_size (omega arith))

  pub put_times : length y ≡ row_size → sections_of (put_mid times_at row_size t y) ≡ with_times (sections_of t) y
  unfolding sections_of
  put_times l =
      let f : times_at + row_size ≤ length t = omega arith in
      let before = part_before t y times_at row_size f l in
      same_sections (with_times (sections_of t) y) (before 0 common_size (omega arith)) (before sends_at sends_size (omega arith)) (before receives_at receives_size (omega arith)) (before window_at window_size (omega arith)) (before ends_at row_size (omega arith)) (part_here t y times_at row_size f l)

-- ends and times, as they are lent from the halves of the table, f and b
module _ (t f b : List ℕ) (long : table_words ≤ length t) (ef : f ≡ take times_at t) (eb : b ≡ drop times_at t) where
  pub lent_ends : take (length f - ends_at) (drop ends_at f) ≡ (sections_of t).ends
  unfolding sections_of
  lent_ends =
      let n : length (take times_at t) - ends_at ≡ row_size = rw (length-take-le times_at t (omega arith)) refl in
      rw (ef, n) (ap (take row_size) (drop-take ends_at row_size t) ∙ take-take row_size row_size (drop ends_at t) (omega arith))

  pub lent_times : take row_size b ≡ (sections_of t).times
  unfolding sections_of
  lent_times = rw eb refl

  pub put_rows : (x y : List ℕ) → length x ≡ row_size → length y ≡ row_size
      → (take ends_at f ++ (x ++ post_of ends_at (length f - ends_at) f)) ++ (y ++ drop row_size b) ≡ put_mid times_at row_size (put_mid ends_at row_size t x) y
  put_rows x y lx ly = rw (ef, eb) (put_halves t x y ends_at row_size row_size (omega arith) lx ly)

-- the sizes of the sections
module _ (t : List ℕ) (long : table_words ≤ length t) where
  pub window_size_lem : length (sections_of t).window ≡ window_size
  unfolding sections_of
  window_size_lem = length_part t window_at window_size (omega arith)

  pub ends_size : length (sections_of t).ends ≡ row_size
  unfolding sections_of
  ends_size = length_part t ends_at row_size (omega arith)

  pub times_size : length (sections_of t).times ≡ row_size
  unfolding sections_of
  times_size = length_part t times_at row_size (omega arith)

-- a buffer whose first 65,536 bytes came back as y
pub ring_put_lem : (b y : List ℕ) → capacity ≤ length b → length y ≡ capacity → ring_of (put_mid 0 capacity b y) ≡ y
ring_put_lem b y l e = part_here b y 0 capacity (omega arith) e

pub ring_size : (b : List ℕ) → capacity ≤ length b → length (ring_of b) ≡ capacity
ring_size b l = length_part b 0 capacity (omega arith)

-- a ring that is lent as the first k bytes of a buffer
pub ring_sized : {k : ℕ} → k ≡ capacity → k - 0 ≡ capacity
ring_sized e = omega (arith, e)
