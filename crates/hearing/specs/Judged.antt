-- 01 §3: what is known of a datagram that no row refuses.
use Rattle.std.specs.Prelude.{◌≡◌, List, ℕ, ◌≤◌, length}
use Rattle.ring.specs.Ring.{capacity}
use Rattle.wire.specs.declared.Header.{Header}
use Rattle.wire.specs.Reading.{fields_of, Fields}
use Rattle.wire.specs.FormLaws.{WellFormed}
use Rattle.window.specs.Window.{verdict_of}
use Rattle.window.specs.Marks.{window_of}
use Rattle.table.specs.Layout.{table_words, Sections, sections_of, common_of}
use Rattle.table.specs.ReadyLaws.{Ready}
use Rattle.hearing.specs.Hearing.{place_row, judge_row}

-- its rows, one by one
pub record Judged (s : Sections) (h : Header) : Type 0 where
  pub epoch : h.epoch ≡ (common_of s.common).epoch
  pub verdict : verdict_of (window_of (common_of s.common).high s.window) h.number ≡ 0
  pub placed : place_row s h ≡ 0

-- a datagram that may be heard
pub record Hearable (s : Sections) (d : List ℕ) : Type 0 where
  pub well : WellFormed d
  pub judged_zero : judge_row s (fields_of d) ≡ 0

-- what hearing a DATA asks
pub record Hearing (t : List ℕ) (i m : ℕ) (d : List ℕ) (h : Header) : Type 0 where
  pub table_size : table_words ≤ length t
  pub incoming_size : capacity ≤ i
  pub marks_size : capacity ≤ m
  pub ready : Ready (sections_of t)
  pub fields : Fields d h
  pub well : WellFormed d
  pub is_judged : Judged (sections_of t) h

-- what hearing one asks, before its fields are read
pub record HearReady (t : List ℕ) (i m : ℕ) (d : List ℕ) : Type 0 where
  pub table_size : table_words ≤ length t
  pub incoming_size : capacity ≤ i
  pub marks_size : capacity ≤ m
  pub ready : Ready (sections_of t)
  pub may : Hearable (sections_of t) d
