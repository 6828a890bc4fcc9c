-- What a datagram does to the sections of the table of an end that is ready, and how it is judged from them.
use Rattle.std.specs.Prelude.{not, ◌≡◌, List, ℕ, ◌+◌, eqb, length, drop}
use Rattle.laws.specs.Rows.{when, ◌or_else◌, branch}
use Rattle.wire.specs.declared.Header.{Header}
use Rattle.wire.specs.Datagram.{head_size}
use Rattle.wire.specs.Reading.{fields_of, form_of}
use Rattle.window.specs.Window.{verdict_of}
use Rattle.window.specs.Marks.{window_of, Accepts}
use Rattle.receiving.specs.declared.Scalars.{Scalars}
use Rattle.receiving.specs.Calls as receiving
use Rattle.segments.specs.declared.Row.{Row}
use Rattle.sending.specs.declared.Credit.{Credit}
use Rattle.sending.specs.Acking.{ack_refusal}
use Rattle.sending.specs.Outcome as sending
use Rattle.sending.specs.BufferLaws.{raised}
use Rattle.table.specs.declared.Common.{Common}
use Rattle.table.specs.Layout.{Sections, sections_of, common_words, common_of, sends_words, sends_of, scalars_words, scalars_of, ring_of}
use Rattle.table.specs.LayoutLaws.{with_common, with_sends, with_receives, with_window}

-- 7, 8 and 9, from the scalars
unfoldable pub place_row : Sections → Header → ℕ
place_row s h =
    branch (eqb h.kind 1) (receiving.refusal (scalars_of s.receives) h.position h.length h.flags)
    (branch (eqb h.kind 2) (ack_refusal (sends_of s.sends).row.next h.position) 0)

-- 3 to 9
unfoldable pub judge_row : Sections → Header → ℕ
judge_row s h =
    when (not (eqb h.epoch (common_of s.common).epoch)) 3
    or_else verdict_of (window_of (common_of s.common).high s.window) h.number
    or_else place_row s h

-- 1 to 9
unfoldable pub hear_row : Sections → List ℕ → ℕ
hear_row s d = form_of d or_else judge_row s (fields_of d)

-- the common words with another `due` and another highest number
abbrev pub noting : Common → ℕ → ℕ → Common
noting c due high = record { opened = c.opened; epoch = c.epoch; interval = c.interval; clock = c.clock; number = c.number; due = due; high = high }

-- a number was marked
pub record Noted (t : List ℕ) (number due : ℕ) (t' : List ℕ) : Type 0 where
  pub size : length t' ≡ length t
  pub high : ℕ
  pub words : List ℕ
  pub accepts : Accepts (common_of (sections_of t).common).high (sections_of t).window number high words
  pub sections : sections_of t' ≡ with_common (with_window (sections_of t) words) (common_words (noting (common_of (sections_of t).common) due high))

-- a DATA was heard
pub record HeardData (t i m d : List ℕ) (h : Header) (t' i' m' : List ℕ) : Type 0 where
  pub middle : List ℕ
  pub noted : Noted t h.number 1 middle
  pub scalars : Scalars
  pub sections : sections_of t' ≡ with_receives (sections_of middle) (scalars_words scalars)
  pub hears : receiving.Hears (ring_of i) (ring_of m) (scalars_of (sections_of t).receives) h.position (drop head_size d) h.flags (ring_of i') (ring_of m') scalars

-- an ACK was heard
pub record HeardAck (t : List ℕ) (h : Header) (t' : List ℕ) : Type 0 where
  pub middle : List ℕ
  pub noted : Noted t h.number (common_of (sections_of t).common).due middle
  pub row : Row
  pub credit : Credit
  pub sections : sections_of t' ≡ with_sends (sections_of middle) (sends_words (record { line = raised (sends_of (sections_of t).sends).line credit; row = row; probed = credit.probed }))
  pub acked : sending.Acked (sections_of t).ends (sends_of (sections_of t).sends).row h.position row
  pub granted : sending.Granted (sends_of (sections_of t).sends).line.limit (sends_of (sections_of t).sends).probed (h.position + h.credit) credit

pub record DataDone (t i m d : List ℕ) (h : Header) (t' i' m' : List ℕ) : Type 0 where
  pub size : length t' ≡ length t
  pub incoming_size : length i' ≡ length i
  pub marks_size : length m' ≡ length m
  pub heard : HeardData t i m d h t' i' m'

pub record AckDone (t : List ℕ) (h : Header) (t' : List ℕ) : Type 0 where
  pub size : length t' ≡ length t
  pub heard : HeardAck t h t'

pub record Heard (t i m d : List ℕ) (h : Header) (t' i' m' : List ℕ) : Type 0 where
  pub size : length t' ≡ length t
  pub incoming_size : length i' ≡ length i
  pub marks_size : length m' ≡ length m
  pub data_heard : h.kind ≡ 1 → HeardData t i m d h t' i' m'
  pub ack_heard : h.kind ≡ 2 → HeardAck t h t'
  pub probe_heard : h.kind ≡ 3 → Noted t h.number 1 t'
  pub same : (h.kind ≡ 1 → ⊥) → (i' ≡ i) × (m' ≡ m)
