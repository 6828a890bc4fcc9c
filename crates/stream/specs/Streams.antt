-- What give, finish and take do to the sections of the table of an end that is ready.
use Rattle.std.specs.Prelude.{◌≡◌, List, ℕ, ◌+◌, ◌≤◌, length}
use Rattle.ring.specs.Ring.{capacity}
use Rattle.receiving.specs.declared.Scalars.{Scalars}
use Rattle.receiving.specs.Calls as receiving
use Rattle.sending.specs.Outcome as sending
use Rattle.segments.specs.declared.Line.{Line}
use Rattle.table.specs.declared.Sends.{Sends}
use Rattle.table.specs.Layout.{sections_of, sends_words, sends_of, scalars_words, scalars_of, ring_of}
use Rattle.table.specs.LayoutLaws.{with_sends, with_receives}

-- the sending side's scalars with another line
abbrev pub with_line : Sends → Line → Sends
with_line s l = record { line = l; row = s.row; probed = s.probed }

abbrev pub closed : Line → Line
closed l = record { given = l.given; closed = 1; limit = l.limit }

abbrev pub longer : Line → ℕ → Line
longer l n = record { given = l.given + n; closed = l.closed; limit = l.limit }

pub record Finished (t t' : List ℕ) : Type 0 where
  pub size : length t' ≡ length t
  pub sections : sections_of t' ≡ with_sends (sections_of t) (sends_words (with_line (sends_of (sections_of t).sends) (closed (sends_of (sections_of t).sends).line)))

pub record Gave (t o bs : List ℕ) (n : ℕ) (t' o' : List ℕ) : Type 0 where
  pub size : length t' ≡ length t
  pub outgoing_size : length o' ≡ length o
  pub most : n ≤ length bs
  pub small : n ≤ capacity
  pub sections : sections_of t' ≡ with_sends (sections_of t) (sends_words (with_line (sends_of (sections_of t).sends) (longer (sends_of (sections_of t).sends).line n)))
  pub gave : sending.Gave (sends_of (sections_of t).sends).line (sends_of (sections_of t).sends).row.acked (ring_of o) bs n (ring_of o')

pub record Took (t i d : List ℕ) (v : Scalars) (t' d' : List ℕ) : Type 0 where
  pub size : length t' ≡ length t
  pub output_size : length d' ≡ length d
  pub sections : sections_of t' ≡ with_receives (sections_of t) (scalars_words v)
  pub takes : receiving.Takes (ring_of i) (scalars_of (sections_of t).receives) d d' v
