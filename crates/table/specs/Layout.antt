-- Where everything stands in the lent table, written once: six sections of words, one after the other.
use Rattle.std.specs.Prelude.{◌≡◌, List, [], ◌∷◌, ℕ, ◌≤◌, ◌<◌, length, get_or}
use Rattle.laws.specs.Part.{part}
use Rattle.ring.specs.Ring.{capacity}
use Rattle.wire.specs.Datagram.{ceiling}
use Rattle.window.specs.Marks.{window_of}
use Rattle.receiving.specs.declared.Scalars.{Scalars}
use Rattle.receiving.specs.Receiving.{receiving_of}
use Rattle.receiving.specs.Receiving as receiving
use Rattle.sending.specs.Buffers.{sending_of}
use Rattle.sending.specs.Buffers as sending
use Rattle.table.specs.declared.Common.{Common}
use Rattle.table.specs.declared.Sends.{Sends}
use Rattle.end.specs.End.{End}

-- the words of each section
abbrev pub common_size : ℕ
common_size = 7

abbrev pub sends_size : ℕ
sends_size = 8

abbrev pub receives_size : ℕ
receives_size = 6

abbrev pub window_size : ℕ
window_size = 16

abbrev pub row_size : ℕ
row_size = 64

-- where each begins, after the common one; and the words in all
abbrev pub sends_at : ℕ
sends_at = 7

abbrev pub receives_at : ℕ
receives_at = 15

abbrev pub window_at : ℕ
window_at = 21

abbrev pub ends_at : ℕ
ends_at = 37

abbrev pub times_at : ℕ
times_at = 101

abbrev pub table_words : ℕ
table_words = 165

pub record Sections : Type 0 where
  pub common : List ℕ
  pub sends : List ℕ
  pub receives : List ℕ
  pub window : List ℕ
  pub ends : List ℕ
  pub times : List ℕ

unfoldable pub sections_of : List ℕ → Sections
sections_of t = record {
  common = part 0 common_size t;
  sends = part sends_at sends_size t;
  receives = part receives_at receives_size t;
  window = part window_at window_size t;
  ends = part ends_at row_size t;
  times = part times_at row_size t;
}

-- the words of a section, and what they are read as
unfoldable pub common_words : Common → List ℕ
common_words c = c.opened ∷ c.epoch ∷ c.interval ∷ c.clock ∷ c.number ∷ c.due ∷ c.high ∷ []

unfoldable pub common_of : List ℕ → Common
common_of w = record {
  opened = get_or w 0 0;
  epoch = get_or w 1 0;
  interval = get_or w 2 0;
  clock = get_or w 3 0;
  number = get_or w 4 0;
  due = get_or w 5 0;
  high = get_or w 6 0;
}

unfoldable pub sends_words : Sends → List ℕ
sends_words s =
    s.line.given ∷ s.line.closed ∷ s.line.limit ∷ s.row.acked ∷ s.row.next ∷ s.row.oldest ∷ s.row.kept ∷ s.probed ∷ []

unfoldable pub sends_of : List ℕ → Sends
sends_of w = record {
  line = record { given = get_or w 0 0; closed = get_or w 1 0; limit = get_or w 2 0 };
  row = record { acked = get_or w 3 0; next = get_or w 4 0; oldest = get_or w 5 0; kept = get_or w 6 0 };
  probed = get_or w 7 0;
}

unfoldable pub scalars_words : Scalars → List ℕ
scalars_words s = s.taken ∷ s.low ∷ s.tail ∷ s.high ∷ s.known ∷ s.end ∷ []

unfoldable pub scalars_of : List ℕ → Scalars
scalars_of w = record {
  taken = get_or w 0 0;
  low = get_or w 1 0;
  tail = get_or w 2 0;
  high = get_or w 3 0;
  known = get_or w 4 0;
  end = get_or w 5 0;
}

-- a lent buffer may be longer than asked
abbrev pub ring_of : List ℕ → List ℕ
ring_of b = part 0 capacity b

-- the end that the sections and the buffers outgoing, incoming and marks hold
unfoldable pub end_in : Sections → List ℕ → List ℕ → List ℕ → End
end_in s o i m = record {
  epoch = (common_of s.common).epoch;
  interval = (common_of s.common).interval;
  clock = (common_of s.common).clock;
  number = (common_of s.common).number;
  due = (common_of s.common).due;
  window = window_of (common_of s.common).high s.window;
  sending = sending_of (sends_of s.sends).line (sends_of s.sends).row (sends_of s.sends).probed (ring_of o) s.ends s.times;
  receiving = receiving_of (scalars_of s.receives) (ring_of i) (ring_of m);
}

unfoldable pub end_of : List ℕ → List ℕ → List ℕ → List ℕ → End
end_of t o i m = end_in (sections_of t) o i m

-- the common words of an end that was opened
pub record Going (c : Common) : Type 0 where
  pub opened : c.opened ≡ 1
  pub interval_some : 0 < c.interval
  pub interval_most_lem : c.interval ≤ 65535
  pub clock : c.clock ≤ ceiling
  pub number : c.number < ceiling
  pub due : c.due ≤ 1

-- sections and buffers that hold an end
pub record SoundIn (s : Sections) (o i m : List ℕ) : Type 0 where
  pub going : Going (common_of s.common)
  pub sends : sending.Sound (sends_of s.sends).line (sends_of s.sends).row (sends_of s.sends).probed (ring_of o) s.ends s.times
  pub receives : receiving.Sound (scalars_of s.receives) (ring_of i) (ring_of m)

pub record Sound (t o i m : List ℕ) : Type 0 where
  pub table_size : table_words ≤ length t
  pub outgoing_size : capacity ≤ length o
  pub incoming_size : capacity ≤ length i
  pub marks_size : capacity ≤ length m
  pub holds : SoundIn (sections_of t) o i m
