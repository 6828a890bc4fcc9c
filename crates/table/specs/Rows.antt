-- 01 §3: refusals 10 to 13, as rows in the settled order.
use Rattle.std.specs.Prelude.{Bool, not, List, ℕ, ◌+◌, eqb, leb, ltb, length}
use Rattle.laws.specs.Rows.{when, ◌or_else◌, ◌and◌}
use Rattle.ring.specs.Ring.{capacity}
use Rattle.wire.specs.Datagram.{ceiling}
use Rattle.receiving.specs.Receiving.{plausible_of}
use Rattle.segments.specs.declared.Line.{Line}
use Rattle.segments.specs.declared.Row.{Row}
use Rattle.sending.specs.Sending.{segments_most}
use Rattle.table.specs.declared.Common.{Common}
use Rattle.table.specs.Layout.{table_words, Sections, sections_of, common_of, sends_of, scalars_of}

-- the shortest output that tick takes: 32 datagrams of 1,056 bytes
abbrev pub output_least : ℕ
output_least = 33792

abbrev pub interval_most : ℕ
interval_most = 65535

-- 10: R is 1 to 65,535
unfoldable pub interval_row : ℕ → ℕ
interval_row interval = when (eqb interval 0) 10 or_else when (ltb interval_most interval) 10 or_else 0

-- 11: the table, and two buffers of 65,536 bytes
unfoldable pub short_row : ℕ → ℕ → ℕ → ℕ
short_row table a b = when (ltb table table_words) 11 or_else when (ltb a capacity) 11 or_else when (ltb b capacity) 11 or_else 0

-- 12: the words are none that an opened end has. Zeros are not, since an opened end has a 1 in its first word.
unfoldable pub going_of : Common → Bool
going_of c =
    eqb c.opened 1 and ltb 0 c.interval and leb c.interval interval_most and leb c.clock ceiling and ltb c.number ceiling and leb c.due 1

unfoldable pub orderly_of : Line → Row → Bool
orderly_of l p =
    leb l.given ceiling and leb l.closed 1 and leb p.acked p.next and leb p.next (l.given + 1)
    and leb l.given (p.acked + capacity) and ltb p.oldest segments_most and leb p.kept segments_most

unfoldable pub opened_of : Sections → Bool
opened_of s = going_of (common_of s.common) and orderly_of (sends_of s.sends).line (sends_of s.sends).row and plausible_of (scalars_of s.receives)

unfoldable pub opened_row : Sections → ℕ
opened_row s = when (not (opened_of s)) 12

-- 11 and 12
unfoldable pub ready_of : List ℕ → ℕ → ℕ → ℕ
ready_of t a b = short_row (length t) a b or_else opened_row (sections_of t)

-- 13
unfoldable pub output_row : ℕ → ℕ
output_row n = when (ltb n output_least) 13
