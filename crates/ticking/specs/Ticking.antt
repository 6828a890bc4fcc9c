-- What a tick does to the sections of the table of an end that is ready, and to the output.
use Rattle.std.specs.Prelude.{◌&&◌, ◌≡◌, List, [], ◌∷◌, ℕ, zero, suc, ◌+◌, ◌-◌, ◌*◌, ◌≤◌, ◌<◌, min, eqb, ltb, length, take, drop}
use borrow.Rule.Slice.PartMut.{put_mid}
use Rattle.laws.specs.Choice.{if}
use Rattle.laws.specs.Over.{over}
use Rattle.ring.specs.Ring.{capacity}
use Rattle.wire.specs.Datagram.{head_size, ceiling, Message, ACK, encode, wire}
use Rattle.receiving.specs.Calls.{position_by, credit_by}
use Rattle.segments.specs.declared.Tick.{Tick}
use Rattle.segments.specs.declared.Stamp.{Stamp}
use Rattle.sending.specs.declared.Sent.{Sent}
use Rattle.sending.specs.Sending.{datagrams_most}
use Rattle.sending.specs.Outcome.{datagram_most, Sends}
use Rattle.sending.specs.BufferLaws.{moved}
use Rattle.table.specs.declared.Common.{Common}
use Rattle.ticking.specs.declared.Plan.{Plan}
use Rattle.table.specs.Layout.{table_words, Sections, sections_of, common_words, common_of, sends_words, sends_of, scalars_of, ring_of}
use Rattle.table.specs.LayoutLaws.{with_common, with_sends, with_ends, with_times}
use Rattle.table.specs.Rows.{output_least}
use Rattle.table.specs.ReadyLaws.{Ready}

abbrev pub clock_by : ℕ → ℕ
clock_by clock = min (clock + 1) ceiling

unfoldable pub allowance_by : ℕ → ℕ → ℕ → ℕ
allowance_by now next number = if (ltb now ceiling && ltb next ceiling) (min datagrams_most (ceiling - 1 - number)) 0

unfoldable pub acks_by : ℕ → ℕ → ℕ
acks_by due allowed = if (eqb due 1 && ltb 0 allowed) 1 0

-- x is the ACK of the end, with this number
pub record AckSent (t : List ℕ) (epoch number : ℕ) (x : List ℕ) : Type 0 where
  pub is : x ≡ encode epoch number (ACK (position_by (scalars_of (sections_of t).receives)) (credit_by (scalars_of (sections_of t).receives)))

-- what sending asks
pub record SendReady (w : Tick) (e : Stamp) (t : List ℕ) (outgoing out : ℕ) : Type 0 where
  pub table_size : table_words ≤ length t
  pub outgoing_size : capacity ≤ outgoing
  pub ready : Ready (sections_of t)
  pub now : w.now ≤ ceiling
  pub most : w.allowed ≤ datagrams_most
  pub numbers : e.number + w.allowed < ceiling
  pub out_size : datagram_most * w.allowed ≤ out

-- steps 2 to 4 were done
pub record SegmentsSent (w : Tick) (e : Stamp) (t o out : List ℕ) (r : Sent) (t' out' : List ℕ) : Type 0 where
  pub size : length t' ≡ length t
  pub output_size : length out' ≡ length out
  pub ends : List ℕ
  pub times : List ℕ
  pub sends : Sends w e (sends_of (sections_of t).sends).line (sends_of (sections_of t).sends).row (sends_of (sections_of t).sends).probed (ring_of o) (sections_of t).ends (sections_of t).times out r ends times out'
  pub sections : sections_of t' ≡ with_sends (with_times (with_ends (sections_of t) ends) times)
      (sends_words (record { line = (sends_of (sections_of t).sends).line; row = moved (sends_of (sections_of t).sends).row r; probed = r.probed }))

-- how many datagrams may leave, and how many of them are ACKs
abbrev pub may_of : Sections → ℕ
may_of s = allowance_by (clock_by (common_of s.common).clock) (sends_of s.sends).row.next (common_of s.common).number

abbrev pub acks_of : Sections → ℕ
acks_of s = acks_by (common_of s.common).due (may_of s)

pub record Planned (s : Sections) (p : Plan) : Type 0 where
  pub now : p.now ≡ clock_by (common_of s.common).clock
  pub allowed : p.allowed ≡ may_of s
  pub acks : p.acks ≡ acks_of s

-- what steps 2 to 4 have to go by
abbrev pub work_of : Sections → Tick
work_of s = record { now = clock_by (common_of s.common).clock; every = (common_of s.common).interval; allowed = may_of s - acks_of s }

abbrev pub stamp_of : Sections → Stamp
stamp_of s = record { epoch = (common_of s.common).epoch; number = (common_of s.common).number + acks_of s }

-- no ACK, or one
unfoldable pub ack_messages : Sections → ℕ → List Message
ack_messages s zero = []
ack_messages s (suc a) = ACK (position_by (scalars_of s.receives)) (credit_by (scalars_of s.receives)) ∷ []

pub record AckReady (t : List ℕ) (c : Common) (a out : ℕ) : Type 0 where
  pub table_size : table_words ≤ length t
  pub ready : Ready (sections_of t)
  pub number : c.number < ceiling
  pub one : a ≤ 1
  pub out_size : head_size ≤ out

-- step 1 was done
pub record AckOver (s : Sections) (c : Common) (a : ℕ) (out : List ℕ) (r : ℕ) (x : List ℕ) : Type 0 where
  pub wrote : x ≡ over (wire c.epoch c.number (ack_messages s a)) out
  pub bytes : r ≡ length (wire c.epoch c.number (ack_messages s a))
  pub size : length x ≡ length out
  pub few : r ≡ head_size * a

pub record TickReady (t : List ℕ) (outgoing out : ℕ) : Type 0 where
  pub table_size : table_words ≤ length t
  pub outgoing_size : capacity ≤ outgoing
  pub out_size : output_least ≤ out
  pub ready : Ready (sections_of t)

-- the common words after a tick that sent a ACKs and then n other datagrams
abbrev pub ticking : Common → ℕ → ℕ → Common
ticking c a n = record { opened = c.opened; epoch = c.epoch; interval = c.interval; clock = clock_by c.clock; number = c.number + a + n; due = c.due - a; high = c.high }

-- all four steps were done
pub record Ticked (t o out : List ℕ) (r : ℕ) (t' out' : List ℕ) : Type 0 where
  pub size : length t' ≡ length t
  pub output_size : length out' ≡ length out
  pub most : r ≤ length out
  pub small : r ≤ output_least
  -- after step 1: the bytes written, and the output
  pub from : ℕ
  pub first : List ℕ
  pub acked : AckOver (sections_of t) (common_of (sections_of t).common) (acks_of (sections_of t)) out from first
  -- after steps 2 to 4: what was done, the table, and the rest of the output
  pub sent : Sent
  pub middle : List ℕ
  pub rest : List ℕ
  pub segments : SegmentsSent (work_of (sections_of t)) (stamp_of (sections_of t)) t o (take (length first - from) (drop from first)) sent middle rest
  pub sections : sections_of t' ≡ with_common (sections_of middle) (common_words (ticking (common_of (sections_of t).common) (acks_of (sections_of t)) sent.count))
  pub wrote : out' ≡ put_mid from (length first - from) first rest
  pub bytes : r ≡ from + sent.bytes
