-- 01 §1, §3, §5, §6: an end, and what its six calls make of it.
use Rattle.std.specs.Prelude.{not, ◌&&◌, List, [], ◌∷◌, ◌++◌, ℕ, zero, suc, ◌+◌, ◌-◌, min, eqb, ltb, length}
use Rattle.laws.specs.Choice.{if}
use Rattle.laws.specs.Rows.{when, ◌or_else◌}
use Rattle.wire.specs.Datagram.{ceiling, Message, DATA, ACK, PROBE, wire}
use Rattle.wire.specs.Reading.{Decoded, refused, read, decode}
use Rattle.window.specs.Window.{Window, verdict_of, accept_of}
use Rattle.window.specs.Window as window
use Rattle.receiving.specs.Receiving.{Receiving, ended_of, ack_position, ack_credit}
use Rattle.receiving.specs.Receiving as receiving
use Rattle.sending.specs.Sending.{datagrams_most, Sending}
use Rattle.sending.specs.Sending as sending
use Rattle.sending.specs.Giving as giving
use Rattle.sending.specs.Acking as acking
use Rattle.sending.specs.Steps.{Sends, send_of}

-- what an end knows
pub record End : Type 0 where
  pub epoch : ℕ
  -- R, the resend interval
  pub interval : ℕ
  -- the ticks since open
  pub clock : ℕ
  -- the last number that was used
  pub number : ℕ
  -- 1 where an ACK is due
  pub due : ℕ
  pub window : Window
  pub sending : Sending
  pub receiving : Receiving

-- OPEN
unfoldable pub open_of : ℕ → ℕ → End
open_of epoch interval = record {
  epoch = epoch;
  interval = interval;
  clock = 0;
  number = 0;
  due = 0;
  window = window.fresh;
  sending = sending.fresh;
  receiving = receiving.fresh;
}

-- GIVE, FINISH: what is left of the end stays
abbrev pub with_sending : End → Sending → End
with_sending e s = record {
  epoch = e.epoch;
  interval = e.interval;
  clock = e.clock;
  number = e.number;
  due = e.due;
  window = e.window;
  sending = s;
  receiving = e.receiving;
}

-- how many of the bytes are taken, and the end after
unfoldable pub given_of : End → List ℕ → ℕ
given_of e bs = giving.taken_of e.sending bs

unfoldable pub give_of : End → List ℕ → End
give_of e bs = with_sending e (giving.give_of e.sending bs)

unfoldable pub finish_of : End → End
finish_of e = with_sending e (giving.finish_of e.sending)

-- TAKE: what is handed up, whether the END has been reached, and the end after
unfoldable pub got_of : End → ℕ → List ℕ
got_of e n = receiving.got_of e.receiving n

unfoldable pub take_of : End → ℕ → End
take_of e n = record {
  epoch = e.epoch;
  interval = e.interval;
  clock = e.clock;
  number = e.number;
  due = e.due;
  window = e.window;
  sending = e.sending;
  receiving = receiving.take_of e.receiving n;
}

unfoldable pub reached_of : End → ℕ → ℕ
reached_of e n = ended_of (take_of e n).receiving

-- DATAGRAM
-- 7, 8 and 9
unfoldable pub place_of : End → Message → ℕ
place_of e (DATA p bs f) = receiving.refusal_of e.receiving p (length bs) f
place_of e (ACK p c) = acking.ack_refusal e.sending.next p
place_of e (PROBE p) = 0

-- 3 to 9
unfoldable pub refusal_of : End → ℕ → ℕ → Message → ℕ
refusal_of e epoch number m =
    when (not (eqb epoch e.epoch)) 3
    or_else verdict_of e.window number
    or_else place_of e m

-- an accepted datagram: its number is marked; an ACK is due for each DATA and PROBE
unfoldable pub accepted_of : End → ℕ → Message → End
accepted_of e number (DATA p bs f) = record {
  epoch = e.epoch;
  interval = e.interval;
  clock = e.clock;
  number = e.number;
  due = 1;
  window = accept_of e.window number;
  sending = e.sending;
  receiving = receiving.hear_of e.receiving p bs f;
}
accepted_of e number (ACK p c) = record {
  epoch = e.epoch;
  interval = e.interval;
  clock = e.clock;
  number = e.number;
  due = e.due;
  window = accept_of e.window number;
  sending = acking.ack_of e.sending p c;
  receiving = e.receiving;
}
accepted_of e number (PROBE p) = record {
  epoch = e.epoch;
  interval = e.interval;
  clock = e.clock;
  number = e.number;
  due = 1;
  window = accept_of e.window number;
  sending = e.sending;
  receiving = e.receiving;
}

-- the answer to a decoded datagram, 0 or a refusal, and the end after: a refusal changes nothing
unfoldable pub answer_to : End → Decoded → ℕ
answer_to e (refused r) = r
answer_to e (read epoch number m) = refusal_of e epoch number m

unfoldable pub accept_if : ℕ → End → ℕ → Message → End
accept_if zero e number m = accepted_of e number m
accept_if (suc r) e number m = e

unfoldable pub after_hearing : End → Decoded → End
after_hearing e (refused r) = e
after_hearing e (read epoch number m) = accept_if (refusal_of e epoch number m) e number m

-- the same of a datagram's bytes
unfoldable pub hear_answer : End → List ℕ → ℕ
hear_answer e d = answer_to e (decode d)

unfoldable pub hear_of : End → List ℕ → End
hear_of e d = after_hearing e (decode d)

-- TICK
-- the clock moves on by one, and stops at 2^62
unfoldable pub clock_of : End → ℕ
clock_of e = min (e.clock + 1) ceiling

-- how many datagrams may leave: 32, as far as numbers go; none once ticks or positions have come to 2^62
unfoldable pub allowance_of : End → ℕ
allowance_of e =
    if (ltb (clock_of e) ceiling && ltb e.sending.next ceiling)
    (min datagrams_most (ceiling - 1 - e.number))
    0

-- 1. the ACK, if one is due
unfoldable pub ack_of : End → List Message
ack_of e =
    if (eqb e.due 1 && ltb 0 (allowance_of e))
    (ACK (ack_position e.receiving) (ack_credit e.receiving) ∷ [])
    []

-- 2. to 4., with what the ACK has left of the allowance
unfoldable pub step_of : End → Sends
step_of e = send_of (record { now = clock_of e; every = e.interval; allowed = allowance_of e - length (ack_of e) }) e.sending

-- what leaves in this tick, the newest first
unfoldable pub sent_of : End → List Message
sent_of e = (step_of e).sent ++ ack_of e

unfoldable pub tick_of : End → End
tick_of e = record {
  epoch = e.epoch;
  interval = e.interval;
  clock = clock_of e;
  number = e.number + length (sent_of e);
  due = e.due - length (ack_of e);
  window = e.window;
  sending = (step_of e).side;
  receiving = e.receiving;
}

-- and its bytes
unfoldable pub output_of : End → List ℕ
output_of e = wire e.epoch e.number (sent_of e)
