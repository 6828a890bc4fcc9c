-- 03 §1: two ends that share an epoch, a network that loses, repeats, reorders and delays, and runs.
use Rattle.std.specs.Prelude.{Bool, true, not, List, [], ◌∷◌, ◌++◌, ℕ, zero, suc, ◌+◌, eqb, length, take}
use Rattle.laws.specs.Choice.{if}
use Rattle.wire.specs.Datagram.{Message, encode}
use Rattle.wire.specs.Reading.{Decoded, refused, read, decode}
use Rattle.end.specs.End.{End, open_of, give_of, given_of, finish_of, got_of, take_of, reached_of, hear_answer, hear_of, clock_of, sent_of, tick_of}

-- a datagram of this run, as a host could note it: the tick on the clock of the end that notes it, its number, and what it says
pub record Entry : Type 0 where
  pub tick : ℕ
  pub number : ℕ
  pub message : Message

-- an end with its history
pub record Site : Type 0 where
  pub end : End
  -- the bytes that give accepted, and 1 once finish was called
  pub given : List ℕ
  pub finished : ℕ
  -- the bytes that take handed up, and 1 once take has reported the END
  pub taken : List ℕ
  pub reported : ℕ
  -- the datagrams that were sent, and those that were accepted; the newest first
  pub sent : List Entry
  pub accepted : List Entry

pub record World : Type 0 where
  pub near : Site
  pub far : Site

-- an end right after open
unfoldable pub opened : ℕ → ℕ → Site
opened epoch interval = record { end = open_of epoch interval; given = []; finished = 0; taken = []; reported = 0; sent = []; accepted = [] }

-- 1. WHAT THE NETWORK HANDS OVER: a datagram that the other end has sent, the i-th from the newest, or any bytes that are not of this epoch.
-- Lost is what is never handed over; any of them may come again, at any time, in any order. Nothing else is made up.
pub data Arrival : Type 0 where
  handed : ℕ → Arrival
  stray : List ℕ → Arrival

-- 2. WHAT A HOST CALLS
pub data Call : Type 0 where
  gives : List ℕ → Call
  finishes : Call
  takes : ℕ → Call

-- and 3. tick
pub data Act : Type 0 where
  arrives : Arrival → Act
  calls : Call → Act
  ticks : Act

-- noted where the answer was 0
unfoldable pub noted : ℕ → ℕ → Decoded → List Entry
noted zero tick (read epoch number m) = record { tick = tick; number = number; message = m } ∷ []
noted zero tick (refused r) = []
noted (suc r) tick d = []

-- bytes handed over
unfoldable pub hear : Site → List ℕ → Site
hear x d = record {
  end = hear_of x.end d;
  given = x.given;
  finished = x.finished;
  taken = x.taken;
  reported = x.reported;
  sent = x.sent;
  accepted = noted (hear_answer x.end d) x.end.clock (decode d) ++ x.accepted;
}

-- the bytes of a datagram of this run
unfoldable pub bytes_of : ℕ → Entry → List ℕ
bytes_of epoch d = encode epoch d.number d.message

-- the i-th of those that were sent; beyond the first there is none
unfoldable pub hand_over : Site → ℕ → List Entry → ℕ → Site
hand_over x epoch [] i = x
hand_over x epoch (d ∷ ds) zero = hear x (bytes_of epoch d)
hand_over x epoch (d ∷ ds) (suc i) = hand_over x epoch ds i

-- not of this epoch: of another, or no datagram at all
unfoldable pub strange : ℕ → Decoded → Bool
strange epoch (refused r) = true
strange epoch (read other number m) = not (eqb other epoch)

unfoldable pub arrive : Site → Site → Arrival → Site
arrive x from (handed i) = hand_over x from.end.epoch from.sent i
arrive x from (stray d) = if (strange from.end.epoch (decode d)) (hear x d) x

unfoldable pub call : Site → Call → Site
call x (gives bs) = record {
  end = give_of x.end bs;
  given = x.given ++ take (given_of x.end bs) bs;
  finished = x.finished;
  taken = x.taken;
  reported = x.reported;
  sent = x.sent;
  accepted = x.accepted;
}
call x finishes = record {
  end = finish_of x.end;
  given = x.given;
  finished = 1;
  taken = x.taken;
  reported = x.reported;
  sent = x.sent;
  accepted = x.accepted;
}
call x (takes n) = record {
  end = take_of x.end n;
  given = x.given;
  finished = x.finished;
  taken = x.taken ++ got_of x.end n;
  reported = if (eqb (reached_of x.end n) 1) 1 x.reported;
  sent = x.sent;
  accepted = x.accepted;
}

-- what leaves in a tick, newest first: the oldest has the next number after `number`
unfoldable pub leaving : ℕ → ℕ → List Message → List Entry
leaving tick number [] = []
leaving tick number (m ∷ ms) = record { tick = tick; number = number + length ms + 1; message = m } ∷ leaving tick number ms

unfoldable pub tick : Site → Site
tick x = record {
  end = tick_of x.end;
  given = x.given;
  finished = x.finished;
  taken = x.taken;
  reported = x.reported;
  sent = leaving (clock_of x.end) x.end.number (sent_of x.end) ++ x.sent;
  accepted = x.accepted;
}

-- x acts; `from` is the other end
unfoldable pub act : Site → Site → Act → Site
act x from (arrives a) = arrive x from a
act x from (calls c) = call x c
act x from ticks = tick x

-- RUNS: what happens next, at which end. The order is free: document 03's is one of all these (Rounds.antt).
pub data Choice : Type 0 where
  near_acts : Act → Choice
  far_acts : Act → Choice

unfoldable pub step : World → Choice → World
step w (near_acts a) = record { near = act w.near w.far a; far = w.far }
step w (far_acts a) = record { near = w.near; far = act w.far w.near a }

-- a run of two ends opened in one epoch, with resend intervals r and s; the newest choice comes first
unfoldable pub run : ℕ → ℕ → ℕ → List Choice → World
run epoch r s [] = record { near = opened epoch r; far = opened epoch s }
run epoch r s (c ∷ cs) = step (run epoch r s cs) c
