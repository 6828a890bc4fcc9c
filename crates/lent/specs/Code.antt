-- 03 §1, for the code: a run whose steps are what the contracts of the six exported functions promise of what was lent.
-- The history is that of the bytes really passed in and out.
use Rattle.std.specs.Prelude.{◌≡◌, true, List, [], ◌∷◌, ◌++◌, ℕ, ◌+◌, ◌≤◌, ◌<◌, eqb, ℤ, pos, negsuc, length, take}
use Rattle.laws.specs.Choice.{if}
use Rattle.laws.specs.History.{Prefix}
use Rattle.ring.specs.Ring.{capacity}
use Rattle.wire.specs.Reading.{Decoded, refused, read, decode}
use Rattle.wire.specs.Series.{Series}
use Rattle.receiving.specs.Receiving.{ack_position}
use Rattle.sending.specs.CallLaws.{In}
use Rattle.end.specs.End.{End, got_of, reached_of, hear_answer}
use Rattle.table.specs.Layout.{end_of}
use Rattle.endpoint.specs.Answer.{answer_of}
use Rattle.endpoint.specs.Calls.{Opens, Gives, Finishes, Hears, Takes, Ticks}
use Rattle.network.specs.World.{strange}
use Rattle.network.specs.Delivered.{Distinct, is_ack, asks, Every, Welcome}

-- what a host lends
pub record Lent : Type 0 where
  pub table : List ℕ
  pub outgoing : List ℕ
  pub incoming : List ℕ
  pub marks : List ℕ

-- what it has lent, and all that went through its hands; datagrams are bytes, the newest first
pub record Desk : Type 0 where
  pub lent : Lent
  pub given : List ℕ
  pub finished : ℕ
  pub taken : List ℕ
  pub reported : ℕ
  pub sent : List (List ℕ)
  pub accepted : List (List ℕ)

-- the end that the lent buffers hold
abbrev pub held : Desk → End
held x = end_of x.lent.table x.lent.outgoing x.lent.incoming x.lent.marks

-- how many bytes an answer counts: a refusal counts none
unfoldable pub count_of : ℤ → ℕ
count_of (pos n) = n
count_of (negsuc n) = 0

-- b after an answer that is no refusal, and a after a refusal
unfoldable pub after : {A : Type 0} → ℤ → A → A → A
after (pos n) a b = b
after (negsuc n) a b = a

-- what the network may hand over: what the other end has sent, and bytes that are not of this epoch
pub data Handed (epoch : ℕ) (from : List (List ℕ)) (d : List ℕ) : Type 0 where
  own : In d from → Handed epoch from d
  other : strange epoch (decode d) ≡ true → Handed epoch from d

-- A CALL AT x was answered with r, and left other bytes in what was lent
abbrev pub after_give : Desk → List ℕ → ℤ → List ℕ → List ℕ → Desk
after_give x bs r t' o' = record {
  lent = record { table = t'; outgoing = o'; incoming = x.lent.incoming; marks = x.lent.marks };
  given = x.given ++ take (count_of r) bs;
  finished = x.finished;
  taken = x.taken;
  reported = x.reported;
  sent = x.sent;
  accepted = x.accepted;
}

abbrev pub after_finish : Desk → ℤ → List ℕ → Desk
after_finish x r t' = record {
  lent = record { table = t'; outgoing = x.lent.outgoing; incoming = x.lent.incoming; marks = x.lent.marks };
  given = x.given;
  finished = after r x.finished 1;
  taken = x.taken;
  reported = x.reported;
  sent = x.sent;
  accepted = x.accepted;
}

-- d is accepted where it is not refused
abbrev pub after_hear : Desk → List ℕ → ℤ → List ℕ → List ℕ → List ℕ → Desk
after_hear x d r t' i' m' = record {
  lent = record { table = t'; outgoing = x.lent.outgoing; incoming = i'; marks = m' };
  given = x.given;
  finished = x.finished;
  taken = x.taken;
  reported = x.reported;
  sent = x.sent;
  accepted = after r x.accepted (d ∷ x.accepted);
}

-- d is where the bytes were put, and e whether the END was reached
abbrev pub after_take : Desk → ℤ → List ℕ → List ℕ → ℕ → Desk
after_take x r t' d e = record {
  lent = record { table = t'; outgoing = x.lent.outgoing; incoming = x.lent.incoming; marks = x.lent.marks };
  given = x.given;
  finished = x.finished;
  taken = x.taken ++ take (count_of r) d;
  reported = after r x.reported (if (eqb e 1) 1 x.reported);
  sent = x.sent;
  accepted = x.accepted;
}

-- ds are the datagrams in the output
abbrev pub after_tick : Desk → List (List ℕ) → List ℕ → Desk
after_tick x ds t' = record {
  lent = record { table = t'; outgoing = x.lent.outgoing; incoming = x.lent.incoming; marks = x.lent.marks };
  given = x.given;
  finished = x.finished;
  taken = x.taken;
  reported = x.reported;
  sent = ds ++ x.sent;
  accepted = x.accepted;
}

-- one call at x, as its contract has it; the host finds the datagrams in tick's output by their length fields
pub data Does (epoch : ℕ) (from : List (List ℕ)) (x : Desk) : Desk → Type 0 where
  gives : {bs : List ℕ} {r : ℤ} {t' o' : List ℕ} → Gives x.lent.table x.lent.outgoing bs r t' o' → Does epoch from x (after_give x bs r t' o')
  finishes : {r : ℤ} {t' : List ℕ} → Finishes x.lent.table r t' → Does epoch from x (after_finish x r t')
  hears : {d : List ℕ} {r : ℤ} {t' i' m' : List ℕ} → Handed epoch from d → Hears x.lent.table x.lent.incoming x.lent.marks d r t' i' m'
      → Does epoch from x (after_hear x d r t' i' m')
  takes : {d : List ℕ} {e : ℕ} {r : ℤ} {t' d' : List ℕ} {e' : ℕ} → Takes x.lent.table x.lent.incoming d e r t' d' e' → Does epoch from x (after_take x r t' d' e')
  ticks : {out : List ℕ} {r : ℤ} {t' out' : List ℕ} {ds : List (List ℕ)} → Ticks x.lent.table x.lent.outgoing out r t' out' → Series (take (count_of r) out') ds
      → Does epoch from x (after_tick x ds t')

-- an end after open, which was not refused
pub data Begins (epoch : ℕ) : Desk → Type 0 where
  opens : {t o i m : List ℕ} {interval : ℕ} {r : ℤ} {t' m' : List ℕ} → Opens t o i m epoch interval r t' m' → r ≡ answer_of 0 0
      → Begins epoch (record {
        lent = record { table = t'; outgoing = o; incoming = i; marks = m' };
        given = [];
        finished = 0;
        taken = [];
        reported = 0;
        sent = [];
        accepted = [];
      })

-- RUNS of two ends opened in one epoch: any call at either, in any order
pub data CodeRun (epoch : ℕ) : Desk → Desk → Type 0 where
  begin : {x y : Desk} → Begins epoch x → Begins epoch y → CodeRun epoch x y
  near : {x y x' : Desk} → CodeRun epoch x y → Does epoch y.sent x x' → CodeRun epoch x' y
  far : {x y y' : Desk} → CodeRun epoch x y → Does epoch x.sent y y' → CodeRun epoch x y'

-- STATEMENT B of these bytes
-- of what a datagram's bytes say: its number, whether it is an ACK, and whether it asks for one
unfoldable pub number_in : Decoded → ℕ
number_in (refused r) = 0
number_in (read epoch number m) = number

unfoldable pub ack_in : Decoded → ℕ
ack_in (refused r) = 0
ack_in (read epoch number m) = is_ack m

unfoldable pub ask_in : Decoded → ℕ
ask_in (refused r) = 0
ask_in (read epoch number m) = asks m

unfoldable pub numbers_among : List (List ℕ) → List ℕ
numbers_among [] = []
numbers_among (d ∷ ds) = number_in (decode d) ∷ numbers_among ds

unfoldable pub acks_among : List (List ℕ) → ℕ
acks_among [] = 0
acks_among (d ∷ ds) = ack_in (decode d) + acks_among ds

unfoldable pub asks_among : List (List ℕ) → ℕ
asks_among [] = 0
asks_among (d ∷ ds) = ask_in (decode d) + asks_among ds

-- from x to y, as in Delivered.antt
pub record CodeDelivered (x y : Desk) : Type 0 where
  pub beginning : Prefix y.taken x.given
  pub finished : y.reported ≡ 1 → x.finished ≡ 1
  pub whole : y.reported ≡ 1 → y.taken ≡ x.given
  pub acked : (held x).sending.acked ≤ ack_position (held y).receiving
  pub dropped : Prefix (take (held x).sending.acked x.given) (y.taken ++ got_of (held y) capacity)
  pub dropped_end : length x.given < (held x).sending.acked → reached_of (held y) capacity ≡ 1
  pub once : Distinct (numbers_among y.accepted)
  pub answered : acks_among y.sent ≤ asks_among y.accepted
  pub welcome : Every (λ d. Welcome (hear_answer (held y) d)) x.sent

pub record CodeBothWays (x y : Desk) : Type 0 where
  pub out : CodeDelivered x y
  pub back : CodeDelivered y x
