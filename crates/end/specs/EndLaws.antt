-- What each call does to the parts of an end: who is concerned with two ends goes by these, and opens no definition. Assumes nothing.
use Rattle.std.specs.Prelude.{◌≡◌, refl, ◌&&◌, List, [], ◌∷◌, ◌++◌, ℕ, zero, suc, ◌+◌, ◌-◌, ◌≤◌, ◌<◌, eqb, ltb, length}
use Rattle.std.proofs.Common.{sym, ◌∙◌, arith, length-append, eqb-true, ltb-true}
use Rattle.laws.specs.Choice.{if_case}
use Rattle.laws.specs.Rows.{◌or_else◌}
use Rattle.laws.specs.RowsLaws.{row_left, row_right, passed_ne, miss_ne}
use Rattle.wire.specs.Datagram.{ceiling, Message, DATA, ACK, PROBE, wire}
use Rattle.wire.specs.Reading.{Decoded, read, form_of, decode_as, decode}
use Rattle.window.specs.Window.{verdict_of, accept_of}
use Rattle.window.specs.Window as window
use Rattle.receiving.specs.Receiving.{Receiving, ended_of, ack_position, ack_credit}
use Rattle.receiving.specs.Receiving as receiving
use Rattle.segments.specs.declared.Tick.{Tick}
use Rattle.sending.specs.Sending.{Sending}
use Rattle.sending.specs.Sending as sending
use Rattle.sending.specs.Giving as giving
use Rattle.sending.specs.Acking as acking
use Rattle.sending.specs.Steps.{send_of}
use Rattle.segments.specs.StepLaws.{and_left, and_right}
use Rattle.sending.specs.CallLaws.{ack_sent, honest_ack}
use Rattle.sending.specs.TickLaws.{send_few}
use Rattle.end.specs.End.{End, open_of, give_of, given_of, finish_of, got_of, take_of, reached_of, place_of, refusal_of, accepted_of, answer_to, accept_if, after_hearing, hear_answer, hear_of, clock_of, allowance_of, ack_of, step_of, sent_of, tick_of, output_of}

-- OPEN
pub record Opened (e : End) (epoch interval : ℕ) : Type 0 where
  pub epoch_is : e.epoch ≡ epoch
  pub interval_is : e.interval ≡ interval
  pub clock : e.clock ≡ 0
  pub number : e.number ≡ 0
  pub due : e.due ≡ 0
  pub window : e.window ≡ window.fresh
  pub sending : e.sending ≡ sending.fresh
  pub receiving : e.receiving ≡ receiving.fresh

pub open_is : (epoch interval : ℕ) → Opened (open_of epoch interval) epoch interval
unfolding open_of
open_is epoch interval = record { epoch_is = refl; interval_is = refl; clock = refl; number = refl; due = refl; window = refl; sending = refl; receiving = refl }

-- GIVE, FINISH, TAKE: f is e with the sides s and r
pub record Sides (e f : End) (s : Sending) (r : Receiving) : Type 0 where
  pub epoch : f.epoch ≡ e.epoch
  pub interval : f.interval ≡ e.interval
  pub clock : f.clock ≡ e.clock
  pub number : f.number ≡ e.number
  pub due : f.due ≡ e.due
  pub window : f.window ≡ e.window
  pub sending : f.sending ≡ s
  pub receiving : f.receiving ≡ r

pub give_sides : (e : End) (bs : List ℕ) → Sides e (give_of e bs) (giving.give_of e.sending bs) e.receiving
unfolding give_of
give_sides e bs = record { epoch = refl; interval = refl; clock = refl; number = refl; due = refl; window = refl; sending = refl; receiving = refl }

pub given_is : (e : End) (bs : List ℕ) → given_of e bs ≡ giving.taken_of e.sending bs
unfolding given_of
given_is e bs = refl

pub finish_sides : (e : End) → Sides e (finish_of e) (giving.finish_of e.sending) e.receiving
unfolding finish_of
finish_sides e = record { epoch = refl; interval = refl; clock = refl; number = refl; due = refl; window = refl; sending = refl; receiving = refl }

pub take_sides : (e : End) (n : ℕ) → Sides e (take_of e n) e.sending (receiving.take_of e.receiving n)
unfolding take_of
take_sides e n = record { epoch = refl; interval = refl; clock = refl; number = refl; due = refl; window = refl; sending = refl; receiving = refl }

pub got_is : (e : End) (n : ℕ) → got_of e n ≡ receiving.got_of e.receiving n
unfolding got_of
got_is e n = refl

pub reached_is : (e : End) (n : ℕ) → reached_of e n ≡ ended_of (receiving.take_of e.receiving n)
unfolding reached_of take_of
reached_is e n = refl

-- DATAGRAM
-- f is e with the number marked, an ACK due or not, and the sides s and r
pub record Marked (e f : End) (number due : ℕ) (s : Sending) (r : Receiving) : Type 0 where
  pub epoch : f.epoch ≡ e.epoch
  pub interval : f.interval ≡ e.interval
  pub clock : f.clock ≡ e.clock
  pub last : f.number ≡ e.number
  pub due_is : f.due ≡ due
  pub window : f.window ≡ accept_of e.window number
  pub sending : f.sending ≡ s
  pub receiving : f.receiving ≡ r

-- 7, 8 and 9 do not refuse it, and this is what becomes of the end
pub data Accepts (e : End) (number : ℕ) : Message → End → Type 0 where
  accepts_data : {p flag : ℕ} {bs : List ℕ} {f : End} → receiving.refusal_of e.receiving p (length bs) flag ≡ 0
      → Marked e f number 1 e.sending (receiving.hear_of e.receiving p bs flag)
      → Accepts e number (DATA p bs flag) f
  accepts_ack : {p c : ℕ} {f : End} → p ≤ e.sending.next → Marked e f number e.due (acking.ack_of e.sending p c) e.receiving → Accepts e number (ACK p c) f
  accepts_probe : {p : ℕ} {f : End} → Marked e f number 1 e.sending e.receiving → Accepts e number (PROBE p) f

accepts : (e : End) (number : ℕ) (m : Message) → place_of e m ≡ 0 → Accepts e number m (accepted_of e number m)
unfolding place_of accepted_of
accepts e number (DATA p bs flag) z =
    accepts_data z (record { epoch = refl; interval = refl; clock = refl; last = refl; due_is = refl; window = refl; sending = refl; receiving = refl })
accepts e number (ACK p c) z =
    accepts_ack (ack_sent e.sending.next p z) (record { epoch = refl; interval = refl; clock = refl; last = refl; due_is = refl; window = refl; sending = refl; receiving = refl })
accepts e number (PROBE p) z =
    accepts_probe (record { epoch = refl; interval = refl; clock = refl; last = refl; due_is = refl; window = refl; sending = refl; receiving = refl })

-- of what was decoded: the answer, and the end after
pub data Hears (e : End) : Decoded → ℕ → End → Type 0 where
  refuses : {d : Decoded} {r : ℕ} → Hears e d (suc r) e
  takes : {number : ℕ} {m : Message} {f : End} → verdict_of e.window number ≡ 0 → Accepts e number m f → Hears e (read e.epoch number m) 0 f

hears_read : (e : End) (epoch number : ℕ) (m : Message) → Hears e (read epoch number m) (refusal_of e epoch number m) (accept_if (refusal_of e epoch number m) e number m)
unfolding refusal_of accept_if
hears_read e epoch number m = go (refusal_of e epoch number m) refl
  where
    go : (r : ℕ) → refusal_of e epoch number m ≡ r → Hears e (read epoch number m) r (accept_if r e number m)
    go (suc r) q = refuses
    go zero q =
        let a : epoch ≡ e.epoch = passed_ne epoch e.epoch 3 (omega arith) (row_left _ _ q) in
        let b = row_right _ _ q in
        rw a (takes (row_left _ _ b) (accepts e number m (row_right _ _ b)))

pub hears : (e : End) (d : List ℕ) → Hears e (decode d) (hear_answer e d) (hear_of e d)
unfolding hear_answer hear_of decode decode_as answer_to after_hearing
hears e d = go (form_of d)
  where
    go : (r : ℕ) → Hears e (decode_as r d) (answer_to e (decode_as r d)) (after_hearing e (decode_as r d))
    go zero = hears_read e _ _ _
    go (suc r) = refuses

-- a datagram of this epoch that neither 7 nor 8 nor 9 refuses: its number decides
pub data Placed (e : End) : Message → Type 0 where
  placed_data : {p flag : ℕ} {bs : List ℕ} → receiving.refusal_of e.receiving p (length bs) flag ≡ 0 → Placed e (DATA p bs flag)
  placed_ack : {p c : ℕ} → p ≤ e.sending.next → Placed e (ACK p c)
  placed_probe : {p : ℕ} → Placed e (PROBE p)

place_zero : {e : End} {m : Message} → Placed e m → place_of e m ≡ 0
unfolding place_of
place_zero (placed_data z) = z
place_zero {e} (placed_ack {p} h) = honest_ack e.sending.next p h
place_zero placed_probe = refl

last_row : (a b : ℕ) → b ≡ 0 → a or_else b ≡ a
unfolding ◌or_else◌
last_row zero b z = z
last_row (suc a) b z = refl

pub answer_number : (e : End) (d : List ℕ) {number : ℕ} {m : Message} → decode d ≡ read e.epoch number m → Placed e m → hear_answer e d ≡ verdict_of e.window number
unfolding hear_answer answer_to refusal_of
answer_number e d {number} {m} q p =
    rw q (sym (miss_ne _ 3 _ e.epoch e.epoch refl refl) ∙ last_row (verdict_of e.window number) (place_of e m) (place_zero p))

-- TICK
-- the ACK, where one is due
pub data Acks (e : End) : List Message → Type 0 where
  no_ack : Acks e []
  one_ack : e.due ≡ 1 → Acks e (ACK (ack_position e.receiving) (ack_credit e.receiving) ∷ [])

pub record Ticked (e f : End) (sent : List Message) : Type 0 where
  pub work : Tick
  pub acks : List Message
  pub epoch : f.epoch ≡ e.epoch
  pub interval : f.interval ≡ e.interval
  pub window : f.window ≡ e.window
  pub receiving : f.receiving ≡ e.receiving
  pub sending : f.sending ≡ (send_of work e.sending).side
  pub sent_is : sent ≡ (send_of work e.sending).sent ++ acks
  pub acks_are : Acks e acks
  pub due : f.due ≡ e.due - length acks
  pub number : f.number ≡ e.number + length sent
  -- numbers stay below 2^62
  pub small : e.number < ceiling → f.number < ceiling

record AckOf (e : End) (ms : List Message) : Type 0 where
  acks : Acks e ms
  few : length ms ≤ allowance_of e

ack_of_lem : (e : End) → AckOf e (ack_of e)
unfolding ack_of
ack_of_lem e =
    if_case (λ (ms : List Message). AckOf e ms) (eqb e.due 1 && ltb 0 (allowance_of e))
    (λ t. record { acks = one_ack (eqb-true _ _ (and_left _ _ t)); few = let h : 0 < allowance_of e = ltb-true _ _ (and_right (eqb e.due 1) _ t) in omega arith })
    (λ t. record { acks = no_ack; few = omega arith })

allowance_few : (e : End) → e.number < ceiling → e.number + allowance_of e < ceiling
unfolding allowance_of
allowance_few e h =
    if_case (λ (n : ℕ). e.number + n < ceiling) (ltb (clock_of e) ceiling && ltb e.sending.next ceiling) (λ t. omega arith) (λ t. omega arith)

pub tick_is : (e : End) → Ticked e (tick_of e) (sent_of e)
unfolding tick_of sent_of step_of
tick_is e =
    let a = ack_of_lem e in
    let w : Tick = record { now = clock_of e; every = e.interval; allowed = allowance_of e - length (ack_of e) } in
    let f = send_few w e.sending in
    record {
      work = w;
      acks = ack_of e;
      epoch = refl;
      interval = refl;
      window = refl;
      receiving = refl;
      sending = refl;
      sent_is = refl;
      acks_are = a.acks;
      due = refl;
      number = refl;
      small = λ h. let k = allowance_few e h in rw length-append (omega (arith, a.few));
    }

-- and its bytes
pub output_is : (e : End) → output_of e ≡ wire e.epoch e.number (sent_of e)
unfolding output_of
output_is e = refl
