-- A run tick by tick: clocks, numbers, and what never falls. Assumes nothing.
use Rattle.std.specs.Prelude.{◌≡◌, refl, ◌&&◌, List, [], ◌∷◌, ◌++◌, ℕ, zero, suc, ◌+◌, ◌-◌, ◌*◌, ◌≤◌, ◌<◌, eqb, ltb, length}
use Rattle.std.proofs.Common.{ap, ◌∙◌, add-zero, add-suc, arith, length-append, ltb-true, lt-ltb}
use Rattle.std.proofs.Math.Seq.{take-append_seam}
use Rattle.laws.specs.Choice.{if_case}
use Rattle.wire.specs.Datagram.{ceiling, Message}
use Rattle.receiving.specs.Receiving.{ack_position, ack_credit}
use Rattle.segments.specs.declared.Tick.{Tick}
use Rattle.sending.specs.Sending.{Sending, datagrams_most}
use Rattle.sending.specs.Steps.{send_of}
use Rattle.segments.specs.StepLaws.{and_right}
use Rattle.sending.specs.CallLaws.{tick_keeps}
use Rattle.sending.specs.TickLaws.{send_few, next_send}
use Rattle.sending.specs.Buffers.{Orderly}
use Rattle.sending.specs.OrderLaws.{orderly_fresh, orderly_send}
use Rattle.sending.specs.Past.{Past}
use Rattle.sending.specs.PastLaws.{past_fresh, past_send}
use Rattle.end.specs.End.{End, open_of, clock_of, allowance_of, ack_of, step_of, sent_of, tick_of}
use Rattle.network.specs.World.{Entry, Site, opened, leaving, tick, run}
use Rattle.network.specs.Rounds.{all_choices, play}
use Rattle.fairness.specs.Timed.{Plan, rounds_of, at, Side, the_near, the_far, other, interval_of, arrivals_of, calls_of, site_at, end_at}
use Rattle.fairness.specs.Networks.{sent_in, Going}
use Rattle.fairness.specs.TimedLaws.{Stays, stays_then, heard, stays_heard, stays_called, ready, ready_at, site_next}
use Rattle.fairness.specs.SideLaws.{Works, works_ready, moves_orderly, moves_past, moves_acked, moves_limit, moves_next, fills_position, fills_grant}

-- THE START
pub site_start : (σ : Plan) (d : Side) → site_at σ d 0 ≡ opened σ.epoch (interval_of d σ)
unfolding site_at at rounds_of play all_choices run
site_start σ the_near = refl
site_start σ the_far = refl

pub end_start : (σ : Plan) (d : Side) → end_at σ d 0 ≡ open_of σ.epoch (interval_of d σ)
unfolding opened
end_start σ d = ap (λ (x : Site). x.end) (site_start σ d)

-- UP TO THE TICK
pub stays_ready : (σ : Plan) (d : Side) (n : ℕ) → Stays (site_at σ d n) (ready_at σ d n)
unfolding ready_at ready
stays_ready σ d n =
    let x = site_at σ d n in
    let y = site_at σ (other d) n in
    let xs = arrivals_of d (σ.round n) in
    stays_then (stays_heard x y xs) (stays_called (heard x y xs) (calls_of d (σ.round n)))

pub works_at : (σ : Plan) (d : Side) (n : ℕ) → Works (end_at σ d n) (ready_at σ d n).end
unfolding ready_at
works_at σ d n = works_ready (site_at σ d n) (site_at σ (other d) n) (arrivals_of d (σ.round n)) (calls_of d (σ.round n))

-- THE TICK
unfoldable pub work : End → Tick
work e = record { now = clock_of e; every = e.interval; allowed = allowance_of e - length (ack_of e) }

pub record Ticks (x z : Site) : Type 0 where
  pub epoch : z.end.epoch ≡ x.end.epoch
  pub interval : z.end.interval ≡ x.end.interval
  pub clock : z.end.clock ≡ clock_of x.end
  pub number : z.end.number ≡ x.end.number + length (sent_of x.end)
  pub window : z.end.window ≡ x.end.window
  pub sending : z.end.sending ≡ (send_of (work x.end) x.end.sending).side
  pub receiving : z.end.receiving ≡ x.end.receiving
  pub sent : z.sent ≡ leaving (clock_of x.end) x.end.number (sent_of x.end) ++ x.sent
  pub accepted : z.accepted ≡ x.accepted

tick_ticks : (x : Site) → Ticks x (tick x)
unfolding tick tick_of step_of work
tick_ticks x = record { epoch = refl; interval = refl; clock = refl; number = refl; window = refl; sending = refl; receiving = refl; sent = refl; accepted = refl }

pub ticks_at : (σ : Plan) (d : Side) (n : ℕ) → Ticks (ready_at σ d n) (site_at σ d (suc n))
ticks_at σ d n = rw (site_next σ d n) (tick_ticks (ready_at σ d n))

-- what an end sends
pub sent_is : (e : End) → sent_of e ≡ (send_of (work e) e.sending).sent ++ ack_of e
unfolding sent_of step_of work
sent_is e = refl

allowance_few : (e : End) → allowance_of e ≤ datagrams_most
unfolding allowance_of
allowance_few e = if_case (λ (n : ℕ). n ≤ datagrams_most) (ltb (clock_of e) ceiling && ltb e.sending.next ceiling) (λ t. omega arith) (λ t. omega arith)

ack_few : (e : End) → length (ack_of e) ≤ allowance_of e
unfolding ack_of
ack_few e =
    if_case (λ (ms : List Message). length ms ≤ allowance_of e) (eqb e.due 1 && ltb 0 (allowance_of e))
    (λ t. let h : 0 < allowance_of e = ltb-true _ _ (and_right (eqb e.due 1) _ t) in omega arith)
    (λ t. omega arith)

pub ack_one : (e : End) → length (ack_of e) ≤ 1
unfolding ack_of
ack_one e = if_case (λ (ms : List Message). length ms ≤ 1) (eqb e.due 1 && ltb 0 (allowance_of e)) (λ t. omega arith) (λ t. omega arith)

-- an end sends at most 32 datagrams a tick
pub sent_few : (e : End) → length (sent_of e) ≤ datagrams_most
unfolding work
sent_few e = rw (sent_is e, length-append) (omega (arith, send_few (work e) e.sending, ack_few e, allowance_few e))

leaving_length : (t n : ℕ) (ms : List Message) → length (leaving t n ms) ≡ length ms
unfolding leaving
leaving_length t n [] = refl
leaving_length t n (m ∷ ms) = ap suc (leaving_length t n ms)

pub sent_in_lem : (σ : Plan) (d : Side) (n : ℕ) → sent_in σ d n ≡ leaving (clock_of (ready_at σ d n).end) (end_at σ d n).number (sent_of (ready_at σ d n).end)
unfolding sent_in
sent_in_lem σ d n =
    let k = ticks_at σ d n in
    let s = stays_ready σ d n in
    let ls : List Entry = leaving (clock_of (ready_at σ d n).end) (end_at σ d n).number (sent_of (ready_at σ d n).end) in
    let e : (site_at σ d (suc n)).sent ≡ ls ++ (site_at σ d n).sent = k.sent ∙ rw (s.number, s.sent) in
    let l : length (ls ++ (site_at σ d n).sent) - length (site_at σ d n).sent ≡ length ls = omega (arith, length-append ls (site_at σ d n).sent) in
    rw (e, l) (take-append_seam ls (site_at σ d n).sent)

pub sent_next : (σ : Plan) (d : Side) (n : ℕ) → (site_at σ d (suc n)).sent ≡ sent_in σ d n ++ (site_at σ d n).sent
sent_next σ d n =
    let k = ticks_at σ d n in
    let s = stays_ready σ d n in
    k.sent ∙ rw (s.number, s.sent, sent_in_lem σ d n)

-- CLOCKS AND INTERVALS
pub interval_at : (σ : Plan) (d : Side) (n : ℕ) → (end_at σ d n).interval ≡ interval_of d σ
unfolding open_of
interval_at σ d zero = ap (λ (e : End). e.interval) (end_start σ d)
interval_at σ d (suc n) = (ticks_at σ d n).interval ∙ (stays_ready σ d n).interval ∙ interval_at σ d n

pub epoch_at : (σ : Plan) (d : Side) (n : ℕ) → (end_at σ d n).epoch ≡ σ.epoch
unfolding open_of
epoch_at σ d zero = ap (λ (e : End). e.epoch) (end_start σ d)
epoch_at σ d (suc n) = (ticks_at σ d n).epoch ∙ (stays_ready σ d n).epoch ∙ epoch_at σ d n

pub clock_at : (σ : Plan) (d : Side) (n : ℕ) → n < ceiling → (end_at σ d n).clock ≡ n
unfolding open_of clock_of
clock_at σ d zero h = ap (λ (e : End). e.clock) (end_start σ d)
clock_at σ d (suc n) h = omega (arith, (ticks_at σ d n).clock, (stays_ready σ d n).clock, clock_at σ d n (omega arith))

-- the clock as tick n comes
pub now_at : (σ : Plan) (d : Side) (n : ℕ) → suc n < ceiling → clock_of (ready_at σ d n).end ≡ suc n
unfolding clock_of
now_at σ d n h = omega (arith, (stays_ready σ d n).clock, clock_at σ d n (omega arith))

-- WHAT NEVER FALLS: a number of an end that no tick makes smaller
pub grows : (f : ℕ → ℕ) → ((n : ℕ) → f n ≤ f (suc n)) → (n m : ℕ) → n ≤ m → f n ≤ f m
grows f g n m h = let e : n + (m - n) ≡ m = omega arith in rw e at (go (m - n))
  where
    go : (k : ℕ) → f n ≤ f (n + k)
    go zero = rw add-zero (omega arith)
    go (suc k) = rw add-suc (omega (arith, go k, g (n + k)))

-- NUMBERS: 32 at most in a tick
pub number_next : (σ : Plan) (d : Side) (n : ℕ) → (end_at σ d (suc n)).number ≡ (end_at σ d n).number + length (sent_of (ready_at σ d n).end)
number_next σ d n = omega (arith, (ticks_at σ d n).number, (stays_ready σ d n).number)

pub number_up : (σ : Plan) (d : Side) (n m : ℕ) → n ≤ m → (end_at σ d n).number ≤ (end_at σ d m).number
number_up σ d = grows (λ n. (end_at σ d n).number) (λ n. omega (arith, number_next σ d n))

pub number_few : (σ : Plan) (d : Side) (n k : ℕ) → (end_at σ d (n + k)).number ≤ (end_at σ d n).number + 32 * k
number_few σ d n zero = let e : n + 0 ≡ n = omega arith in rw e (omega arith)
number_few σ d n (suc k) = rw add-suc (omega (arith, number_few σ d n k, number_next σ d (n + k), sent_few (ready_at σ d (n + k)).end))

-- THE SENDING SIDE
orderly_tick : (e : End) → Orderly e.sending → Orderly (send_of (work e) e.sending).side
orderly_tick e o = orderly_send (work e) e.sending o

pub orderly_at : (σ : Plan) (d : Side) (n : ℕ) → Orderly (end_at σ d n).sending
unfolding open_of
orderly_at σ d zero = rw (end_start σ d) orderly_fresh
orderly_at σ d (suc n) = rw (ticks_at σ d n).sending (orderly_tick (ready_at σ d n).end (moves_orderly (works_at σ d n).sending (orderly_at σ d n)))

pub orderly_ready : (σ : Plan) (d : Side) (n : ℕ) → Orderly (ready_at σ d n).end.sending
orderly_ready σ d n = moves_orderly (works_at σ d n).sending (orderly_at σ d n)

past_tick : (e : End) (n m : ℕ) → clock_of e ≡ m → n ≤ m → Past n e.sending → Past m (send_of (work e) e.sending).side
unfolding work
past_tick e n m c h p = rw (← c) (past_send (record { now = clock_of e; every = e.interval; allowed = allowance_of e - length (ack_of e) }) (omega arith) p)

pub past_at : (σ : Plan) (d : Side) (n : ℕ) → n < ceiling → Past n (end_at σ d n).sending
unfolding open_of
past_at σ d zero h = rw (end_start σ d) (past_fresh 0)
past_at σ d (suc n) h =
    rw (ticks_at σ d n).sending
    (past_tick (ready_at σ d n).end n (suc n) (now_at σ d n h) (omega arith) (moves_past (works_at σ d n).sending (past_at σ d n (omega arith))))

pub past_ready : (σ : Plan) (d : Side) (n : ℕ) → n < ceiling → Past n (ready_at σ d n).end.sending
past_ready σ d n h = moves_past (works_at σ d n).sending (past_at σ d n h)

-- what a tick leaves of it
pub record TickLeaves (s t : Sending) : Type 0 where
  pub acked : t.acked ≡ s.acked
  pub limit : t.limit ≡ s.limit
  pub next : s.next ≤ t.next

tick_leaves : (e : End) → TickLeaves e.sending (send_of (work e) e.sending).side
tick_leaves e = let k = tick_keeps (work e) e.sending in record { acked = k.acked; limit = k.limit; next = next_send (work e) e.sending }

pub ready_next : (σ : Plan) (d : Side) (n : ℕ) → TickLeaves (ready_at σ d n).end.sending (end_at σ d (suc n)).sending
ready_next σ d n = rw (ticks_at σ d n).sending (tick_leaves (ready_at σ d n).end)

pub acked_up : (σ : Plan) (d : Side) (n m : ℕ) → n ≤ m → (end_at σ d n).sending.acked ≤ (end_at σ d m).sending.acked
acked_up σ d = grows (λ n. (end_at σ d n).sending.acked) (λ n. omega (arith, (ready_next σ d n).acked, moves_acked (works_at σ d n).sending (orderly_at σ d n)))

pub limit_up : (σ : Plan) (d : Side) (n m : ℕ) → n ≤ m → (end_at σ d n).sending.limit ≤ (end_at σ d m).sending.limit
limit_up σ d = grows (λ n. (end_at σ d n).sending.limit) (λ n. omega (arith, (ready_next σ d n).limit, moves_limit (works_at σ d n).sending))

pub next_up : (σ : Plan) (d : Side) (n m : ℕ) → n ≤ m → (end_at σ d n).sending.next ≤ (end_at σ d m).sending.next
next_up σ d = grows (λ n. (end_at σ d n).sending.next) (λ n. omega (arith, (ready_next σ d n).next, moves_next (works_at σ d n).sending (orderly_at σ d n)))

-- THE RECEIVING SIDE: the position that an ACK says, and how far it grants
unfoldable pub position_at : Plan → Side → ℕ → ℕ
position_at σ d n = ack_position (end_at σ d n).receiving

unfoldable pub grant_at : Plan → Side → ℕ → ℕ
grant_at σ d n = ack_position (end_at σ d n).receiving + ack_credit (end_at σ d n).receiving

pub position_up : (σ : Plan) (d : Side) (n m : ℕ) → n ≤ m → position_at σ d n ≤ position_at σ d m
unfolding position_at
position_up σ d =
    grows (λ n. ack_position (end_at σ d n).receiving) (λ n. rw (ticks_at σ d n).receiving (fills_position (works_at σ d n).receiving))

pub grant_up : (σ : Plan) (d : Side) (n m : ℕ) → n ≤ m → grant_at σ d n ≤ grant_at σ d m
unfolding grant_at
grant_up σ d =
    grows (λ n. ack_position (end_at σ d n).receiving + ack_credit (end_at σ d n).receiving) (λ n. rw (ticks_at σ d n).receiving (fills_grant (works_at σ d n).receiving))

-- THE ALLOWANCE is never used up below 2^62
pub allowed_at : (σ : Plan) (d : Side) (n T : ℕ) → Going σ T → n < T → 0 < (work (ready_at σ d n).end).allowed
unfolding work allowance_of
allowed_at σ d n T g h =
    let e : End = (ready_at σ d n).end in
    let c : clock_of e < ceiling = omega (arith, now_at σ d n (omega (arith, g.ticks)), g.ticks) in
    let p : e.sending.next < ceiling = omega (arith, g.positions d, next_up σ d n T (omega arith), moves_next (works_at σ d n).sending (orderly_at σ d n)) in
    let q = number_next σ d n in
    let r = number_up σ d (suc n) T h in
    let a : length (sent_of e) ≡ length (send_of (work e) e.sending).sent + length (ack_of e) = rw (sent_is e, length-append) in
    rw (lt-ltb (clock_of e) ceiling c, lt-ltb e.sending.next ceiling p) (omega (arith, g.numbers d, (stays_ready σ d n).number, ack_one e))
