-- While a segment is the oldest it is sent at least once in R ticks, since the oldest comes before all others but the ACK. Assumes nothing.
use Rattle.std.specs.Prelude.{◌≡◌, refl, Bool, true, List, [], ◌∷◌, ◌++◌, ℕ, suc, ◌+◌, ◌-◌, ◌≤◌, ◌<◌, length}
use Rattle.std.proofs.Common.{◌∙◌, arith, eq-eqb}
use Rattle.std.proofs.Math.Decide.{dec_le, dec_lt}
use Rattle.laws.specs.Choice.{if_case}
use Rattle.wire.specs.Datagram.{Message}
use Rattle.sending.specs.Sending.{Segment, Sending}
use Rattle.sending.specs.Giving as giving
use Rattle.sending.specs.Acking as acking
use Rattle.sending.specs.Steps.{send_of}
use Rattle.sending.specs.Buffers.{Orderly}
use Rattle.sending.specs.CallLaws.{In, here, there, acked_ack, acked_reached, given_is, finished_is, tick_keeps}
use Rattle.sending.specs.TickLaws.{Last, last_has, has_in, Covers, covers, oldest_again, oldest_waits, oldest_ack}
use Rattle.sending.specs.PastLaws.{oldest_past}
use Rattle.end.specs.End.{End, clock_of, ack_of, sent_of}
use Rattle.network.specs.World.{Entry, leaving}
use Rattle.counting.specs.TimerLaws.{Beat, beats, rests, Timer, Held}
use Rattle.fairness.specs.Timed.{Plan, Side, interval_of, end_at}
use Rattle.fairness.specs.Networks.{is_segment, any_of, sends, Going}
use Rattle.fairness.specs.TimedLaws.{ready_at}
use Rattle.fairness.specs.SideLaws.{Moves, stays, acks, given, closed, moves_orderly}
use Rattle.fairness.specs.StateLaws.{works_at, work, sent_is, sent_in_lem, ticks_at, now_at, interval_at, stays_ready, orderly_at, orderly_ready, past_at, acked_up, ready_next, allowed_at}

-- WHAT IS SENT
pub in_left : {A : Type 0} {x : A} {xs : List A} (ys : List A) → In x xs → In x (xs ++ ys)
in_left ys here = here
in_left ys (there i) = there (in_left ys i)

pub in_right : {A : Type 0} {x : A} (xs : List A) {ys : List A} → In x ys → In x (xs ++ ys)
in_right [] i = i
in_right (x ∷ xs) i = there (in_right xs i)

any_leaving : (f : Message → Bool) (t n : ℕ) {m : Message} {ms : List Message} → In m ms → f m ≡ true → any_of f (leaving t n ms) ≡ 1
unfolding any_of leaving
any_leaving f t n here e = rw e
any_leaving f t n (there {y} {xs} i) e = if_case (λ (k : ℕ). k ≡ 1) (f y) (λ q. refl) (λ q. any_leaving f t n i e)

pub any_one : (f : Message → Bool) (es : List Entry) → any_of f es ≤ 1
unfolding any_of
any_one f [] = omega arith
any_one f (e ∷ es) = if_case (λ (k : ℕ). k ≤ 1) (f e.message) (λ q. omega arith) (λ q. any_one f es)

pub sends_one : (σ : Plan) (d : Side) (f : Message → Bool) (n : ℕ) → sends σ d f n ≤ 1
unfolding sends
sends_one σ d f n = any_one f _

pub sends_it : (σ : Plan) (d : Side) (f : Message → Bool) (n : ℕ) {m : Message} → In m (sent_of (ready_at σ d n).end) → f m ≡ true → sends σ d f n ≡ 1
unfolding sends
sends_it σ d f n i e = rw (sent_in_lem σ d n) (any_leaving f _ _ i e)

pub covers_segment : {a b : ℕ} {m : Message} → Covers a b m → is_segment a b m ≡ true
unfolding is_segment
covers_segment {a} {b} (covers {bs} {end} e) = rw (eq-eqb a a refl, eq-eqb (a + length bs + end) b e)

covers_from : {a b c : ℕ} {m : Message} → c ≡ a → Covers c b m → is_segment a b m ≡ true
covers_from e k = rw e at (covers_segment k)

-- THE OLDEST SEGMENT: it starts at a
pub record Oldest (a : ℕ) (g : Segment) (s : Sending) : Type 0 where
  pub acked : s.acked ≡ a
  pub kept : Last g s.kept

-- it is so still, or it is dropped
pub data Still (a : ℕ) (g : Segment) (s : Sending) : Type 0 where
  still : Oldest a g s → Still a g s
  dropped : g.to ≤ s.acked → Still a g s

still_ack : {a : ℕ} {g : Segment} (s : Sending) (p c : ℕ) → Orderly s → Still a g s → Still a g (acking.ack_of s p c)
still_ack s p c o (dropped h) = dropped (omega (arith, acked_ack s p c o))
still_ack {a} {g} s p c o (still k) = go (dec_lt p g.to)
  where
    go : Dec (p < g.to) → Still a g (acking.ack_of s p c)
    go (yes h) = let q = oldest_ack s p c g o k.kept h in still (record { acked = q.acked ∙ k.acked; kept = q.kept })
    go (no h) = dropped (acked_reached s p c o (has_in (last_has k.kept)) (omega arith))

pub moves_still : {a : ℕ} {g : Segment} {s t : Sending} → Moves s t → Orderly s → Still a g s → Still a g t
moves_still stays o k = k
moves_still (acks {t} m p c h) o k = still_ack t p c (moves_orderly m o) (moves_still m o k)
moves_still {a} {g} (given {t} m bs) o k = go (moves_still m o k)
  where
    go : Still a g t → Still a g (giving.give_of t bs)
    go (still q) = let r = given_is t bs in still (record { acked = r.acked ∙ q.acked; kept = rw r.kept q.kept })
    go (dropped h) = dropped (omega (arith, (given_is t bs).acked))
moves_still {a} {g} (closed {t} m) o k = go (moves_still m o k)
  where
    go : Still a g t → Still a g (giving.finish_of t)
    go (still q) = let r = finished_is t in still (record { acked = r.acked ∙ q.acked; kept = rw r.kept q.kept })
    go (dropped h) = dropped (omega (arith, (finished_is t).acked))

-- ONE TICK of a segment that is not dropped in it: it is sent, or waits
pub data Turned (σ : Plan) (d : Side) (a n : ℕ) (g : Segment) : Type 0 where
  sent : sends σ d (is_segment a g.to) n ≡ 1 → Oldest a (record { to = g.to; at = suc n }) (end_at σ d (suc n)).sending → Turned σ d a n g
  waits : suc n - g.at < interval_of d σ → Oldest a g (end_at σ d (suc n)).sending → Turned σ d a n g

-- it is not dropped up to the tick
oldest_ready : (σ : Plan) (d : Side) (a n : ℕ) (g : Segment) → Oldest a g (end_at σ d n).sending → (end_at σ d (suc n)).sending.acked < g.to → Oldest a g (ready_at σ d n).end.sending
oldest_ready σ d a n g k h = go (moves_still (works_at σ d n).sending (orderly_at σ d n) (still k))
  where
    go : Still a g (ready_at σ d n).end.sending → Oldest a g (ready_at σ d n).end.sending
    go (still q) = q
    go (dropped q) = absurd (omega (arith, (ready_next σ d n).acked))

-- the tick itself
data EndTurned (e : End) (a : ℕ) (g : Segment) (t : Sending) : Type 0 where
  end_sent : {m : Message} → In m (sent_of e) → is_segment a g.to m ≡ true → Oldest a (record { to = g.to; at = clock_of e }) t → EndTurned e a g t
  end_waits : clock_of e - g.at < e.interval → Oldest a g t → EndTurned e a g t

end_turned : (e : End) (a : ℕ) (g : Segment) → Orderly e.sending → Oldest a g e.sending → 0 < (work e).allowed → EndTurned e a g (send_of (work e) e.sending).side
unfolding work
end_turned e a g o k p = go (dec_le e.interval (clock_of e - g.at))
  where
    go : Dec (e.interval ≤ clock_of e - g.at) → EndTurned e a g (send_of (work e) e.sending).side
    go (yes h) =
        let q = oldest_again (work e) e.sending g o k.kept h p in
        end_sent {m = q.datagram} (rw (sent_is e) (in_left (ack_of e) (has_in (last_has q.sent)))) (covers_from k.acked q.covers)
        (record { acked = (tick_keeps (work e) e.sending).acked ∙ k.acked; kept = q.kept })
    go (no h) =
        end_waits (omega arith) (record { acked = (tick_keeps (work e) e.sending).acked ∙ k.acked; kept = oldest_waits (work e) e.sending g k.kept (omega arith) })

pub oldest_tick : (σ : Plan) (d : Side) (a n T : ℕ) (g : Segment) → Going σ T → n < T → Oldest a g (end_at σ d n).sending → (end_at σ d (suc n)).sending.acked < g.to → Turned σ d a n g
oldest_tick σ d a n T g going l k h =
    let q : EndTurned (ready_at σ d n).end a g (end_at σ d (suc n)).sending =
    rw (ticks_at σ d n).sending (end_turned (ready_at σ d n).end a g (orderly_ready σ d n) (oldest_ready σ d a n g k h) (allowed_at σ d n T going l)) in
    go q
  where
    go : EndTurned (ready_at σ d n).end a g (end_at σ d (suc n)).sending → Turned σ d a n g
    go (end_sent i e q) = sent (sends_it σ d (is_segment a g.to) n i e) (rw (now_at σ d n (omega (arith, going.ticks))) at q)
    go (end_waits e q) = waits (omega (arith, now_at σ d n (omega (arith, going.ticks)), (stays_ready σ d n).interval, interval_at σ d n)) q

-- A TIMER: when n ticks are over the segment from a to b is the oldest, last sent when `at` were
abbrev pub HoldsAt : Plan → Side → ℕ → ℕ → ℕ → ℕ → Type 0
HoldsAt σ d a b at n = Oldest a (record { to = b; at = at }) (end_at σ d n).sending

abbrev pub Holds : Plan → Side → ℕ → ℕ → ℕ → Type 0
Holds σ d a b n = Held (HoldsAt σ d a b) n

pub oldest_timer : (σ : Plan) (d : Side) (a b T : ℕ) → Going σ T → Timer (sends σ d (is_segment a b)) (λ n. (end_at σ d n).sending.acked) (HoldsAt σ d a b) (interval_of d σ) b T
oldest_timer σ d a b T going = record {
  up = λ n m l. acked_up σ d n m l;
  past = λ at n l k. oldest_past (past_at σ d n (omega (arith, going.ticks))) k.kept;
  beat = λ at n l k h. go at n (oldest_tick σ d a n T (record { to = b; at = at }) going l k h);
}
  where
    go : (at n : ℕ) → Turned σ d a n (record { to = b; at = at }) → Beat (sends σ d (is_segment a b)) (HoldsAt σ d a b) (interval_of d σ) at n
    go at n (sent e q) = beats e q
    go at n (waits e q) = rests e q
