-- An end that has bytes waiting, nothing kept and no room goes by turns too: PROBEs, and ACKs that bring room. Assumes nothing.
use Rattle.std.proofs.Common.{◌≡◌, refl, true, [], ℕ, suc, ◌+◌, ◌-◌, ◌^◌, ◌≤◌, ◌<◌, ap, ◌∙◌, arith, length-take}
use Rattle.std.proofs.Math.Decide.{dec_le, dec_lt}
use Rattle.ring.specs.Ring.{capacity}
use Rattle.wire.specs.Datagram.{Message, PROBE}
use Rattle.receiving.specs.Receiving.{Receiving, low_of, ack_position, ack_credit}
use Rattle.receiving.specs.AckLaws.{low_room, ack_says}
use Rattle.receiving.proofs.NetworkLaws.{past_end}
use Rattle.sending.specs.Sending.{Probed, never, tick, Sending}
use Rattle.sending.specs.Giving as giving
use Rattle.sending.specs.Acking as acking
use Rattle.sending.specs.Steps.{send_of}
use Rattle.sending.specs.Buffers.{Orderly}
use Rattle.sending.specs.CallLaws.{In, here, ack_keeps, given_is, finished_is, tick_keeps, limit_ack}
use Rattle.sending.specs.TickLaws.{Waits, waits_send, ProbeSent, probe_first, probe_again, probe_waits}
use Rattle.sending.specs.PastLaws.{probe_past}
use Rattle.end.specs.End.{End, clock_of, ack_of, sent_of}
use Rattle.end.specs.EndLaws.{Accepts, accepts_data, accepts_ack, accepts_probe}
use Rattle.network.specs.World.{Site}
use Rattle.network.specs.Truth.{Pair}
use Rattle.counting.specs.Turns.{Comes, Turns}
use Rattle.counting.specs.TimerLaws.{Beat, beats, rests, Timer, Held, timer_tries, held_at}
use Rattle.fairness.specs.Timed.{Plan, Side, other, interval_of, end_at}
use Rattle.fairness.specs.Networks.{is_ack, is_probe, sends, Arrives, Going}
use Rattle.fairness.specs.TimedLaws.{ready_at}
use Rattle.fairness.specs.SideLaws.{Moves, stays, acks, given, closed, moves_orderly, moves_limit}
use Rattle.fairness.specs.StateLaws.{work, sent_is, ticks_at, works_at, now_at, interval_at, stays_ready, orderly_at, past_at, limit_up, ready_next, allowed_at, grant_at, grant_up}
use Rattle.fairness.specs.OldestLaws.{in_left, sends_it, sends_one}
use Rattle.fairness.proofs.TakenLaws.{pair_at, ready_pair, in_time}
use Rattle.fairness.proofs.AnswerLaws.{answers}
use Rattle.fairness.proofs.SegmentLaws.{interval_some, took_ack}

-- the last PROBE, where there was one, was at a
pub data Probes (a : ℕ) : Probed → Type 0 where
  none_yet : Probes a never
  last_at : Probes a (tick a)

-- bytes wait, and there is no room beyond l
pub record Waiting (l : ℕ) (a : ℕ) (s : Sending) : Type 0 where
  pub waits : Waits s
  pub limit : s.limit ≡ l
  pub probes : Probes a s.probed

pub data StillWaiting (l a : ℕ) (s : Sending) : Type 0 where
  waiting : Waiting l a s → StillWaiting l a s
  raised : l < s.limit → StillWaiting l a s

ack_nothing : (s : Sending) (p c : ℕ) → s.kept ≡ [] → (acking.ack_of s p c).kept ≡ []
unfolding acking.ack_of acking.left_of
ack_nothing s p c e = rw e

waiting_ack : {l a : ℕ} (s : Sending) (p c : ℕ) → Orderly s → StillWaiting l a s → StillWaiting l a (acking.ack_of s p c)
waiting_ack s p c o (raised h) = raised (omega (arith, limit_ack s p c))
waiting_ack {l} {a} s p c o (waiting k) = go (dec_lt s.limit (p + c))
  where
    go : Dec (s.limit < p + c) → StillWaiting l a (acking.ack_of s p c)
    go (yes h) = raised (omega (arith, (ack_keeps s p c o).limit, k.limit))
    go (no h) =
        let r = ack_keeps s p c o in
        waiting (record {
          waits = record { bytes = omega (arith, r.given, r.next, k.waits.bytes); nothing = ack_nothing s p c k.waits.nothing; full = omega (arith, r.limit, r.next, k.waits.full) };
          limit = omega (arith, r.limit, k.limit);
          probes = rw (r.same (omega arith)) k.probes;
        })

pub moves_waiting : {l a : ℕ} {s t : Sending} → Moves s t → Orderly s → StillWaiting l a s → StillWaiting l a t
moves_waiting stays o k = k
moves_waiting (acks {t} m p c h) o k = waiting_ack t p c (moves_orderly m o) (moves_waiting m o k)
moves_waiting {l} {a} (given {t} m bs) o k = go (moves_waiting m o k)
  where
    go : StillWaiting l a t → StillWaiting l a (giving.give_of t bs)
    go (raised h) = raised (omega (arith, (given_is t bs).limit))
    go (waiting q) =
        let r = given_is t bs in
        waiting (record {
          waits = record { bytes = omega (arith, r.given, r.next, q.waits.bytes); nothing = r.kept ∙ q.waits.nothing; full = omega (arith, r.limit, r.next, q.waits.full) };
          limit = r.limit ∙ q.limit;
          probes = rw r.probed q.probes;
        })
moves_waiting {l} {a} (closed {t} m) o k = go (moves_waiting m o k)
  where
    go : StillWaiting l a t → StillWaiting l a (giving.finish_of t)
    go (raised h) = raised (omega (arith, (finished_is t).limit))
    go (waiting q) =
        let r = finished_is t in
        waiting (record {
          waits = record { bytes = omega (arith, r.given, r.next, q.waits.bytes); nothing = r.kept ∙ q.waits.nothing; full = omega (arith, r.limit, r.next, q.waits.full) };
          limit = r.limit ∙ q.limit;
          probes = rw r.probed q.probes;
        })

-- ONE TICK: a PROBE leaves, or R ticks have not yet gone since the last one
data EndProbes (e : End) (l a : ℕ) (t : Sending) : Type 0 where
  end_probes : {p : ℕ} → In (PROBE p) (sent_of e) → Waiting l (clock_of e) t → EndProbes e l a t
  end_rests : clock_of e - a < e.interval → Waiting l a t → EndProbes e l a t

probe_leaves : (e : End) (l a : ℕ) → Waiting l a e.sending → ProbeSent (work e) e.sending → (work e).now ≡ clock_of e → EndProbes e l a (send_of (work e) e.sending).side
probe_leaves e l a k q n =
    let i : In (PROBE e.sending.next) (send_of (work e) e.sending).sent = rw q.sent here in
    end_probes {p = e.sending.next} (rw (sent_is e) (in_left (ack_of e) i))
    (record { waits = waits_send (work e) e.sending k.waits; limit = (tick_keeps (work e) e.sending).limit ∙ k.limit; probes = rw (q.probed, n) last_at })

end_turn : (e : End) (l a : ℕ) → Waiting l a e.sending → 0 < (work e).allowed → EndProbes e l a (send_of (work e) e.sending).side
unfolding work
end_turn e l a k p = go e.sending.probed refl k.probes
  where
    go : (q : Probed) → e.sending.probed ≡ q → Probes a q → EndProbes e l a (send_of (work e) e.sending).side
    go never z none_yet = probe_leaves e l a k (probe_first (work e) e.sending k.waits p z) refl
    go (tick n) z last_at = due (dec_le e.interval (clock_of e - a))
      where
        due : Dec (e.interval ≤ clock_of e - a) → EndProbes e l a (send_of (work e) e.sending).side
        due (yes h) = probe_leaves e l a k (probe_again (work e) e.sending a k.waits p z h) refl
        due (no h) =
            let q = probe_waits (work e) e.sending a k.waits z (omega arith) in
            end_rests (omega arith) (record { waits = waits_send (work e) e.sending k.waits; limit = (tick_keeps (work e) e.sending).limit ∙ k.limit; probes = rw q.probed last_at })

waiting_ready : (σ : Plan) (d : Side) (l a n : ℕ) → Waiting l a (end_at σ d n).sending → (end_at σ d (suc n)).sending.limit < suc l → Waiting l a (ready_at σ d n).end.sending
waiting_ready σ d l a n k h = go (moves_waiting (works_at σ d n).sending (orderly_at σ d n) (waiting k))
  where
    go : StillWaiting l a (ready_at σ d n).end.sending → Waiting l a (ready_at σ d n).end.sending
    go (waiting q) = q
    go (raised q) = absurd (omega (arith, (ready_next σ d n).limit))

-- A TIMER
abbrev pub WaitsAt : Plan → Side → ℕ → ℕ → ℕ → Type 0
WaitsAt σ d l a n = Waiting l a (end_at σ d n).sending × (a ≤ n)

pub probe_timer : (σ : Plan) (d : Side) (l T : ℕ) → Going σ T → Timer (sends σ d is_probe) (λ n. (end_at σ d n).sending.limit) (WaitsAt σ d l) (interval_of d σ) (suc l) T
unfolding is_probe
probe_timer σ d l T going = record {
  up = λ n m h. limit_up σ d n m h;
  past = λ a n h k. k.1;
  beat = λ a n h k less.
      let q : EndProbes (ready_at σ d n).end l a (end_at σ d (suc n)).sending =
      rw (ticks_at σ d n).sending (end_turn (ready_at σ d n).end l a (waiting_ready σ d l a n k.0 less) (allowed_at σ d n T going h)) in
      go a n h k.1 q;
}
  where
    go : (a n : ℕ) → n < T → a ≤ n → EndProbes (ready_at σ d n).end l a (end_at σ d (suc n)).sending → Beat (sends σ d is_probe) (WaitsAt σ d l) (interval_of d σ) a n
    go a n h p (end_probes i q) = beats (sends_it σ d is_probe n i refl) (rw (now_at σ d n (omega (arith, going.ticks))) at q, omega arith)
    go a n h p (end_rests i q) = rests (omega (arith, now_at σ d n (omega (arith, going.ticks)), (stays_ready σ d n).interval, interval_at σ d n)) (q, omega arith)

-- A PROBE COMES: an ACK is due
probe_taken : {q : ℕ} {e f : End} {m : Message} → is_probe m ≡ true → Accepts e q m f → f.due ≡ 1
unfolding is_probe
probe_taken z (accepts_data r k) = k.due_is
probe_taken z (accepts_ack r k) = let x : ◌≡◌ {A = ℕ} 0 1 = cc in absurd (omega arith)
probe_taken z (accepts_probe k) = k.due_is

probe_comes : (σ : Plan) (d : Side) (b t T k j : ℕ) → Going σ T → b ≤ grant_at σ (other d) t → t ≤ k → k < j → j ≤ k + 32 → j < T → Arrives σ d is_probe k j
    → Comes (sends σ (other d) is_ack) (grant_at σ (other d)) b k j
probe_comes σ d b t T k j g more from lt near last v =
    let u = in_time σ d k j v.place v.entry g.epoch v.sent lt near v.stands v.comes in
    record {
      tick = u.tick;
      after = u.after;
      by = u.by;
      there = omega (arith, grant_up σ (other d) t (suc u.tick) (omega (arith, u.after)));
      answered = omega (arith, answers σ (other d) u.tick T g (omega (arith, u.by)) (u.upto.due (probe_taken v.is u.accepts)));
    }

-- THE ACK COMES BACK
credit_told : (σ : Plan) (d : Side) (b T k j : ℕ) → Going σ T → k < j → j ≤ k + 32 → Arrives σ (other d) is_ack k j → b ≤ grant_at σ (other d) (suc k) → b ≤ (end_at σ d (suc j)).sending.limit
unfolding grant_at
credit_told σ d b T k j g lt near v h =
    let u = took_ack σ d k j g.epoch lt near v in
    let i : ℕ = u.tick in
    let p : ℕ = ack_position (end_at σ (other d) (suc k)).receiving in
    let c : ℕ = ack_credit (end_at σ (other d) (suc k)).receiving in
    let ord = moves_orderly u.from (orderly_at σ d i) in
    let r = (ack_keeps u.before p c ord).limit in
    let m = moves_limit u.upto in
    omega (arith, (ready_next σ d i).limit, limit_up σ d (suc i) (suc j) (omega (arith, u.by)))

-- BY TURNS
pub within_grant : (σ : Plan) (d : Side) (n : ℕ) → σ.epoch < 2 ^ 64 → (end_at σ d n).sending.limit ≤ grant_at σ (other d) n
unfolding grant_at
within_grant σ d n e = (pair_at σ d n e).out.limit

pub credit_turns : (σ : Plan) (d : Side) (l t T D : ℕ) → Going σ T → D ≤ 32 → Held (WaitsAt σ d l) t → suc l ≤ grant_at σ (other d) t
    → Turns (sends σ d is_probe) (sends σ (other d) is_ack) (grant_at σ (other d)) (λ n. (end_at σ d n).sending.limit) (Arrives σ d is_probe) (Arrives σ (other d) is_ack) (interval_of d σ) D t (suc l) T
credit_turns σ d l t T D g h o more = record {
  here_up = λ n m i k. grant_up σ (other d) n m i;
  known_up = λ n m i k. limit_up σ d n m i;
  known_true = λ n i. within_grant σ d n g.epoch;
  tries = λ n i k m.
      let v = probe_timer σ d l T g in
      let held = held_at v t n o i (omega arith) (omega (arith, limit_up σ d n (n + interval_of d σ) (omega arith))) in
      timer_tries v (interval_some σ d T g) held.last n held.is k m;
  once = λ n. sends_one σ d is_probe n;
  answers_once = λ n. sends_one σ (other d) is_ack n;
  comes = λ k j from lt near last v less. probe_comes σ d (suc l) t T k j g more from lt (omega arith) last v;
  told = λ k j from lt near last v enough. credit_told σ d (suc l) T k j g lt (omega arith) v enough;
}

-- THE HOST TAKES a byte in tick t, while bytes wait at the peer: then more is granted than the peer knows of
waits_grant : {epoch : ℕ} {x y : Site} → Pair epoch x y → x.end.sending.next < x.end.sending.given
    → ack_position y.end.receiving + ack_credit y.end.receiving ≡ y.end.receiving.taken + capacity
waits_grant {x = x} {y} v h =
    let r : Receiving = y.end.receiving in
    let s = ack_says r in
    let room = low_room r in
    let f = v.out in
    let g = length-take x.end.sending.next x.given in
    go (dec_lt (low_of r) (ack_position r))
  where
    go : Dec (low_of y.end.receiving < ack_position y.end.receiving) → ack_position y.end.receiving + ack_credit y.end.receiving ≡ y.end.receiving.taken + capacity
    go (yes l) = let q = past_end v.out.receiver l in absurd (omega (arith, q.finished, v.out.sender.given))
    go (no l) = omega (arith, ack_says y.end.receiving, low_room y.end.receiving, v.out.receiver.size)

grant_taken : (r : Receiving) → r.taken + capacity ≤ ack_position r + ack_credit r
grant_taken r = omega (arith, ack_says r)

pub takes_grants : (σ : Plan) (d : Side) (t : ℕ) → σ.epoch < 2 ^ 64 → Waits (end_at σ d (suc t)).sending → (end_at σ (other d) t).receiving.taken < (end_at σ (other d) (suc t)).receiving.taken
    → suc (end_at σ d (suc t)).sending.limit ≤ grant_at σ (other d) (suc t)
unfolding grant_at
takes_grants σ d t e w h =
    let v = ready_pair σ d t e in
    let n = ready_next σ d t in
    let k = (tick_keeps (work (ready_at σ d t).end) (ready_at σ d t).end.sending).given in
    let q : (end_at σ d (suc t)).sending.given ≡ (ready_at σ d t).end.sending.given = ap (λ (s : Sending). s.given) (ticks_at σ d t).sending ∙ k in
    let z = waits_grant v (omega (arith, n.next, w.bytes)) in
    omega (arith, n.limit, v.out.limit, grant_taken (end_at σ (other d) (suc t)).receiving)

-- an end that waits
pub waits_held : (σ : Plan) (d : Side) (t T : ℕ) → Going σ T → t ≤ T → Waits (end_at σ d t).sending → Held (WaitsAt σ d (end_at σ d t).sending.limit) t
waits_held σ d t T g l w = go (end_at σ d t).sending.probed refl
  where
    go : (q : Probed) → (end_at σ d t).sending.probed ≡ q → Held (WaitsAt σ d (end_at σ d t).sending.limit) t
    go never z = record { last = 0; is = (record { waits = w; limit = refl; probes = rw z none_yet }, omega arith) }
    go (tick n) z = record { last = n; is = (record { waits = w; limit = refl; probes = rw z last_at }, probe_past (past_at σ d t (omega (arith, g.ticks))) z) }
