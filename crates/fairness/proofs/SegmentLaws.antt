-- A segment that is the oldest kept goes by turns. Assumes nothing.
use Rattle.std.proofs.Common.{◌≡◌, true, ℕ, suc, ◌+◌, ◌^◌, ◌≤◌, ◌<◌, eqb, length, ◌∙◌, arith, eqb-true}
use Rattle.std.proofs.Math.Decide.{dec_le}
use Rattle.wire.specs.Datagram.{Message, DATA, ACK, PROBE}
use Rattle.receiving.specs.Receiving.{ack_position, ack_credit}
use Rattle.sending.specs.Sending.{Segment, Sending}
use Rattle.sending.specs.Acking as acking
use Rattle.sending.specs.Buffers.{Orderly}
use Rattle.sending.specs.OrderLaws.{orderly_ack}
use Rattle.segments.specs.StepLaws.{and_left, and_right}
use Rattle.sending.specs.CallLaws.{acked_ack, acked_reached}
use Rattle.sending.specs.TickLaws.{last_has, has_in, Covers, covers}
use Rattle.end.specs.End.{End}
use Rattle.end.specs.EndLaws.{Accepts, accepts_data, accepts_ack, accepts_probe}
use Rattle.network.specs.World.{Site}
use Rattle.network.specs.Truth.{Forth, Pair}
use Rattle.counting.specs.Turns.{Comes, Turns}
use Rattle.counting.specs.TimerLaws.{timer_tries, held_at}
use Rattle.fairness.specs.Timed.{Plan, Side, the_near, the_far, other, interval_of, end_at}
use Rattle.fairness.specs.Networks.{is_segment, is_ack, sends, Arrives, Going}
use Rattle.fairness.specs.TimedLaws.{twice, ready_at}
use Rattle.fairness.specs.SideLaws.{Moves, moves_orderly, moves_acked, fills_position}
use Rattle.fairness.specs.StateLaws.{ticks_at, orderly_at, acked_up, ready_next, position_at, position_up}
use Rattle.fairness.specs.OldestLaws.{sends_one, Still, still, dropped, moves_still, Holds, oldest_timer}
use Rattle.fairness.proofs.TakenLaws.{pair_at, honest, sent_stays, in_time}
use Rattle.fairness.proofs.AnswerLaws.{data_reaches, answers, ack_said}

pub interval_some : (σ : Plan) (d : Side) (T : ℕ) → Going σ T → 1 ≤ interval_of d σ
interval_some σ the_near T g = g.near
interval_some σ the_far T g = g.far

segment_is : {a b : ℕ} (m : Message) → is_segment a b m ≡ true → Covers a b m
unfolding is_segment
segment_is {a} {b} (DATA p bs e) t =
    let q : p ≡ a = eqb-true p a (and_left _ _ t) in
    let r : p + length bs + e ≡ b = eqb-true _ _ (and_right (eqb p a) _ t) in
    rw (← q) (covers {bs = bs} {end = e} r)
segment_is (ACK p c) t = let z : ◌≡◌ {A = ℕ} 0 1 = cc in absurd (omega arith)
segment_is (PROBE p) t = let z : ◌≡◌ {A = ℕ} 0 1 = cc in absurd (omega arith)

-- IT COMES: all below its end is there, and an ACK is due
record InHand (b : ℕ) (f : End) : Type 0 where
  there : b ≤ ack_position f.receiving
  due : f.due ≡ 1

segment_taken : {epoch a b p : ℕ} {x y : Site} {m : Message} {f : End} → Pair epoch x y → Forth y.given y.finished y.end.sending.limit y.end.sending.next m → Covers a b m
    → a ≤ y.end.sending.acked
    → Accepts x.end p m f
    → InHand b f
segment_taken {a = a} {b} {x = x} {y} v h (covers {bs} {end} q) l (accepts_data z k) = record {
  there = rw (k.receiving, ← q) (data_reaches v.back a bs end h l);
  due = k.due_is;
}

segment_comes : (σ : Plan) (d : Side) (a b t T k j : ℕ) → Going σ T → Holds σ d a b t → t ≤ k → k < j → j ≤ k + 32 → j < T → Arrives σ d (is_segment a b) k j
    → Comes (sends σ (other d) is_ack) (position_at σ (other d)) b k j
unfolding position_at
segment_comes σ d a b t T k j g o from lt near last v =
    let e = v.entry in
    let u = in_time σ d k j v.place e g.epoch v.sent lt near v.stands v.comes in
    let i : ℕ = u.tick in
    let f : Forth _ _ _ _ e.message = (honest u.pair (sent_stays σ d k i v.sent u.after)).forth in
    let l : a ≤ (end_at σ d i).sending.acked = omega (arith, o.is.acked, acked_up σ d t i (omega (arith, u.after))) in
    let h = segment_taken u.pair f (segment_is e.message v.is) l u.accepts in
    let there' : b ≤ ack_position (ready_at σ (other d) i).end.receiving = omega (arith, h.there, fills_position u.upto.receiving) in
    record {
      tick = i;
      after = u.after;
      by = u.by;
      there = rw (ticks_at σ (other d) i).receiving there';
      answered = omega (arith, answers σ (other d) i T g (omega (arith, u.by)) (u.upto.due h.due));
    }

-- AN ACK COMES BACK
pub record TookAck (σ : Plan) (d : Side) (p c k j : ℕ) : Type 0 where
  pub tick : ℕ
  pub after : k < tick
  pub by : tick ≤ j
  pub before : Sending
  pub from : Moves (end_at σ d tick).sending before
  pub upto : Moves (acking.ack_of before p c) (ready_at σ d tick).end.sending

ack_taken : {p q c : ℕ} {e f : End} {m : Message} → m ≡ ACK p c → Accepts e q m f → f.sending ≡ acking.ack_of e.sending p c
ack_taken z (accepts_data r k) = let x : ◌≡◌ {A = ℕ} 0 1 = cc in absurd (omega arith)
ack_taken z (accepts_probe k) = let x : ◌≡◌ {A = ℕ} 0 1 = cc in absurd (omega arith)
ack_taken {p} {c = c} {e} z (accepts_ack {p = p'} {c = c'} r k) = let x : p' ≡ p = cc in let y : c' ≡ c = cc in k.sending ∙ rw (x, y)

pub took_ack : (σ : Plan) (d : Side) (k j : ℕ) → σ.epoch < 2 ^ 64 → k < j → j ≤ k + 32 → Arrives σ (other d) is_ack k j
    → TookAck σ d (ack_position (end_at σ (other d) (suc k)).receiving) (ack_credit (end_at σ (other d) (suc k)).receiving) k j
took_ack σ d k j h lt near v =
    let e = v.entry in
    let u = in_time σ (other d) k j v.place e h v.sent lt near v.stands v.comes in
    let s : u.then.end.sending ≡ acking.ack_of u.before.end.sending _ _ = ack_taken (ack_said σ (other d) k h v.sent v.is) u.accepts in
    record {
      tick = u.tick;
      after = u.after;
      by = u.by;
      before = u.before.end.sending;
      from = rw (twice d) at u.from.sending;
      upto = rw s at (rw (twice d) at u.upto.sending);
    }

reached : {a : ℕ} {g : Segment} {s : Sending} (p c : ℕ) → Orderly s → Still a g s → g.to ≤ p → g.to ≤ (acking.ack_of s p c).acked
reached {s = s} p c o (dropped h) l = omega (arith, acked_ack s p c o)
reached {s = s} p c o (still k) l = acked_reached s p c o (has_in (last_has k.kept)) l

segment_told : (σ : Plan) (d : Side) (a b t T k j : ℕ) → Going σ T → Holds σ d a b t → t ≤ k → k < j → j ≤ k + 32 → j < T → Arrives σ (other d) is_ack k j
    → b ≤ position_at σ (other d) (suc k)
    → b ≤ (end_at σ d (suc j)).sending.acked
unfolding position_at
segment_told σ d a b t T k j g o from lt near last v h =
    let u = took_ack σ d k j g.epoch lt near v in
    go u (dec_le b (end_at σ d u.tick).sending.acked)
  where
    go : (u : TookAck σ d (ack_position (end_at σ (other d) (suc k)).receiving) (ack_credit (end_at σ (other d) (suc k)).receiving) k j) → Dec (b ≤ (end_at σ d u.tick).sending.acked)
        → b ≤ (end_at σ d (suc j)).sending.acked
    go u (yes l) = omega (arith, acked_up σ d u.tick (suc j) (omega (arith, u.by)))
    go u (no l) =
        let i : ℕ = u.tick in
        let held : Holds σ d a b i = held_at (oldest_timer σ d a b T g) t i o (omega (arith, u.after)) (omega (arith, u.by)) (omega arith) in
        let ord = moves_orderly u.from (orderly_at σ d i) in
        let s = moves_still u.from (orderly_at σ d i) (still held.is) in
        let r = reached (ack_position (end_at σ (other d) (suc k)).receiving) (ack_credit (end_at σ (other d) (suc k)).receiving) ord s h in
        let m = moves_acked u.upto (orderly_ack _ _ _ ord) in
        omega (arith, (ready_next σ d i).acked, acked_up σ d (suc i) (suc j) (omega (arith, u.by)))

-- what is acknowledged has come
pub behind : (σ : Plan) (d : Side) (n : ℕ) → σ.epoch < 2 ^ 64 → (end_at σ d n).sending.acked ≤ position_at σ (other d) n
unfolding position_at
behind σ d n e = (pair_at σ d n e).out.sender.behind

-- BY TURNS
pub segment_turns : (σ : Plan) (d : Side) (a b t T D : ℕ) → Going σ T → D ≤ 32 → Holds σ d a b t
    → Turns (sends σ d (is_segment a b)) (sends σ (other d) is_ack) (position_at σ (other d)) (λ n. (end_at σ d n).sending.acked) (Arrives σ d (is_segment a b)) (Arrives σ (other d) is_ack) (interval_of d σ) D t b T
segment_turns σ d a b t T D g h o = record {
  here_up = λ n m l k. position_up σ (other d) n m l;
  known_up = λ n m l k. acked_up σ d n m l;
  known_true = λ n l. behind σ d n g.epoch;
  tries = λ n l k m.
      let v = oldest_timer σ d a b T g in
      let held : Holds σ d a b n = held_at v t n o l (omega arith) (omega (arith, acked_up σ d n (n + interval_of d σ) (omega arith))) in
      timer_tries v (interval_some σ d T g) held.last n held.is k m;
  once = λ n. sends_one σ d (is_segment a b) n;
  answers_once = λ n. sends_one σ (other d) is_ack n;
  comes = λ k j from lt near last v less. segment_comes σ d a b t T k j g o from lt (omega arith) last v;
  told = λ k j from lt near last v more. segment_told σ d a b t T k j g o from lt (omega arith) last v more;
}
