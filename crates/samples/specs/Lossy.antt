-- 03 §2 and §3: a run, computed, on a network that is (2, 1)-fair and loses as much as that allows; R is 1. Of the segment, one byte, the first, the third
-- and the fifth sending are lost, and the first ACK is. Its bound is 8 ticks; it is dropped in the sixth, R + L - 1 before.
use Rattle.std.specs.Prelude.{◌≡◌, refl, Bool, true, false, [], ◌∷◌, ℕ, zero, suc, ◌+◌, ◌≤◌, ◌<◌, eqb, ltb}
use Rattle.std.proofs.Common.{arith}
use Rattle.laws.specs.Choice.{if, if_case}
use Rattle.wire.specs.Datagram.{ceiling, Message, DATA, ACK}
use Rattle.receiving.specs.Receiving as receiving
use Rattle.network.specs.World.{handed, gives, takes}
use Rattle.fairness.specs.Timed.{Plan, Side, the_near, the_far, end_at}
use Rattle.fairness.specs.Networks.{is_segment, is_ack, is_probe, any_of, sends, first, Arrives, FairNetwork, Going, Takers, GivenAtStart}
use Rattle.counting.specs.Count.{count, Fair}
use Rattle.counting.specs.CountLaws.{fair_none, fair_one, fair_two}
use Rattle.counting.specs.Bounds.{drop_ticks}
use Rattle.sending.specs.CallLaws.{here}
use Rattle.sending.specs.TickLaws.{Last}
use Rattle.samples.specs.Computing.{timed}

unfoldable pub lossy : Plan
lossy = record {
  epoch = 7;
  near = 1;
  far = 1;
  round = λ n. record {
    near_arrivals = if (eqb n 5) (handed 0 ∷ []) [];
    far_arrivals = if (eqb n 2) (handed 0 ∷ []) (if (eqb n 4) (handed 0 ∷ []) []);
    near_calls = if (eqb n 0) (gives (42 ∷ []) ∷ []) [];
    far_calls = takes 1 ∷ [];
  };
}

-- THE SEGMENT is sent in ticks 0 to 4
message : Message
message = DATA 0 (42 ∷ []) 0

once : (Message → Bool) → ℕ → ℕ
once f k = if (ltb k 5) (if (f message) 1 0) 0

near_first : (f : Message → Bool) → count (sends lossy the_near f) 0 1 ≡ count (once f) 0 1
unfolding timed count sends any_of lossy message once
near_first f = refl

near_between : (f : Message → Bool) → count (sends lossy the_near f) 2 1 ≡ count (once f) 2 1
unfolding timed count sends any_of lossy message once
near_between f = refl

near_last : (f : Message → Bool) → count (sends lossy the_near f) 4 4 ≡ count (once f) 4 4
unfolding timed count sends any_of lossy message once
near_last f = refl

near_all : (f : Message → Bool) → count (sends lossy the_near f) 0 8 ≡ count (once f) 0 8
unfolding timed count sends any_of lossy message once
near_all f = refl

once_first : (f : Message → Bool) → count (once f) 0 1 ≤ 1
unfolding count once
once_first f = if_case (λ (b : ℕ). 0 + b ≤ 1) (f message) (λ e. omega arith) (λ e. omega arith)

once_between : (f : Message → Bool) → count (once f) 2 1 ≤ 1
unfolding count once
once_between f = if_case (λ (b : ℕ). 0 + b ≤ 1) (f message) (λ e. omega arith) (λ e. omega arith)

once_last : (f : Message → Bool) → count (once f) 4 4 ≤ 1
unfolding count once
once_last f = if_case (λ (b : ℕ). 0 + b + 0 + 0 + 0 ≤ 1) (f message) (λ e. omega arith) (λ e. omega arith)

once_none : (f : Message → Bool) → f message ≡ false → count (once f) 0 8 ≡ 0
unfolding count once
once_none f e = rw e

-- of its five sendings the second and the fourth arrive
second : (f : Message → Bool) → f message ≡ true → Arrives lossy the_near f 1 2
unfolding timed lossy message
second f e = record { entry = record { tick = 2; number = 2; message = message }; sent = here; is = e; place = 0; stands = first; comes = here }

fourth : (f : Message → Bool) → f message ≡ true → Arrives lossy the_near f 3 4
unfolding timed lossy message
fourth f e = record { entry = record { tick = 4; number = 4; message = message }; sent = here; is = e; place = 0; stands = first; comes = here }

near_fair : (f : Message → Bool) → Fair (sends lossy the_near f) (Arrives lossy the_near f) 2 1 8
near_fair f = go (f message) refl
  where
    go : (b : Bool) → f message ≡ b → Fair (sends lossy the_near f) (Arrives lossy the_near f) 2 1 8
    go false e = fair_none (omega (arith, near_all f, once_none f e))
    go true e =
        fair_two 1 2 3 4 (omega arith) (omega arith) (second f e) (omega arith) (omega arith) (fourth f e) (omega (arith, near_first f, once_first f)) (omega (arith, near_between f, once_between f))
        (omega (arith, near_last f, once_last f))

-- THE ACK of tick 2 is lost, that of tick 4 arrives
far_first : count (sends lossy the_far is_ack) 0 4 ≡ 1
unfolding timed count sends any_of lossy is_ack
far_first = refl

far_last : count (sends lossy the_far is_ack) 5 3 ≡ 0
unfolding timed count sends any_of lossy is_ack
far_last = refl

far_arrives : Arrives lossy the_far is_ack 4 5
unfolding timed lossy is_ack
far_arrives = record { entry = record { tick = 5; number = 2; message = ACK 1 65536 }; sent = here; is = refl; place = 0; stands = first; comes = here }

-- far sends nothing else
far_segments : (a b : ℕ) → count (sends lossy the_far (is_segment a b)) 0 8 ≡ 0
unfolding timed count sends any_of lossy is_segment
far_segments a b = refl

far_probes : count (sends lossy the_far is_probe) 0 8 ≡ 0
unfolding timed count sends any_of lossy is_probe
far_probes = refl

-- THE NETWORK IS FAIR, for L = 2 and D = 1
pub lossy_fair : FairNetwork lossy 2 1 8
lossy_fair = record {
  some = omega arith;
  least = omega arith;
  most = omega arith;
  segments = λ d a b. segments d a b;
  acks = λ d. acks d;
  probes = λ d. probes d;
}
  where
    segments : (d : Side) (a b : ℕ) → Fair (sends lossy d (is_segment a b)) (Arrives lossy d (is_segment a b)) 2 1 8
    segments the_near a b = near_fair (is_segment a b)
    segments the_far a b = fair_none (omega (arith, far_segments a b))

    acks : (d : Side) → Fair (sends lossy d is_ack) (Arrives lossy d is_ack) 2 1 8
    acks the_near = near_fair is_ack
    acks the_far = fair_one 4 5 (omega arith) (omega arith) far_arrives (omega (arith, far_first)) (omega (arith, far_last))

    probes : (d : Side) → Fair (sends lossy d is_probe) (Arrives lossy d is_probe) 2 1 8
    probes the_near = near_fair is_probe
    probes the_far = fair_none (omega (arith, far_probes))

-- and what the theorems ask besides
numbers : (d : Side) → (end_at lossy d 8).number + 1 < ceiling
unfolding timed lossy
numbers the_near = omega arith
numbers the_far = omega arith

positions : (d : Side) → (end_at lossy d 8).sending.next < ceiling
unfolding timed lossy
positions the_near = omega arith
positions the_far = omega arith

pub lossy_going : Going lossy 8
unfolding timed lossy
lossy_going = record { epoch = omega arith; near = omega arith; far = omega arith; ticks = omega arith; numbers = numbers; positions = positions }

-- the hosts take what is there in every tick, and near's gives all at the start
near_taken : (n : ℕ) → n < 8 → receiving.low_of (end_at lossy the_near (suc n)).receiving ≡ (end_at lossy the_near (suc n)).receiving.taken
unfolding timed lossy
near_taken zero h = refl
near_taken (suc zero) h = refl
near_taken (suc (suc zero)) h = refl
near_taken (suc (suc (suc zero))) h = refl
near_taken (suc (suc (suc (suc zero)))) h = refl
near_taken (suc (suc (suc (suc (suc zero))))) h = refl
near_taken (suc (suc (suc (suc (suc (suc zero)))))) h = refl
near_taken (suc (suc (suc (suc (suc (suc (suc zero))))))) h = refl
near_taken (suc (suc (suc (suc (suc (suc (suc (suc n)))))))) h = absurd (omega arith)

far_taken : (n : ℕ) → n < 8 → receiving.low_of (end_at lossy the_far (suc n)).receiving ≡ (end_at lossy the_far (suc n)).receiving.taken
unfolding timed lossy
far_taken zero h = refl
far_taken (suc zero) h = refl
far_taken (suc (suc zero)) h = refl
far_taken (suc (suc (suc zero))) h = refl
far_taken (suc (suc (suc (suc zero)))) h = refl
far_taken (suc (suc (suc (suc (suc zero))))) h = refl
far_taken (suc (suc (suc (suc (suc (suc zero)))))) h = refl
far_taken (suc (suc (suc (suc (suc (suc (suc zero))))))) h = refl
far_taken (suc (suc (suc (suc (suc (suc (suc (suc n)))))))) h = absurd (omega arith)

pub lossy_takers : Takers lossy 8
lossy_takers = record { all = λ d. taken d }
  where
    taken : (d : Side) (n : ℕ) → n < 8 → receiving.low_of (end_at lossy d (suc n)).receiving ≡ (end_at lossy d (suc n)).receiving.taken
    taken the_near = near_taken
    taken the_far = far_taken

record Settled (n : ℕ) : Type 0 where
  given : (end_at lossy the_near (suc n)).sending.given ≡ (end_at lossy the_near 1).sending.given
  closed : (end_at lossy the_near (suc n)).sending.closed ≡ (end_at lossy the_near 1).sending.closed

settled : (n : ℕ) → n < 8 → Settled n
unfolding timed lossy
settled zero h = record { given = refl; closed = refl }
settled (suc zero) h = record { given = refl; closed = refl }
settled (suc (suc zero)) h = record { given = refl; closed = refl }
settled (suc (suc (suc zero))) h = record { given = refl; closed = refl }
settled (suc (suc (suc (suc zero)))) h = record { given = refl; closed = refl }
settled (suc (suc (suc (suc (suc zero))))) h = record { given = refl; closed = refl }
settled (suc (suc (suc (suc (suc (suc zero)))))) h = record { given = refl; closed = refl }
settled (suc (suc (suc (suc (suc (suc (suc zero))))))) h = record { given = refl; closed = refl }
settled (suc (suc (suc (suc (suc (suc (suc (suc n)))))))) h = absurd (omega arith)

pub lossy_start : GivenAtStart lossy the_near 8
lossy_start = record { given = λ n. given n; closed = λ n. closed n }
  where
    given : (n : ℕ) → 1 ≤ n → n ≤ 8 → (end_at lossy the_near n).sending.given ≡ (end_at lossy the_near 1).sending.given
    given zero p h = absurd (omega arith)
    given (suc n) p h = (settled n h).given

    closed : (n : ℕ) → 1 ≤ n → n ≤ 8 → (end_at lossy the_near n).sending.closed ≡ (end_at lossy the_near 1).sending.closed
    closed zero p h = absurd (omega arith)
    closed (suc n) p h = (settled n h).closed

-- THE BOUND: from 1 on, 8. It is not dropped when 5 ticks are over, and it is when 6 are
pub lossy_oldest : Last (record { to = 1; at = 1 }) (end_at lossy the_near 1).sending.kept
unfolding timed lossy
lossy_oldest = record { newer = []; is = refl }

pub lossy_bound : 1 + drop_ticks 2 1 1 ≡ 8
lossy_bound = refl

pub lossy_late : (end_at lossy the_near 5).sending.acked ≡ 0
unfolding timed lossy
lossy_late = refl

pub lossy_dropped : (end_at lossy the_near 6).sending.acked ≡ 1
unfolding timed lossy
lossy_dropped = refl
