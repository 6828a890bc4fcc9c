-- What an accepted datagram does: a segment from acked on is in hand, each DATA and PROBE is answered in its tick, and an ACK is what its end would say. Assumes nothing.
use Rattle.std.proofs.Common.{◌≡◌, refl, true, ◌&&◌, List, [], ◌∷◌, ◌++◌, ℕ, zero, suc, ◌+◌, ◌^◌, ◌≤◌, ◌<◌, eqb, ltb, length, ⊎_elim, arith, length-take, eq-eqb, lt-ltb}
use Rattle.laws.specs.Choice.{if_case}
use Rattle.laws.specs.Split.{split}
use Rattle.ring.specs.Ring.{capacity}
use Rattle.wire.specs.Datagram.{Message, DATA, ACK}
use Rattle.receiving.specs.Receiving.{low_of, ack_position, ack_credit}
use Rattle.receiving.specs.Receiving as receiving
use Rattle.receiving.specs.AckLaws.{position_low, low_passes, position_passes}
use Rattle.receiving.proofs.ReceivingLaws.{grant_true}
use Rattle.sending.specs.Steps.{send_of}
use Rattle.sending.specs.True.{True, data_true, probe_true, Each, each_none, each_more}
use Rattle.sending.specs.TrueLaws.{send_true}
use Rattle.sending.specs.CallLaws.{In, here, there}
use Rattle.end.specs.End.{End, allowance_of, ack_of, sent_of}
use Rattle.network.specs.World.{Entry, leaving}
use Rattle.network.specs.Truth.{Source, Sink, Forth, forth, Flow}
use Rattle.sending.specs.NetworkLaws.{data_below}
use Rattle.receiving.proofs.NetworkLaws.{past_end}
use Rattle.fairness.specs.Timed.{Plan, Side, end_at}
use Rattle.fairness.specs.Networks.{is_ack, sent_in, sends, Going}
use Rattle.fairness.specs.TimedLaws.{ready_at}
use Rattle.fairness.specs.StateLaws.{work, sent_is, sent_in_lem, ticks_at, allowed_at}
use Rattle.fairness.specs.OldestLaws.{in_right, sends_it}
use Rattle.fairness.proofs.TakenLaws.{ready_pair}

-- A SEGMENT from acked on: when it is heard, all below its end has arrived
pub data_reaches : {a : Source} {b : Sink} → Flow a b → (p : ℕ) (bs : List ℕ) (e : ℕ) → Forth a.given a.finished a.side.limit a.side.next (DATA p bs e) → p ≤ a.side.acked
    → p + length bs + e ≤ ack_position (receiving.hear_of b.side p bs e)
data_reaches {a} {b} v p bs e (forth (data_true t) (data_below h)) l =
    let g = length-take a.side.next a.given in
    let low : p ≤ low_of b.side =
    ⊎_elim (λ x. let q = past_end v.receiver x in omega (arith, q.last, q.finished, t.inside)) (λ x. omega (arith, v.sender.behind)) (split (low_of b.side) (ack_position b.side)) in
    let room : p + length bs ≤ b.side.taken + capacity = grant_true v.receiver (p + length bs) (omega (arith, t.within, v.limit)) (omega (arith, t.inside)) in
    go e t.flag low room
  where
    go : (e : ℕ) → e ≤ 1 → p ≤ low_of b.side → p + length bs ≤ b.side.taken + capacity → p + length bs + e ≤ ack_position (receiving.hear_of b.side p bs e)
    go zero f low room = omega (arith, low_passes b.side p bs 0 v.receiver.size low room, position_low (receiving.hear_of b.side p bs 0))
    go (suc zero) f low room = position_passes b.side p bs v.receiver.size low room
    go (suc (suc n)) f low room = absurd (omega arith)

-- THE ACK leaves where one is due
ack_leaves : (e : End) → e.due ≡ 1 → 0 < allowance_of e → In (ACK (ack_position e.receiving) (ack_credit e.receiving)) (sent_of e)
unfolding ack_of
ack_leaves e d a =
    let q : ack_of e ≡ ACK (ack_position e.receiving) (ack_credit e.receiving) ∷ [] = rw (eq-eqb e.due 1 d, lt-ltb 0 (allowance_of e) a) in
    rw (sent_is e) (in_right (send_of (work e) e.sending).sent (rw q here))

allowed_some : (e : End) → 0 < (work e).allowed → 0 < allowance_of e
unfolding work
allowed_some e h = omega arith

pub answers : (σ : Plan) (d : Side) (n T : ℕ) → Going σ T → n < T → (ready_at σ d n).end.due ≡ 1 → sends σ d is_ack n ≡ 1
unfolding is_ack
answers σ d n T g l h = sends_it σ d is_ack n (ack_leaves (ready_at σ d n).end h (allowed_some _ (allowed_at σ d n T g l))) refl

-- AND SAYS what its end has
not_ack : {H : List ℕ} {closed limit : ℕ} {m : Message} → True H closed limit m → is_ack m ≡ true → ⊥
unfolding is_ack
not_ack (data_true t) e = let z : ◌≡◌ {A = ℕ} 0 1 = cc in omega arith
not_ack (probe_true t) e = let z : ◌≡◌ {A = ℕ} 0 1 = cc in omega arith

ack_after : {H : List ℕ} {closed limit : ℕ} {m : Message} {ms : List Message} (ks : List Message) → Each (True H closed limit) ms → In m (ms ++ ks) → is_ack m ≡ true → In m ks
ack_after ks each_none i e = i
ack_after ks (each_more t ts) here e = absurd (not_ack t e)
ack_after ks (each_more t ts) (there i) e = ack_after ks ts i e

ack_is : (e : End) {m : Message} → In m (ack_of e) → m ≡ ACK (ack_position e.receiving) (ack_credit e.receiving)
unfolding ack_of
ack_is e {m} = if_case (λ (ms : List Message). In m ms → m ≡ ACK (ack_position e.receiving) (ack_credit e.receiving)) (eqb e.due 1 && ltb 0 (allowance_of e)) (λ t i. only i) (λ t i. elim i [ ])
  where
    only : {k : Message} → In m (k ∷ []) → m ≡ k
    only here = refl
    only (there i) = elim i [ ]

leaving_message : (t n : ℕ) (ms : List Message) {d : Entry} → In d (leaving t n ms) → In d.message ms
unfolding leaving
leaving_message t n [] i = elim i [ ]
leaving_message t n (m ∷ ms) here = here
leaving_message t n (m ∷ ms) (there i) = there (leaving_message t n ms i)

-- an ACK that left in tick k says what its end has when that is over
pub ack_said : (σ : Plan) (d : Side) (k : ℕ) {e : Entry} → σ.epoch < 2 ^ 64 → In e (sent_in σ d k) → is_ack e.message ≡ true
    → e.message ≡ ACK (ack_position (end_at σ d (suc k)).receiving) (ack_credit (end_at σ d (suc k)).receiving)
ack_said σ d k {e} h i t =
    let x : End = (ready_at σ d k).end in
    let j : In e.message (sent_of x) = leaving_message _ _ (sent_of x) (rw (sent_in_lem σ d k) at i) in
    let l : In e.message (ack_of x) = ack_after (ack_of x) (send_true (work x) (ready_pair σ d k h).out.sender) (rw (sent_is x) at j) t in
    rw (ticks_at σ d k).receiving (ack_is x l)
