-- 03 §3, statement C: it arrives in time. Of every run in the document's order, both ways round, with whatever network that is (L, D)-fair in its first T ticks. Assumes nothing.
-- `end_at σ d t` is end d when t ticks are over; `other d` is its peer.
use Rattle.std.proofs.Common.{◌≡◌, refl, ℕ, zero, suc, ◌+◌, ◌*◌, ◌≤◌, ◌<◌, ◌∙◌, arith}
use Rattle.wire.specs.Datagram.{payload_most}
use Rattle.receiving.specs.Receiving.{ack_position}
use Rattle.sending.specs.Sending.{Segment}
use Rattle.sending.specs.CallLaws.{In}
use Rattle.sending.specs.TickLaws.{Last, Waits}
use Rattle.counting.specs.Bounds.{hand_ticks, drop_ticks}
use Rattle.fairness.specs.Timed.{Plan, Side, other, interval_of, site_at, end_at}
use Rattle.fairness.specs.Networks.{FairNetwork, Going, Takers, GivenAtStart}
use Rattle.counting.proofs.TurnsLaws.{here_by, known_by}
use Rattle.fairness.specs.StateLaws.{orderly_at, position_at, position_up, acked_up}
use Rattle.fairness.specs.OldestLaws.{Holds}
use Rattle.fairness.proofs.SegmentLaws.{behind, segment_turns}
use Rattle.fairness.specs.CutsLaws.{Mark, start, inner, whole}
use Rattle.fairness.proofs.AllLaws.{bytes_of, whole_of, cuts_at, chain_above, acked_whole, Next, all_gone, oldest_ends, last_ends, next_end, handed_up}
use Rattle.fairness.proofs.CreditLaws.{takes_grants, waits_held, credit_turns}

-- a segment that is the oldest kept
oldest_holds : (σ : Plan) (d : Side) (t : ℕ) (g : Segment) → Last g (end_at σ d t).sending.kept → Holds σ d (end_at σ d t).sending.acked g.to t
oldest_holds σ d t g k = record { last = g.at; is = record { acked = refl; kept = k } }

-- IN HAND: L * R + D ticks later all of its bytes, and the END where it has that, have arrived at the peer
pub in_hand : (σ : Plan) (d : Side) (L D T t : ℕ) (g : Segment) → FairNetwork σ L D T → Going σ T → Last g (end_at σ d t).sending.kept → t + hand_ticks L D (interval_of d σ) ≤ T
    → g.to ≤ ack_position (end_at σ (other d) (t + hand_ticks L D (interval_of d σ))).receiving
unfolding position_at
in_hand σ d L D T t g f v k l =
    let a = (end_at σ d t).sending.acked in
    here_by (segment_turns σ d a g.to t T D v f.most (oldest_holds σ d t g k)) (f.segments d a g.to) l

-- ACKNOWLEDGED: L * L * R + (L + 1) * D ticks later its sender has dropped it
pub acknowledged : (σ : Plan) (d : Side) (L D T t : ℕ) (g : Segment) → FairNetwork σ L D T → Going σ T → Last g (end_at σ d t).sending.kept → t + drop_ticks L D (interval_of d σ) ≤ T
    → g.to ≤ (end_at σ d (t + drop_ticks L D (interval_of d σ))).sending.acked
acknowledged σ d L D T t g f v k l =
    let a = (end_at σ d t).sending.acked in
    known_by f.some (segment_turns σ d a g.to t T D v f.most (oldest_holds σ d t g k)) (f.segments d a g.to) (f.acks (other d)) l

-- what is dropped is not kept: all that is kept ends above acked
pub kept_above : (σ : Plan) (d : Side) (n : ℕ) {h : Segment} → In h (end_at σ d n).sending.kept → (end_at σ d n).sending.acked < h.to
kept_above σ d n i = chain_above (orderly_at σ d n).chain i

-- CREDIT KNOWN: the host takes at least one byte in tick t, and when that is over the peer has bytes waiting, nothing kept and no room.
-- L * L * R + (L + 1) * D ticks later the peer knows of a limit higher than it had
pub credit_known : (σ : Plan) (d : Side) (L D T t : ℕ) → FairNetwork σ L D T → Going σ T → (end_at σ (other d) t).receiving.taken < (end_at σ (other d) (suc t)).receiving.taken
    → Waits (end_at σ d (suc t)).sending
    → suc t + drop_ticks L D (interval_of d σ) ≤ T
    → (end_at σ d (suc t)).sending.limit < (end_at σ d (suc t + drop_ticks L D (interval_of d σ))).sending.limit
credit_known σ d L D T t f g h w l =
    let more = takes_grants σ d t g.epoch w h in
    let held = waits_held σ d (suc t) T g (omega arith) w in
    let k = known_by f.some (credit_turns σ d (end_at σ d (suc t)).sending.limit (suc t) T D g f.most held more) (f.probes d) (f.acks (other d)) l in
    omega arith

-- ALL DROPPED: n segments (of 1,024 bytes, the last of what is left, the END with it), all given in the first tick, are dropped n times that later
data Progress (σ : Plan) (d : Side) (u i : ℕ) : Type 0 where
  all_of_it : (end_at σ d u).sending.acked ≡ whole_of σ d → Progress σ d u i
  so_far : i * payload_most ≤ (end_at σ d u).sending.acked → Progress σ d u i

progress_more : (σ : Plan) (d : Side) (L D T u i : ℕ) → FairNetwork σ L D T → Going σ T → GivenAtStart σ d T → u + drop_ticks L D (interval_of d σ) < T → Progress σ d (suc u) i
    → Progress σ d (suc (u + drop_ticks L D (interval_of d σ))) (suc i)
progress_more σ d L D T u i f g s l p = go p (next_end σ d u T g s (omega arith))
  where
    top : (end_at σ d (suc (u + drop_ticks L D (interval_of d σ)))).sending.acked ≤ whole_of σ d
    top = acked_whole σ d (u + drop_ticks L D (interval_of d σ)) T s l

    up : (end_at σ d (suc u)).sending.acked ≤ (end_at σ d (suc (u + drop_ticks L D (interval_of d σ)))).sending.acked
    up = acked_up σ d (suc u) (suc (u + drop_ticks L D (interval_of d σ))) (omega arith)

    by : (x : Segment) → Last x (end_at σ d (suc u)).sending.kept → x.to ≤ (end_at σ d (suc (u + drop_ticks L D (interval_of d σ)))).sending.acked
    by x k =
        let e : suc u + drop_ticks L D (interval_of d σ) ≡ suc (u + drop_ticks L D (interval_of d σ)) = omega arith in
        rw e at (acknowledged σ d L D T (suc u) x f g k (omega arith))

    go : Progress σ d (suc u) i → Next σ d (suc u) → Progress σ d (suc (u + drop_ticks L D (interval_of d σ))) (suc i)
    go (all_of_it q) x = all_of_it (omega (arith, top, up))
    go (so_far q) (all_gone e) = all_of_it (omega (arith, top, up))
    go (so_far q) (last_ends x k e) = all_of_it (omega (arith, top, by x k))
    go (so_far q) (oldest_ends x k e h) = so_far (omega (arith, by x k))

progress : (σ : Plan) (d : Side) (L D T i : ℕ) → FairNetwork σ L D T → Going σ T → GivenAtStart σ d T → i * drop_ticks L D (interval_of d σ) < T
    → Progress σ d (suc (i * drop_ticks L D (interval_of d σ))) i
progress σ d L D T zero f g s l = so_far (omega arith)
progress σ d L D T (suc i) f g s l =
    let B : ℕ = drop_ticks L D (interval_of d σ) in
    let e : i * B + B ≡ suc i * B = omega arith in
    rw e at (progress_more σ d L D T (i * B) i f g s (omega arith) (progress σ d L D T i f g s (omega arith)))

pub all_dropped : (σ : Plan) (d : Side) (L D T n : ℕ) → FairNetwork σ L D T → Going σ T → GivenAtStart σ d T → 1 ≤ n → (end_at σ d 1).sending.given ≤ n * payload_most
    → 1 + n * drop_ticks L D (interval_of d σ) ≤ T
    → (end_at σ d (1 + n * drop_ticks L D (interval_of d σ))).sending.acked ≡ (end_at σ d 1).sending.given + (end_at σ d 1).sending.closed
unfolding whole_of bytes_of
all_dropped σ d L D T n f g s p few l =
    let B : ℕ = drop_ticks L D (interval_of d σ) in
    let e : suc (n * B) ≡ 1 + n * B = omega arith in
    rw e at (go (progress σ d L D T n f g s (omega arith)) (cuts_at σ d (suc (n * B)) T s (omega arith)).acked refl)
  where
    go : Progress σ d (suc (n * drop_ticks L D (interval_of d σ))) n → {a : ℕ} → Mark (end_at σ d 1).sending.given ((end_at σ d 1).sending.given + (end_at σ d 1).sending.closed) a
        → (end_at σ d (suc (n * drop_ticks L D (interval_of d σ)))).sending.acked ≡ a
        → (end_at σ d (suc (n * drop_ticks L D (interval_of d σ)))).sending.acked ≡ (end_at σ d 1).sending.given + (end_at σ d 1).sending.closed
    go (all_of_it q) m e = q
    go (so_far q) start e = absurd (omega arith)
    go (so_far q) (inner k x h) e = absurd (omega arith)
    go (so_far q) (whole x) e = e ∙ x

-- the last of them is in hand before that
last_in_hand : (σ : Plan) (d : Side) (L D T m u : ℕ) → FairNetwork σ L D T → Going σ T → GivenAtStart σ d T → (end_at σ d 1).sending.given ≤ suc m * payload_most → Progress σ d (suc u) m
    → u + hand_ticks L D (interval_of d σ) < T
    → whole_of σ d ≤ ack_position (end_at σ (other d) (suc (u + hand_ticks L D (interval_of d σ)))).receiving
unfolding position_at bytes_of
last_in_hand σ d L D T m u f g s few p l = go p (next_end σ d u T g s (omega arith))
  where
    gone : (end_at σ d (suc u)).sending.acked ≡ whole_of σ d → whole_of σ d ≤ ack_position (end_at σ (other d) (suc (u + hand_ticks L D (interval_of d σ)))).receiving
    gone q = omega (arith, behind σ d (suc u) g.epoch, position_up σ (other d) (suc u) (suc (u + hand_ticks L D (interval_of d σ))) (omega arith))

    go : Progress σ d (suc u) m → Next σ d (suc u) → whole_of σ d ≤ ack_position (end_at σ (other d) (suc (u + hand_ticks L D (interval_of d σ)))).receiving
    go (all_of_it q) x = gone q
    go (so_far q) (all_gone e) = gone e
    go (so_far q) (oldest_ends x k e h) = absurd (omega arith)
    go (so_far q) (last_ends x k e) =
        let a : suc u + hand_ticks L D (interval_of d σ) ≡ suc (u + hand_ticks L D (interval_of d σ)) = omega arith in
        let b : x.to ≤ ack_position (end_at σ (other d) (suc (u + hand_ticks L D (interval_of d σ)))).receiving = rw a at (in_hand σ d L D T (suc u) x f g k (omega arith)) in
        omega arith

-- and handed up: hosts that take whatever is there in every tick have then taken all that was given
pub all_handed_up : (σ : Plan) (d : Side) (L D T m : ℕ) → FairNetwork σ L D T → Going σ T → GivenAtStart σ d T → Takers σ T → (end_at σ d 1).sending.given ≤ suc m * payload_most
    → suc (m * drop_ticks L D (interval_of d σ) + hand_ticks L D (interval_of d σ)) ≤ T
    → (site_at σ (other d) (suc (m * drop_ticks L D (interval_of d σ) + hand_ticks L D (interval_of d σ)))).taken
    ≡ (site_at σ d (suc (m * drop_ticks L D (interval_of d σ) + hand_ticks L D (interval_of d σ)))).given
unfolding whole_of
all_handed_up σ d L D T m f g s h few l =
    let u : ℕ = m * drop_ticks L D (interval_of d σ) in
    let v : ℕ = u + hand_ticks L D (interval_of d σ) in
    let p = last_in_hand σ d L D T m u f g s few (progress σ d L D T m f g s (omega arith)) (omega arith) in
    handed_up σ d (suc v) g.epoch (omega (arith, s.given (suc v) (omega arith) l, s.closed (suc v) (omega arith) l)) (h.all (other d) v l)
