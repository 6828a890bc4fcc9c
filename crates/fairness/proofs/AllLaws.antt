-- All is given at the start: one segment after the other is the oldest, until nothing is left. Assumes nothing.
use Rattle.std.proofs.Common.{◌≡◌, refl, List, [], ◌∷◌, ℕ, zero, suc, ◌+◌, ◌^◌, ◌≤◌, ◌<◌, length, ap, sym, ◌∙◌, arith, length-take}
use Rattle.std.proofs.Math.Decide.{dec_lt}
use Rattle.ring.specs.Ring.{capacity}
use Rattle.wire.specs.Datagram.{payload_most}
use Rattle.receiving.specs.Receiving.{low_of, ack_position}
use Rattle.receiving.proofs.TruthLaws.{says_length, says_whole}
use Rattle.receiving.proofs.NetworkLaws.{past_end}
use Rattle.segments.specs.declared.Tick.{Tick}
use Rattle.sending.specs.Sending.{Segment, Sending, line_of, start_of}
use Rattle.sending.specs.Sending as sending
use Rattle.sending.specs.Steps.{send_of}
use Rattle.sending.specs.Buffers.{Chain, Orderly}
use Rattle.sending.specs.Buffers.Chain.{none, one}
use Rattle.sending.specs.CallLaws.{In, here, there, tick_keeps, TickKeeps}
use Rattle.sending.specs.OrderLaws.{chain_up, acked_next}
use Rattle.sending.specs.TickLaws.{next_send, Last, last_has, has_in, resent_few, NewSegment, cut_new, cut_last}
use Rattle.end.specs.End.{End, open_of}
use Rattle.network.specs.FlowLaws.{taken_says}
use Rattle.fairness.proofs.TakenLaws.{pair_at}
use Rattle.fairness.specs.Timed.{Plan, Side, other, site_at, end_at}
use Rattle.fairness.specs.Networks.{Going, GivenAtStart}
use Rattle.fairness.specs.TimedLaws.{ready_at}
use Rattle.fairness.specs.SideLaws.{moves_limit, moves_next}
use Rattle.fairness.specs.StateLaws.{end_start, works_at, work, ticks_at, orderly_at, orderly_ready, ready_next, limit_up, allowed_at}
use Rattle.fairness.specs.CutsLaws.{Mark, start, inner, whole, no_marks, Cuts, mark_in, moves_cuts, Filled, cuts_send}

-- how many bytes there are, and the end of the stream
unfoldable pub bytes_of : Plan → Side → ℕ
bytes_of σ d = (end_at σ d 1).sending.given

unfoldable pub whole_of : Plan → Side → ℕ
whole_of σ d = (end_at σ d 1).sending.given + (end_at σ d 1).sending.closed

-- what stays from before a tick to after it
tick_stays : (σ : Plan) (d : Side) (n : ℕ) → TickKeeps (ready_at σ d n).end.sending (end_at σ d (suc n)).sending
tick_stays σ d n = rw (ticks_at σ d n).sending (tick_keeps (work (ready_at σ d n).end) (ready_at σ d n).end.sending)

start_limit : (σ : Plan) (d : Side) → (end_at σ d 0).sending.limit ≡ capacity
unfolding open_of sending.fresh
start_limit σ d = ap (λ (e : End). e.sending.limit) (end_start σ d)

start_next : (σ : Plan) (d : Side) → (end_at σ d 0).sending.next ≡ 0
unfolding open_of sending.fresh
start_next σ d = ap (λ (e : End). e.sending.next) (end_start σ d)

start_cuts : (σ : Plan) (d : Side) {G W : ℕ} → Cuts G W (end_at σ d 0).sending
unfolding open_of sending.fresh
start_cuts σ d = rw (end_start σ d) (record { acked = start; next = start; kept = no_marks })

-- all that is given at the start has room from the first
bytes_few : (σ : Plan) (d : Side) → bytes_of σ d ≤ capacity
unfolding bytes_of
bytes_few σ d =
    let n = moves_next (works_at σ d 0).sending (orderly_at σ d 0) in
    omega (arith, (orderly_at σ d 1).room, (ready_next σ d 0).acked, acked_next (orderly_ready σ d 0), start_next σ d)

filled : (σ : Plan) (d : Side) (n T : ℕ) → GivenAtStart σ d T → n < T → Filled (bytes_of σ d) (whole_of σ d) (line_of (ready_at σ d n).end.sending)
unfolding bytes_of whole_of
filled σ d n T s h =
    let k = tick_stays σ d n in
    let room : (end_at σ d 1).sending.given ≤ capacity = bytes_few σ d in
    record {
      given = sym k.given ∙ s.given (suc n) (omega arith) h;
      closed = (orderly_ready σ d n).closed;
      whole = omega (arith, k.closed, s.closed (suc n) (omega arith) h);
      room = omega (arith, start_limit σ d, limit_up σ d 0 n (omega arith), moves_limit (works_at σ d n).sending);
    }

cuts_tick : {G W : ℕ} (e : End) → Filled G W (line_of e.sending) → Cuts G W e.sending → Cuts G W (send_of (work e) e.sending).side
cuts_tick e f k = cuts_send (work e) e.sending f k

pub cuts_at : (σ : Plan) (d : Side) (n T : ℕ) → GivenAtStart σ d T → n ≤ T → Cuts (bytes_of σ d) (whole_of σ d) (end_at σ d n).sending
cuts_at σ d zero T s h = start_cuts σ d
cuts_at σ d (suc n) T s h =
    rw (ticks_at σ d n).sending (cuts_tick (ready_at σ d n).end (filled σ d n T s h) (moves_cuts (works_at σ d n).sending (cuts_at σ d n T s (omega arith))))

-- SOMETHING IS KEPT until all is dropped
chain_none : {acked given : ℕ} {gs : List Segment} → Chain acked given gs → start_of acked gs ≤ acked → gs ≡ []
unfolding start_of
chain_none none h = refl
chain_none (one l m c) h = let u = chain_up c in absurd (omega arith)

pub chain_above : {acked given : ℕ} {g : Segment} {gs : List Segment} → Chain acked given gs → In g gs → acked < g.to
chain_above none i = elim i [ ]
chain_above (one l m c) here = let u = chain_up c in omega arith
chain_above (one l m c) (there i) = chain_above c i

-- a tick that cuts nothing has nothing to cut
cuts_more : (w : Tick) (s : Sending) → Orderly s → s.kept ≡ [] → 0 < w.allowed → s.given ≤ s.limit → s.next < s.given + s.closed → s.next < (send_of w s).side.next
cuts_more w s o z a room lt = go (dec_lt s.next s.given)
  where
    none_kept : length s.kept ≡ 0
    none_kept = ap length z

    more : NewSegment w s → s.next < (send_of w s).side.next
    more n = omega (arith, n.up, n.next)

    go : Dec (s.next < s.given) → s.next < (send_of w s).side.next
    go (yes h) = more (cut_new w s o (omega (arith, none_kept)) (omega (arith, none_kept, resent_few w s)) h (omega arith))
    go (no h) = more (cut_last w s o (omega (arith, none_kept)) (omega (arith, none_kept, resent_few w s)) (omega (arith, o.closed)) (omega (arith, o.closed)))

none_left : (e : End) {t : Sending} → t ≡ (send_of (work e) e.sending).side → Orderly e.sending → Orderly t → 0 < (work e).allowed → e.sending.given ≤ e.sending.limit → t.kept ≡ []
    → t.acked ≡ e.sending.acked
    → e.sending.given + e.sending.closed ≤ t.acked
unfolding start_of
none_left e {t} q o p a room z k = go (dec_lt e.sending.next (e.sending.given + e.sending.closed))
  where
    same : t.next ≡ t.acked
    same = p.last ∙ ap (start_of t.acked) z

    up : e.sending.next ≤ t.next
    up = omega (arith, ap (λ (s : Sending). s.next) q, next_send (work e) e.sending)

    go : Dec (e.sending.next < e.sending.given + e.sending.closed) → e.sending.given + e.sending.closed ≤ t.acked
    go (no h) = omega (arith, up, same)
    go (yes h) =
        let n : e.sending.kept ≡ [] = chain_none o.chain (omega (arith, o.last, up, same)) in
        let m = cuts_more (work e) e.sending o n a room h in
        absurd (omega (arith, ap (λ (s : Sending). s.next) q, same, acked_next o))

pub all_kept : (σ : Plan) (d : Side) (n T : ℕ) → Going σ T → GivenAtStart σ d T → n < T → (end_at σ d (suc n)).sending.kept ≡ [] → whole_of σ d ≤ (end_at σ d (suc n)).sending.acked
unfolding whole_of
all_kept σ d n T g s h z =
    let e : End = (ready_at σ d n).end in
    let k = tick_stays σ d n in
    let f = filled σ d n T s h in
    let l = none_left e (ticks_at σ d n).sending (orderly_ready σ d n) (orderly_at σ d (suc n)) (allowed_at σ d n T g h) (omega (arith, f.given, f.room)) z (ready_next σ d n).acked in
    omega (arith, k.given, k.closed, s.given (suc n) (omega arith) h, s.closed (suc n) (omega arith) h)

-- acked never passes the end
pub acked_whole : (σ : Plan) (d : Side) (n T : ℕ) → GivenAtStart σ d T → n < T → (end_at σ d (suc n)).sending.acked ≤ whole_of σ d
unfolding whole_of
acked_whole σ d n T s h =
    let o = orderly_at σ d (suc n) in
    omega (arith, o.top, acked_next o, s.given (suc n) (omega arith) h, s.closed (suc n) (omega arith) h)

-- THE OLDEST ends at the next mark, or nothing is left
pub data Next (σ : Plan) (d : Side) (n : ℕ) : Type 0 where
  all_gone : (end_at σ d n).sending.acked ≡ whole_of σ d → Next σ d n
  oldest_ends : (g : Segment) → Last g (end_at σ d n).sending.kept → (end_at σ d n).sending.acked + payload_most ≤ g.to → g.to < bytes_of σ d → Next σ d n
  last_ends : (g : Segment) → Last g (end_at σ d n).sending.kept → g.to ≡ whole_of σ d → Next σ d n

last_of : {A : Type 0} (x : A) (xs : List A) → (y : A) × Last y (x ∷ xs)
last_of x [] = (x, record { newer = []; is = refl })
last_of x (y ∷ ys) = let l = last_of y ys in (l.0, record { newer = x ∷ l.1.newer; is = ap (λ zs. x ∷ zs) l.1.is })

data Lasts (gs : List Segment) : Type 0 where
  no_last : gs ≡ [] → Lasts gs
  a_last : (g : Segment) → Last g gs → Lasts gs

lasts : (gs : List Segment) → Lasts gs
lasts [] = no_last refl
lasts (g ∷ gs) = let l = last_of g gs in a_last l.0 l.1

pub next_end : (σ : Plan) (d : Side) (n T : ℕ) → Going σ T → GivenAtStart σ d T → n < T → Next σ d (suc n)
next_end σ d n T g s h = go (lasts (end_at σ d (suc n)).sending.kept)
  where
    marks : (x : Segment) → Last x (end_at σ d (suc n)).sending.kept → (end_at σ d (suc n)).sending.acked < x.to → {a : ℕ} → (end_at σ d (suc n)).sending.acked ≡ a → Mark (bytes_of σ d) (whole_of σ d) a → {b : ℕ} → x.to ≡ b → Mark (bytes_of σ d) (whole_of σ d) b → Next σ d (suc n)
    marks x k up p (whole e) q m = all_gone (p ∙ e)
    marks x k up p start q start = absurd (omega arith)
    marks x k up p start q (inner i e l) = oldest_ends x k (omega arith) (omega arith)
    marks x k up p start q (whole e) = last_ends x k (q ∙ e)
    marks x k up p (inner j f o) q start = absurd (omega arith)
    marks x k up p (inner j f o) q (inner i e l) = oldest_ends x k (omega arith) (omega arith)
    marks x k up p (inner j f o) q (whole e) = last_ends x k (q ∙ e)

    go : Lasts (end_at σ d (suc n)).sending.kept → Next σ d (suc n)
    go (no_last z) = all_gone (omega (arith, all_kept σ d n T g s h z, acked_whole σ d n T s h))
    go (a_last x k) =
        let c = cuts_at σ d (suc n) T s h in
        let i = has_in (last_has k) in
        marks x k (chain_above (orderly_at σ d (suc n)).chain i) refl c.acked refl (mark_in c.kept i)

-- HANDED UP: what has all arrived, and is taken, is what was given
pub handed_up : (σ : Plan) (d : Side) (n : ℕ) → σ.epoch < 2 ^ 64 → (end_at σ d n).sending.given + (end_at σ d n).sending.closed ≤ ack_position (end_at σ (other d) n).receiving
    → low_of (end_at σ (other d) n).receiving ≡ (end_at σ (other d) n).receiving.taken
    → (site_at σ (other d) n).taken ≡ (site_at σ d n).given
handed_up σ d n e h t = go (dec_lt (low_of (end_at σ (other d) n).receiving) (ack_position (end_at σ (other d) n).receiving))
  where
    whole_by : (end_at σ d n).sending.given ≤ low_of (end_at σ (other d) n).receiving → (site_at σ (other d) n).taken ≡ (site_at σ d n).given
    whole_by l =
        let v = (pair_at σ d n e).out in
        let s = taken_says v in
        says_whole s (omega (arith, says_length s, v.sender.given, v.receiver.count))

    go : Dec (low_of (end_at σ (other d) n).receiving < ack_position (end_at σ (other d) n).receiving) → (site_at σ (other d) n).taken ≡ (site_at σ d n).given
    go (no l) = whole_by (omega arith)
    go (yes l) =
        let v = (pair_at σ d n e).out in
        let q = past_end v.receiver l in
        whole_by (omega (arith, q.last, q.finished, length-take (end_at σ d n).sending.next (site_at σ d n).given, v.sender.given))
