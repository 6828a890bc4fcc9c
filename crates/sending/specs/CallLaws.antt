-- What each call changes and what it leaves; who may acknowledge, and what is dropped. Assumes nothing.
use Rattle.std.specs.Prelude.{◌≡◌, refl, List, [], ◌∷◌, ℕ, ◌+◌, ◌≤◌, ◌<◌, max, ltb}
use Rattle.std.proofs.Math.Decide.{dec_lt}
use Rattle.std.proofs.Common.{arith, lt-ltb, le-ltb}
use Rattle.laws.specs.Choice.{if, if_case, ltb_case}
use Rattle.laws.specs.Rows.{when}
use Rattle.segments.specs.declared.Tick.{Tick}
use Rattle.sending.specs.Sending.{Segment, never, Sending, line_of, start_of}
use Rattle.sending.specs.Giving.{taken_of, give_of, finish_of}
use Rattle.sending.specs.Acking.{ack_refusal, left_of, acked_of, ack_of}
use Rattle.sending.specs.Steps.{send_of}
use Rattle.sending.specs.Buffers.{Chain, Orderly}
use Rattle.sending.specs.Buffers.Chain.{none, one}
use Rattle.sending.specs.GiveLaws.{room_closed}
use Rattle.sending.specs.OrderLaws.{dropped}

-- GIVE
pub record Given (s t : Sending) (n : ℕ) : Type 0 where
  pub given : t.given ≡ s.given + n
  pub closed : t.closed ≡ s.closed
  pub acked : t.acked ≡ s.acked
  pub next : t.next ≡ s.next
  pub limit : t.limit ≡ s.limit
  pub kept : t.kept ≡ s.kept
  pub probed : t.probed ≡ s.probed

pub given_is : (s : Sending) (bs : List ℕ) → Given s (give_of s bs) (taken_of s bs)
unfolding give_of
given_is s bs = record { given = refl; closed = refl; acked = refl; next = refl; limit = refl; kept = refl; probed = refl }

-- after finish nothing is taken
pub taken_closed : (s : Sending) (bs : List ℕ) → s.closed ≡ 1 → taken_of s bs ≡ 0
taken_closed s bs h = let e = room_closed (line_of s) s.acked h in omega arith

-- FINISH
pub record Finished (s t : Sending) : Type 0 where
  pub given : t.given ≡ s.given
  pub closed : t.closed ≡ 1
  pub acked : t.acked ≡ s.acked
  pub next : t.next ≡ s.next
  pub limit : t.limit ≡ s.limit
  pub kept : t.kept ≡ s.kept
  pub probed : t.probed ≡ s.probed

pub finished_is : (s : Sending) → Finished s (finish_of s)
unfolding finish_of
finished_is s = record { given = refl; closed = refl; acked = refl; next = refl; limit = refl; kept = refl; probed = refl }

-- finish twice is finish once
pub finish_twice : (s : Sending) → finish_of (finish_of s) ≡ finish_of s
unfolding finish_of
finish_twice s = refl

-- ACK
-- an ACK at what was sent is not refused with 7, one beyond it is
pub honest_ack : (next position : ℕ) → position ≤ next → ack_refusal next position ≡ 0
unfolding when
honest_ack next position h = rw (le-ltb next position h)

pub wrong_ack : (next position : ℕ) → next < position → ack_refusal next position ≡ 7
unfolding when
wrong_ack next position h = rw (lt-ltb next position h)

-- what is not refused with 7 was sent
pub ack_sent : (next position : ℕ) → ack_refusal next position ≡ 0 → position ≤ next
ack_sent next position e = go (dec_lt next position)
  where
    go : Dec (next < position) → position ≤ next
    go (yes h) = let f = wrong_ack next position h in absurd (omega arith)
    go (no h) = omega arith

pub record AckKeeps (s t : Sending) (position credit : ℕ) : Type 0 where
  pub given : t.given ≡ s.given
  pub closed : t.closed ≡ s.closed
  pub next : t.next ≡ s.next
  -- limit and acked never fall; the ACK's own are reached, and nothing is acknowledged beyond its position
  pub limit : t.limit ≡ max s.limit (position + credit)
  pub acked : s.acked ≤ t.acked
  pub below : t.acked ≤ max s.acked position
  -- new room, and only that, makes a PROBE forgotten
  pub room : s.limit < position + credit → t.probed ≡ never
  pub same : position + credit ≤ s.limit → t.probed ≡ s.probed

pub ack_keeps : (s : Sending) (position credit : ℕ) → Orderly s → AckKeeps s (ack_of s position credit) position credit
unfolding ack_of
ack_keeps s position credit o =
    let d = dropped position o.chain in
    record {
      given = refl;
      closed = refl;
      next = refl;
      limit = refl;
      acked = d.up;
      below = d.below;
      room = λ h. rw (lt-ltb s.limit (position + credit) h);
      same = λ h. rw (le-ltb s.limit (position + credit) h);
    }

pub limit_ack : (s : Sending) (position credit : ℕ) → s.limit ≤ (ack_of s position credit).limit
unfolding ack_of
limit_ack s position credit = omega arith

pub acked_ack : (s : Sending) (position credit : ℕ) → Orderly s → s.acked ≤ (ack_of s position credit).acked
acked_ack s position credit o = (ack_keeps s position credit o).acked

-- one of a list
pub data In {A : Type 0} (x : A) : List A → Type 0 where
  here : {xs : List A} → In x (x ∷ xs)
  there : {y : A} {xs : List A} → In x xs → In x (y ∷ xs)

in_none : {A : Type 0} {x : A} → In x [] → ⊥
in_none i = elim i [ ]

-- a segment is dropped only when an ACK's position has reached its end
left_keeps : (p : ℕ) {g : Segment} {gs : List Segment} → In g gs → p < g.to → In g (left_of p gs)
unfolding left_of
left_keeps p {g} here h = rw (lt-ltb p g.to h) here
left_keeps p {g} (there {y} {xs} i) h = if_case (λ (ks : List Segment). In g ks) (ltb p y.to) (λ e. there (left_keeps p i h)) (λ e. left_keeps p i h)

pub kept_ack : (s : Sending) (position credit : ℕ) {g : Segment} → In g s.kept → position < g.to → In g (ack_of s position credit).kept
unfolding ack_of
kept_ack s position credit i h = left_keeps position i h

-- and then it is: none that is kept afterwards ends at the position or before, or was not kept before
pub record Stays (p : ℕ) (g : Segment) (gs : List Segment) : Type 0 where
  pub beyond : p < g.to
  pub before : In g gs

stays_first : {p : ℕ} {g y : Segment} {gs ks : List Segment} → p < y.to → (In g ks → Stays p g gs) → In g (y ∷ ks) → Stays p g (y ∷ gs)
stays_first h ih here = record { beyond = h; before = here }
stays_first h ih (there i) = let k = ih i in record { beyond = k.beyond; before = there k.before }

left_stays : (p : ℕ) {g : Segment} (gs : List Segment) → In g (left_of p gs) → Stays p g gs
unfolding left_of
left_stays p {g} [] = λ i. absurd (in_none i)
left_stays p {g} (y ∷ gs) = go (dec_lt p y.to) (left_stays p gs)
  where
    go : Dec (p < y.to) → (In g (left_of p gs) → Stays p g gs) → In g (if (ltb p y.to) (y ∷ left_of p gs) (left_of p gs)) → Stays p g (y ∷ gs)
    go (yes h) ih i = stays_first h ih (rw (lt-ltb p y.to h) at i)
    go (no h) ih i = let k = ih (rw (le-ltb p y.to (omega arith)) at i) in record { beyond = k.beyond; before = there k.before }

pub ack_stays : (s : Sending) (position credit : ℕ) {g : Segment} → In g (ack_of s position credit).kept → Stays position g s.kept
unfolding ack_of
ack_stays s position credit i = left_stays position s.kept i

-- every segment ends between acked and the newest one's end
pub in_chain : {acked given : ℕ} {g : Segment} {gs : List Segment} → Chain acked given gs → In g gs → g.to ≤ start_of acked gs
unfolding start_of
in_chain none i = elim i [ ]
in_chain (one l m c) here = omega arith
in_chain (one l m c) (there i) = let k = in_chain c i in omega arith

-- acked reaches the end of each that is dropped
acked_reach : {acked given : ℕ} (p : ℕ) {g : Segment} {gs : List Segment} → Chain acked given gs → In g gs → g.to ≤ p → g.to ≤ acked_of acked p gs
unfolding acked_of
acked_reach p {g} c here h = rw (le-ltb p g.to h) (omega arith)
acked_reach {acked} p {g} (one {g = x} {gs = gs} l m c) (there i) h =
    ltb_case (λ (n : ℕ). g.to ≤ n) p x.to (λ e. acked_reach p c i h) (λ e. omega (arith, in_chain c i))

pub acked_reached : (s : Sending) (position credit : ℕ) {g : Segment} → Orderly s → In g s.kept → g.to ≤ position → g.to ≤ (ack_of s position credit).acked
unfolding ack_of
acked_reached s position credit o i h = acked_reach position o.chain i h

-- A TICK
pub record TickKeeps (s t : Sending) : Type 0 where
  pub given : t.given ≡ s.given
  pub closed : t.closed ≡ s.closed
  pub acked : t.acked ≡ s.acked
  pub limit : t.limit ≡ s.limit

pub tick_keeps : (w : Tick) (s : Sending) → TickKeeps s (send_of w s).side
unfolding send_of
tick_keeps w s = record { given = refl; closed = refl; acked = refl; limit = refl }
