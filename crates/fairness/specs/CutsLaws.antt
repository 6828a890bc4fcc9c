-- Where segments end when G bytes are given at once: at each 1,024 bytes, and at the end W, the END counted. Assumes nothing.
use Rattle.std.specs.Prelude.{◌≡◌, Bool, true, false, ◌&&◌, List, [], ◌∷◌, ℕ, zero, suc, ◌+◌, ◌-◌, ◌*◌, ◌≤◌, ◌<◌, eqb, ltb, length}
use Rattle.std.proofs.Math.Decide.{ℕ_discrete, dec_lt}
use Rattle.std.proofs.Common.{arith, eqb-true, ltb-true, eq-eqb}
use Rattle.laws.specs.Choice.{if_case}
use Rattle.wire.specs.Datagram.{payload_most}
use Rattle.segments.specs.declared.Tick.{Tick}
use Rattle.segments.specs.declared.Line.{Line}
use Rattle.sending.specs.Sending.{segments_most, Segment, Sending, line_of, part_of}
use Rattle.sending.specs.Acking as acking
use Rattle.sending.specs.Steps.{Resent, due_of, again_of, resend_of, Cut, bytes_to, cut_to, cut_one, cut_of, cuts_of, steps_of, send_of}
use Rattle.segments.specs.StepLaws.{and_left, and_right}
use Rattle.sending.specs.CallLaws.{In, here, there, given_is, finished_is}
use Rattle.sending.specs.OrderLaws.{probe_next, probe_kept}
use Rattle.fairness.specs.SideLaws.{Moves, stays, acks, given, closed}

-- a position where a segment may end
pub data Mark (G W : ℕ) : ℕ → Type 0 where
  start : Mark G W 0
  inner : {p : ℕ} (k : ℕ) → p ≡ suc k * payload_most → p < G → Mark G W p
  whole : {p : ℕ} → p ≡ W → Mark G W p

pub data Marks (G W : ℕ) : List Segment → Type 0 where
  no_marks : Marks G W []
  more_marks : {g : Segment} {gs : List Segment} → Mark G W g.to → Marks G W gs → Marks G W (g ∷ gs)

-- where all that a sending side has cut ends
pub record Cuts (G W : ℕ) (s : Sending) : Type 0 where
  pub acked : Mark G W s.acked
  pub next : Mark G W s.next
  pub kept : Marks G W s.kept

pub mark_in : {G W : ℕ} {g : Segment} {gs : List Segment} → Marks G W gs → In g gs → Mark G W g.to
mark_in no_marks i = elim i [ ]
mark_in (more_marks m k) here = m
mark_in (more_marks m k) (there i) = mark_in k i

-- AN ACK drops some
left_marks : {G W : ℕ} (p : ℕ) {gs : List Segment} → Marks G W gs → Marks G W (acking.left_of p gs)
unfolding acking.left_of
left_marks p no_marks = no_marks
left_marks {G} {W} p (more_marks {g} {gs} m k) = if_case (λ (hs : List Segment). Marks G W hs) (ltb p g.to) (λ e. more_marks {g = g} m (left_marks p k)) (λ e. left_marks p k)

acked_mark : {G W : ℕ} (a p : ℕ) {gs : List Segment} → Mark G W a → Marks G W gs → Mark G W (acking.acked_of a p gs)
unfolding acking.acked_of
acked_mark a p m no_marks = m
acked_mark {G} {W} a p m (more_marks {g} {gs} n k) = if_case (λ (b : ℕ). Mark G W b) (ltb p g.to) (λ e. acked_mark a p m k) (λ e. n)

cuts_ack : {G W : ℕ} (s : Sending) (p c : ℕ) → Cuts G W s → Cuts G W (acking.ack_of s p c)
unfolding acking.ack_of
cuts_ack s p c k = record { acked = acked_mark s.acked p k.acked k.kept; next = k.next; kept = left_marks p k.kept }

pub moves_cuts : {G W : ℕ} {s t : Sending} → Moves s t → Cuts G W s → Cuts G W t
moves_cuts stays k = k
moves_cuts (acks {t} m p c h) k = cuts_ack t p c (moves_cuts m k)
moves_cuts (given {t} m bs) k =
    let q = moves_cuts m k in
    let r = given_is t bs in
    record { acked = rw r.acked q.acked; next = rw r.next q.next; kept = rw r.kept q.kept }
moves_cuts (closed {t} m) k =
    let q = moves_cuts m k in
    let r = finished_is t in
    record { acked = rw r.acked q.acked; next = rw r.next q.next; kept = rw r.kept q.kept }

-- A TICK: segments that are sent again end where they ended
module _ {G W : ℕ} (w : Tick) (l : Line) (part : ℕ → ℕ → List ℕ) where
  resend_marks : (acked : ℕ) {gs : List Segment} → Marks G W gs → Marks G W (resend_of w l part acked gs).kept
  unfolding resend_of again_of
  resend_marks acked no_marks = no_marks
  resend_marks acked (more_marks {g} {gs} m k) =
      let i = resend_marks acked k in
      if_case (λ (r : Resent). Marks G W r.kept) (due_of w g.at (length (resend_of w l part acked gs).sent))
      (λ e. more_marks {g = record { to = g.to; at = w.now }} m i)
      (λ e. more_marks {g = g} m i)

-- and new ones end at the next mark
closed_not : (l : Line) (b : ℕ) → (eqb l.closed 1 && eqb b l.given) ≡ false → b ≡ l.given → l.closed ≤ 1 → l.closed ≡ 0
closed_not l b e q c = elim (ℕ_discrete l.closed 1) [
  | yes z ↦ let t : ◌≡◌ {A = Bool} true false = rw (eq-eqb l.closed 1 z, eq-eqb b l.given q) at e in let y : ◌≡◌ {A = ℕ} 0 1 = cc in absurd (omega arith)
  | no z ↦ omega arith
]

next_from : (l : Line) (W a k : ℕ) → l.closed ≤ 1 → W ≡ l.given + l.closed → l.given ≤ l.limit → a ≡ k * payload_most → a ≤ l.given → a < cut_to l a → Mark l.given W (cut_to l a)
unfolding cut_to
next_from l W a k c w room m top =
    if_case (λ (b : ℕ). a < b → Mark l.given W b) (eqb l.closed 1 && eqb (bytes_to l a) l.given)
    (λ e lt.
    let x : l.closed ≡ 1 = eqb-true _ _ (and_left _ _ e) in
    let y : bytes_to l a ≡ l.given = eqb-true _ _ (and_right (eqb l.closed 1) _ e) in
    whole {p = bytes_to l a + 1} (omega arith))
    (λ e lt. go (dec_lt (bytes_to l a) l.given) e lt)
  where
    go : Dec (bytes_to l a < l.given) → (eqb l.closed 1 && eqb (bytes_to l a) l.given) ≡ false → a < bytes_to l a → Mark l.given W (bytes_to l a)
    go (yes h) e lt = inner {p = bytes_to l a} k (omega arith) h
    go (no h) e lt = let q : bytes_to l a ≡ l.given = omega arith in let z = closed_not l (bytes_to l a) e q c in whole {p = bytes_to l a} (omega arith)

next_none : (l : Line) (a : ℕ) → l.closed ≤ 1 → a ≡ l.given + l.closed → a < cut_to l a → ⊥
unfolding cut_to
next_none l a c w =
    if_case (λ (b : ℕ). a < b → ⊥) (eqb l.closed 1 && eqb (bytes_to l a) l.given)
    (λ e lt.
    let x : l.closed ≡ 1 = eqb-true _ _ (and_left _ _ e) in
    let y : bytes_to l a ≡ l.given = eqb-true _ _ (and_right (eqb l.closed 1) _ e) in
    omega arith)
    (λ e lt. omega arith)

-- a line that has been given all: G bytes, and W is its end; there is room for them
pub record Filled (G W : ℕ) (l : Line) : Type 0 where
  pub given : l.given ≡ G
  pub closed : l.closed ≤ 1
  pub whole : W ≡ G + l.closed
  pub room : G ≤ l.limit

mark_as : {G H W p : ℕ} → G ≡ H → Mark G W p → Mark H W p
mark_as e m = rw e at m

next_mark : {G W : ℕ} (l : Line) (a : ℕ) → Filled G W l → Mark G W a → a < cut_to l a → Mark G W (cut_to l a)
next_mark {G} {W} l a f start lt = mark_as f.given (next_from l W 0 0 f.closed (omega (arith, f.given, f.whole)) (omega (arith, f.given, f.room)) (omega arith) (omega arith) lt)
next_mark {G} {W} l a f (inner k e h) lt =
    mark_as f.given (next_from l W a (suc k) f.closed (omega (arith, f.given, f.whole)) (omega (arith, f.given, f.room)) e (omega (arith, f.given)) lt)
next_mark {G} {W} l a f (whole e) lt = absurd (next_none l a f.closed (omega (arith, f.given, f.whole)) lt)

cut_marks : {G W : ℕ} (w : Tick) (l : Line) (part : ℕ → ℕ → List ℕ) (n : ℕ) (c : Cut) → Filled G W l → Mark G W c.next → Marks G W c.kept
    → Mark G W (cut_of w l part n c).next × Marks G W (cut_of w l part n c).kept
unfolding cut_of cut_one
cut_marks w l part zero c f m k = (m, k)
cut_marks {G} {W} w l part (suc n) c f m k =
    let d = cut_of w l part n c in
    let i = cut_marks w l part n c f m k in
    if_case (λ (x : Cut). Mark G W x.next × Marks G W x.kept) (ltb (length d.kept) segments_most && ltb d.next (cut_to l d.next))
    (λ e.
    let lt : d.next < cut_to l d.next = ltb-true _ _ (and_right (ltb (length d.kept) segments_most) _ e) in
    let q = next_mark l d.next f i.0 lt in
    (q, more_marks {g = record { to = cut_to l d.next; at = w.now }} q i.1))
    (λ e. i)

pub cuts_send : {G W : ℕ} (w : Tick) (s : Sending) → Filled G W (line_of s) → Cuts G W s → Cuts G W (send_of w s).side
unfolding send_of steps_of cuts_of
cuts_send w s f k =
    let l = line_of s in
    let R = resend_of w l (part_of s) s.acked s.kept in
    let c = cut_marks w l (part_of s) (w.allowed - length R.sent) (record { next = s.next; sent = []; kept = R.kept }) f k.next (resend_marks w l (part_of s) s.acked k.kept) in
    let C = cuts_of w l (part_of s) s.acked s.next s.kept in
    record {
      acked = k.acked;
      next = rw (probe_next w l s.probed C) c.0;
      kept = rw (probe_kept w l s.probed C) c.1;
    }
