-- What leaves in a tick, and when: the oldest segment again, a new one, a PROBE. Assumes nothing.
use Rattle.std.specs.Prelude.{◌≡◌, true, false, ◌&&◌, ℕ, zero, suc, ◌+◌, ◌-◌, ◌≤◌, ◌<◌, min, eqb, leb, length}
use Rattle.std.proofs.Math.Path.{refl, ap}
use Rattle.std.proofs.Common.{sym, ◌∙◌, arith, length-append, length-take, length-drop}
use mathlib.Core.List.{List, [], ◌∷◌, ◌++◌, append_assoc}
use Rattle.std.proofs.Math.Decide.{dec_lt}
use Rattle.std.proofs.Math.Dec.{ltb}
use borrow.Author.Tests.{eqb-true, ltb-true, lt-ltb, le-ltb, le-leb, lt-leb, eq-eqb}
use Rattle.laws.specs.Choice.{if_case}
use Rattle.wire.specs.Datagram.{payload_most, Message, DATA, PROBE}
use Rattle.segments.specs.declared.Tick.{Tick}
use Rattle.segments.specs.declared.Line.{Line}
use Rattle.sending.specs.Sending.{segments_most, Segment, Probed, never, tick, Sending, line_of, start_of, part_of, size_of, end_of, data_of}
use Rattle.sending.specs.Steps.{Resent, due_of, again_of, resend_of, Cut, bytes_to, cut_to, cut_one, cut_of, cuts_of, ago_of, probes_of, Work, probe_of, steps_of, send_of}
use Rattle.sending.specs.Buffers.{Chain, Orderly}
use Rattle.sending.specs.Buffers.Chain.{one}
use Rattle.sending.specs.Acking.{ack_of}
use Rattle.sending.specs.AckLaws.{Beyond, beyond}
use Rattle.sending.specs.CallLaws.{In, here, there}
use Rattle.segments.specs.StepLaws.{and_left, and_right, and_none, due_allowed, cut_send, cut_nothing, cut_stays}
use Rattle.sending.specs.OrderLaws.{acked_next, resend_length, Ends, cut_ends, probe_next, probe_kept}

-- x stands last: the oldest
pub record Last {A : Type 0} (x : A) (xs : List A) : Type 0 where
  pub newer : List A
  pub is : xs ≡ newer ++ (x ∷ [])

-- x stands somewhere
pub record Has {A : Type 0} (x : A) (xs : List A) : Type 0 where
  pub newer : List A
  pub older : List A
  pub is : xs ≡ newer ++ (x ∷ older)

last_cons : {A : Type 0} {x : A} {xs : List A} (y : A) → Last x xs → Last x (y ∷ xs)
last_cons y l = record { newer = y ∷ l.newer; is = ap (λ zs. y ∷ zs) l.is }

last_append : {A : Type 0} {x : A} {xs : List A} (ys : List A) → Last x xs → Last x (ys ++ xs)
last_append ys l = record { newer = ys ++ l.newer; is = rw l.is (sym (append_assoc ys l.newer _)) }

has_append : {A : Type 0} {x : A} {xs : List A} (ys : List A) → Has x xs → Has x (ys ++ xs)
has_append ys l = record { newer = ys ++ l.newer; older = l.older; is = rw l.is (sym (append_assoc ys l.newer _)) }

pub last_has : {A : Type 0} {x : A} {xs : List A} → Last x xs → Has x xs
last_has l = record { newer = l.newer; older = []; is = l.is }

in_middle : {A : Type 0} {x : A} (ys zs : List A) → In x (ys ++ (x ∷ zs))
in_middle [] zs = here
in_middle (y ∷ ys) zs = there (in_middle ys zs)

pub has_in : {A : Type 0} {x : A} {xs : List A} → Has x xs → In x xs
has_in k = rw k.is (in_middle k.newer k.older)

-- a DATA that carries all positions from a to b, the END among them where that is the last
pub data Covers (a b : ℕ) : Message → Type 0 where
  covers : {bs : List ℕ} {end : ℕ} → a + length bs + end ≡ b → Covers a b (DATA a bs end)

-- HOW MANY: at most what is allowed
resend_few : (w : Tick) (l : Line) (part : ℕ → ℕ → List ℕ) (acked : ℕ) (gs : List Segment) → length (resend_of w l part acked gs).sent ≤ w.allowed
unfolding resend_of again_of
resend_few w l part acked [] = omega arith
resend_few w l part acked (g ∷ gs) =
    if_case (λ (r : Resent). length r.sent ≤ w.allowed) (due_of w g.at (length (resend_of w l part acked gs).sent))
    (λ e. let h = due_allowed w g.at (length (resend_of w l part acked gs).sent) refl e in omega arith)
    (λ e. resend_few w l part acked gs)

-- what n turns of step 3 do: they put new ones in front
pub record Grown (n : ℕ) (c d : Cut) : Type 0 where
  pub news : List Message
  pub sent : d.sent ≡ news ++ c.sent
  pub few : length news ≤ n
  pub cuts : List Segment
  pub kept : d.kept ≡ cuts ++ c.kept
  pub up : c.next ≤ d.next

grown : (w : Tick) (l : Line) (part : ℕ → ℕ → List ℕ) (n : ℕ) (c : Cut) → Grown n c (cut_of w l part n c)
unfolding cut_of cut_one
grown w l part zero c = record { news = []; sent = refl; few = omega arith; cuts = []; kept = refl; up = omega arith }
grown w l part (suc n) c =
    let d = cut_of w l part n c in
    let g = grown w l part n c in
    if_case (λ (x : Cut). Grown (suc n) c x) (ltb (length d.kept) segments_most && ltb d.next (cut_to l d.next))
    (λ e.
    let lt : d.next < cut_to l d.next = ltb-true _ _ (and_right (ltb (length d.kept) segments_most) _ e) in
    record {
      news = data_of l.given part d.next (cut_to l d.next) ∷ g.news;
      sent = ap (λ (ms : List Message). data_of l.given part d.next (cut_to l d.next) ∷ ms) g.sent;
      few = omega (arith, g.few);
      cuts = record { to = cut_to l d.next; at = w.now } ∷ g.cuts;
      kept = ap (λ (gs : List Segment). record { to = cut_to l d.next; at = w.now } ∷ gs) g.kept;
      up = omega (arith, g.up);
    })
    (λ e. record { news = g.news; sent = g.sent; few = omega (arith, g.few); cuts = g.cuts; kept = g.kept; up = g.up })

probe_few : (w : Tick) (l : Line) (probed : Probed) (c : Cut) → length c.sent ≤ w.allowed → length (probe_of w l probed c).sent ≤ w.allowed
unfolding probe_of probes_of
probe_few w l probed c h =
    let t₁ = ltb c.next l.given in
    let t₂ = eqb (length c.kept) 0 in
    let t₃ = leb l.limit c.next in
    let t₄ = ltb (length c.sent) w.allowed in
    let t₅ = ago_of w probed in
    if_case (λ (k : Work). length k.sent ≤ w.allowed) (t₁ && (t₂ && (t₃ && (t₄ && t₅))))
    (λ e.
    let q = and_left t₄ t₅ (and_right t₃ (t₄ && t₅) (and_right t₂ (t₃ && (t₄ && t₅)) (and_right t₁ (t₂ && (t₃ && (t₄ && t₅))) e))) in
    let b = ltb-true (length c.sent) w.allowed q in
    omega arith)
    (λ e. h)

pub send_few : (w : Tick) (s : Sending) → length (send_of w s).sent ≤ w.allowed
unfolding send_of steps_of cuts_of
send_few w s =
    let l = line_of s in
    let R = resend_of w l (part_of s) s.acked s.kept in
    let n = w.allowed - length R.sent in
    let a = resend_few w l (part_of s) s.acked s.kept in
    let g = grown w l (part_of s) n (record { next = s.next; sent = []; kept = R.kept }) in
    probe_few w l s.probed _ (rw (length-append, g.sent, length-append) (omega (arith, g.few)))

-- what step 2 sends; at most one datagram for each segment
pub resent_of : Tick → Sending → List Message
resent_of w s = (resend_of w (line_of s) (part_of s) s.acked s.kept).sent

resend_each : (w : Tick) (l : Line) (part : ℕ → ℕ → List ℕ) (acked : ℕ) (gs : List Segment) → length (resend_of w l part acked gs).sent ≤ length gs
unfolding resend_of again_of
resend_each w l part acked [] = omega arith
resend_each w l part acked (g ∷ gs) =
    let i = resend_each w l part acked gs in
    if_case (λ (r : Resent). length r.sent ≤ suc (length gs)) (due_of w g.at (length (resend_of w l part acked gs).sent)) (λ e. omega arith) (λ e. omega arith)

pub resent_few : (w : Tick) (s : Sending) → length (resent_of w s) ≤ length s.kept
unfolding resent_of
resent_few w s = resend_each w (line_of s) (part_of s) s.acked s.kept

-- BOUNDS of segments never change: a tick puts new segments in front of those that were kept
pub data SameEnds : List Segment → List Segment → Type 0 where
  no_ends : SameEnds [] []
  same_end : {g h : Segment} {gs hs : List Segment} → g.to ≡ h.to → SameEnds gs hs → SameEnds (g ∷ gs) (h ∷ hs)

resend_ends : (w : Tick) (l : Line) (part : ℕ → ℕ → List ℕ) (acked : ℕ) (gs : List Segment) → SameEnds (resend_of w l part acked gs).kept gs
unfolding resend_of again_of
resend_ends w l part acked [] = no_ends
resend_ends w l part acked (g ∷ gs) =
    let i = resend_ends w l part acked gs in
    if_case (λ (r : Resent). SameEnds r.kept (g ∷ gs)) (due_of w g.at (length (resend_of w l part acked gs).sent)) (λ e. same_end refl i) (λ e. same_end refl i)

pub record EndsKept (gs hs : List Segment) : Type 0 where
  pub cuts : List Segment
  pub olds : List Segment
  pub is : hs ≡ cuts ++ olds
  pub same : SameEnds olds gs

pub send_ends : (w : Tick) (s : Sending) → EndsKept s.kept (send_of w s).side.kept
unfolding send_of steps_of cuts_of
send_ends w s =
    let l = line_of s in
    let R = resend_of w l (part_of s) s.acked s.kept in
    let g = grown w l (part_of s) (w.allowed - length R.sent) (record { next = s.next; sent = []; kept = R.kept }) in
    record { cuts = g.cuts; olds = R.kept; is = probe_kept w l s.probed _ ∙ g.kept; same = resend_ends w l (part_of s) s.acked s.kept }

pub next_send : (w : Tick) (s : Sending) → s.next ≤ (send_of w s).side.next
unfolding send_of steps_of cuts_of
next_send w s =
    let l = line_of s in
    let R = resend_of w l (part_of s) s.acked s.kept in
    let g = grown w l (part_of s) (w.allowed - length R.sent) (record { next = s.next; sent = []; kept = R.kept }) in
    let q = probe_next w l s.probed (cuts_of w l (part_of s) s.acked s.next s.kept) in
    omega (arith, g.up)

-- THE OLDEST SEGMENT
-- what a segment's DATA carries
part_length : (s : Sending) (p n : ℕ) → Orderly s → s.acked ≤ p → p + n ≤ s.given → length (part_of s p n) ≡ n
unfolding part_of
part_length s p n o h k = simp (length-take, length-drop) (omega (arith, o.held))

segment_covers : (s : Sending) (a b : ℕ) → Orderly s → s.acked ≤ a → a < b → Ends (line_of s) a b → Covers a b (data_of s.given (part_of s) a b)
unfolding data_of
segment_covers s a b o up lt e =
    let n = size_of s.given a b in
    let fits : a + n ≤ s.given = omega (arith, e.size, e.top, o.closed) in
    go (dec_lt s.given b) n (part_length s a n o up fits) (omega (arith, e.size, e.top, o.closed))
  where
    go : Dec (s.given < b) → (n : ℕ) → length (part_of s a n) ≡ n → a + n ≡ min b s.given → Covers a b (DATA a (part_of s a n) (end_of s.given b))
    go (yes h) n long is = rw (lt-ltb s.given b h) (covers {bs = part_of s a n} {end = 1} (omega (arith, e.top, o.closed)))
    go (no h) n long is = rw (le-ltb s.given b (omega arith)) (covers {bs = part_of s a n} {end = 0} (omega arith))

record OldestEnds (acked given to next : ℕ) : Type 0 where
  some : acked < to
  size : min to given ≤ acked + payload_most
  top : to ≤ next

oldest_ends : {acked given : ℕ} (gs : List Segment) (g : Segment) → Chain acked given (gs ++ (g ∷ [])) → OldestEnds acked given g.to (start_of acked (gs ++ (g ∷ [])))
unfolding start_of
oldest_ends [] g (one l m c) = record { some = l; size = m; top = omega arith }
oldest_ends (x ∷ gs) g (one l m c) = let i = oldest_ends gs g c in record { some = i.some; size = i.size; top = omega (arith, i.top) }

last_ends : {acked given : ℕ} {gs : List Segment} {g : Segment} → Chain acked given gs → Last g gs → OldestEnds acked given g.to (start_of acked gs)
last_ends {g = g} c k = rw k.is (oldest_ends k.newer g (rw k.is at c))

pub oldest_covers : (s : Sending) (g : Segment) → Orderly s → Last g s.kept → Covers s.acked g.to (data_of s.given (part_of s) s.acked g.to)
oldest_covers s g o k =
    let i = last_ends o.chain k in
    segment_covers s s.acked g.to o (omega arith) i.some (record { size = i.size; top = omega (arith, o.top, o.last, i.top); within = omega (arith, o.within, o.last, i.top) })

beyond_last : {acked given p : ℕ} {gs : List Segment} {g : Segment} → Chain acked given gs → Last g gs → p < g.to → Beyond acked p gs
beyond_last {acked} {given} {p} {g = g} c k h = rw k.is (beyond acked given p k.newer g h (rw k.is at c))

-- it is due, and one datagram is allowed: its DATA leaves, and its time is now
record Again (m : Message) (g : Segment) (r : Resent) : Type 0 where
  sent : Last m r.sent
  kept : Last g r.kept

module _ (w : Tick) (l : Line) (part : ℕ → ℕ → List ℕ) (acked : ℕ) (g : Segment) where
  again_oldest : w.every ≤ w.now - g.at → 0 < w.allowed → (gs : List Segment)
      → Again (data_of l.given part acked g.to) (record { to = g.to; at = w.now }) (resend_of w l part acked (gs ++ (g ∷ [])))
  unfolding resend_of again_of due_of start_of
  again_oldest h a [] =
      rw (le-leb w.every (w.now - g.at) h, lt-ltb 0 w.allowed a) (record { sent = record { newer = []; is = refl }; kept = record { newer = []; is = refl } })
  again_oldest h a (x ∷ gs) =
      let i = again_oldest h a gs in
      let r = resend_of w l part acked (gs ++ (g ∷ [])) in
      if_case (λ (r : Resent). Again (data_of l.given part acked g.to) (record { to = g.to; at = w.now }) r) (leb w.every (w.now - x.at) && ltb (length r.sent) w.allowed)
      (λ e. record { sent = last_cons _ i.sent; kept = last_cons _ i.kept })
      (λ e. record { sent = i.sent; kept = last_cons _ i.kept })

  -- it is not due: it stays as it is
  wait_oldest : w.now - g.at < w.every → (gs : List Segment) → Last g (resend_of w l part acked (gs ++ (g ∷ []))).kept
  unfolding resend_of again_of due_of
  wait_oldest h [] = rw (lt-leb w.every (w.now - g.at) h) (record { newer = []; is = refl })
  wait_oldest h (x ∷ gs) =
      let i = wait_oldest h gs in
      let r = resend_of w l part acked (gs ++ (g ∷ [])) in
      if_case (λ (r : Resent). Last g r.kept) (leb w.every (w.now - x.at) && ltb (length r.sent) w.allowed) (λ e. last_cons _ i) (λ e. last_cons _ i)

  again_last : {gs : List Segment} → Last g gs → w.every ≤ w.now - g.at → 0 < w.allowed → Again (data_of l.given part acked g.to) (record { to = g.to; at = w.now }) (resend_of w l part acked gs)
  again_last k h a = rw k.is (again_oldest h a k.newer)

  wait_last : {gs : List Segment} → Last g gs → w.now - g.at < w.every → Last g (resend_of w l part acked gs).kept
  wait_last k h = rw k.is (wait_oldest h k.newer)

probe_last : (w : Tick) (l : Line) (probed : Probed) (c : Cut) {m : Message} → Last m c.sent → Last m (probe_of w l probed c).sent
unfolding probe_of
probe_last w l probed c {m} k =
    if_case (λ (x : Work). Last m x.sent) (probes_of w l probed c.next (length c.kept) (length c.sent)) (λ e. last_cons (PROBE c.next) k) (λ e. k)

pub record SentAgain (w : Tick) (s : Sending) (g : Segment) : Type 0 where
  pub datagram : Message
  pub covers : Covers s.acked g.to datagram
  -- it leaves first of all
  pub sent : Last datagram (send_of w s).sent
  pub kept : Last (record { to = g.to; at = w.now }) (send_of w s).side.kept

pub oldest_again : (w : Tick) (s : Sending) (g : Segment) → Orderly s → Last g s.kept → w.every ≤ w.now - g.at → 0 < w.allowed → SentAgain w s g
unfolding send_of steps_of cuts_of
oldest_again w s g o k h a =
    let l = line_of s in
    let R = resend_of w l (part_of s) s.acked s.kept in
    let i = again_last w l (part_of s) s.acked g k h a in
    let C = cut_of w l (part_of s) (w.allowed - length R.sent) (record { next = s.next; sent = []; kept = R.kept }) in
    let n = grown w l (part_of s) (w.allowed - length R.sent) (record { next = s.next; sent = []; kept = R.kept }) in
    record {
      datagram = data_of s.given (part_of s) s.acked g.to;
      covers = oldest_covers s g o k;
      sent = probe_last w l s.probed _ (last_append C.sent i.sent);
      kept = rw (probe_kept w l s.probed (cuts_of w l (part_of s) s.acked s.next s.kept), n.kept) (last_append n.cuts i.kept);
    }

pub oldest_waits : (w : Tick) (s : Sending) (g : Segment) → Last g s.kept → w.now - g.at < w.every → Last g (send_of w s).side.kept
unfolding send_of steps_of cuts_of
oldest_waits w s g k h =
    let l = line_of s in
    let R = resend_of w l (part_of s) s.acked s.kept in
    let i = wait_last w l (part_of s) s.acked g k h in
    let n = grown w l (part_of s) (w.allowed - length R.sent) (record { next = s.next; sent = []; kept = R.kept }) in
    rw (probe_kept w l s.probed (cuts_of w l (part_of s) s.acked s.next s.kept), n.kept) (last_append n.cuts i)

-- an ACK below its end leaves it the oldest, and acked where it was
pub record OldestKept (s t : Sending) (g : Segment) : Type 0 where
  pub kept : Last g t.kept
  pub acked : t.acked ≡ s.acked

pub oldest_ack : (s : Sending) (position credit : ℕ) (g : Segment) → Orderly s → Last g s.kept → position < g.to → OldestKept s (ack_of s position credit) g
unfolding ack_of
oldest_ack s position credit g o k h =
    let b = beyond_last o.chain k h in
    record { kept = rw b.left k; acked = b.acked_is }

-- A NEW SEGMENT
-- the first turn may as well go first
cut_first : (w : Tick) (l : Line) (part : ℕ → ℕ → List ℕ) (n : ℕ) (c : Cut) → cut_of w l part (suc n) c ≡ cut_of w l part n (cut_one w l part c)
unfolding cut_of
cut_first w l part zero c = refl
cut_first w l part (suc n) c = ap (cut_one w l part) (cut_first w l part n c)

cut_one_first : (w : Tick) (l : Line) (part : ℕ → ℕ → List ℕ) (n : ℕ) (c : Cut) → 0 < n → cut_of w l part n c ≡ cut_of w l part (n - 1) (cut_one w l part c)
cut_one_first w l part n c h = let k : n ≡ suc (n - 1) = omega arith in ap (λ (i : ℕ). cut_of w l part i c) k ∙ cut_first w l part (n - 1) c

cut_to_bytes : (l : Line) (a : ℕ) → a < l.given → a < l.limit → a < cut_to l a
unfolding cut_to
cut_to_bytes l a h k = if_case (λ (b : ℕ). a < b) (eqb l.closed 1 && eqb (bytes_to l a) l.given) (λ e. omega arith) (λ e. omega arith)

cut_to_last : (l : Line) (a : ℕ) → l.closed ≡ 1 → a ≡ l.given → a < cut_to l a
unfolding cut_to
cut_to_last l a h k =
    let q : bytes_to l a ≡ l.given = omega arith in
    rw (eq-eqb l.closed 1 h, eq-eqb (bytes_to l a) l.given q) (omega arith)

pub record NewSegment (w : Tick) (s : Sending) : Type 0 where
  pub to : ℕ
  pub up : s.next < to
  pub datagram : Message
  pub covers : Covers s.next to datagram
  pub sent : Has datagram (send_of w s).sent
  pub kept : Has (record { to = to; at = w.now }) (send_of w s).side.kept
  pub next : to ≤ (send_of w s).side.next

probe_has : (w : Tick) (l : Line) (probed : Probed) (c : Cut) {m : Message} → Has m c.sent → Has m (probe_of w l probed c).sent
unfolding probe_of
probe_has w l probed c {m} k =
    if_case (λ (x : Work). Has m x.sent) (probes_of w l probed c.next (length c.kept) (length c.sent))
    (λ e. record { newer = PROBE c.next ∷ k.newer; older = k.older; is = ap (λ (ms : List Message). PROBE c.next ∷ ms) k.is })
    (λ e. k)

has_before : {A : Type 0} {x : A} {xs : List A} (ys : List A) → Has x xs → Has x (xs ++ ys)
has_before {x = x} ys k = record { newer = k.newer; older = k.older ++ ys; is = rw k.is (append_assoc k.newer (x ∷ k.older) ys) }

cut_segment : (w : Tick) (s : Sending) → Orderly s → length s.kept < segments_most → length (resent_of w s) < w.allowed → s.next < cut_to (line_of s) s.next → NewSegment w s
unfolding send_of steps_of cuts_of resent_of
cut_segment w s o few room lt =
    let l = line_of s in
    let R = resend_of w l (part_of s) s.acked s.kept in
    let c : Cut = record { next = s.next; sent = []; kept = R.kept } in
    let n = w.allowed - length R.sent in
    let d = cut_one w l (part_of s) c in
    let b = cut_to l s.next in
    let m = data_of s.given (part_of s) s.next b in
    let u : length R.kept < segments_most = omega (arith, resend_length w l (part_of s) s.acked s.kept) in
    let one : d ≡ record { next = b; sent = m ∷ []; kept = record { to = b; at = w.now } ∷ R.kept } = cut_send w l (part_of s) c u lt in
    let e = cut_one_first w l (part_of s) n c (omega arith) in
    let g : Grown (n - 1) d (cut_of w l (part_of s) n c) = rw e (grown w l (part_of s) (n - 1) d) in
    let C = cut_of w l (part_of s) n c in
    let hm : Has m C.sent = record { newer = g.news; older = []; is = g.sent ∙ rw one } in
    let hk : Has (record { to = b; at = w.now }) C.kept = record { newer = g.cuts; older = R.kept; is = g.kept ∙ rw one } in
    let up : b ≤ C.next = omega (arith, g.up, ap (λ (x : Cut). x.next) one) in
    let i = cut_ends l s.next o.top o.within in
    let D = cuts_of w l (part_of s) s.acked s.next s.kept in
    let pn = probe_next w l s.probed D in
    record {
      to = b;
      up = lt;
      datagram = m;
      covers = segment_covers s s.next b o (acked_next o) lt i;
      sent = probe_has w l s.probed _ (has_before R.sent hm);
      kept = rw (probe_kept w l s.probed D) hk;
      next = omega arith;
    }

-- bytes wait, and there is room for them
pub cut_new : (w : Tick) (s : Sending) → Orderly s → length s.kept < segments_most → length (resent_of w s) < w.allowed → s.next < s.given → s.next < s.limit → NewSegment w s
cut_new w s o few room h k = cut_segment w s o few room (cut_to_bytes (line_of s) s.next h k)

-- only the END waits; it needs no credit
pub cut_last : (w : Tick) (s : Sending) → Orderly s → length s.kept < segments_most → length (resent_of w s) < w.allowed → s.closed ≡ 1 → s.next ≡ s.given → NewSegment w s
cut_last w s o few room h k = cut_segment w s o few room (cut_to_last (line_of s) s.next h k)

-- A PROBE: bytes wait, nothing is kept, and there is no room
pub record Waits (s : Sending) : Type 0 where
  pub bytes : s.next < s.given
  pub nothing : s.kept ≡ []
  pub full : s.limit ≤ s.next

no_cut : (l : Line) (a : ℕ) → a < l.given → l.limit ≤ a → cut_to l a ≤ a
unfolding cut_to
no_cut l a h k =
    if_case (λ (b : ℕ). b ≤ a) (eqb l.closed 1 && eqb (bytes_to l a) l.given)
    (λ e. let q : bytes_to l a ≡ l.given = eqb-true _ _ (and_right (eqb l.closed 1) _ e) in omega arith)
    (λ e. omega arith)

-- then neither step 2 nor step 3 does anything
quiet : (w : Tick) (l : Line) (part : ℕ → ℕ → List ℕ) (acked next : ℕ) {gs : List Segment} → gs ≡ [] → next < l.given → l.limit ≤ next
    → cuts_of w l part acked next gs ≡ record { next = next; sent = []; kept = [] }
unfolding cuts_of resend_of cut_of
quiet w l part acked next z h k =
    let c : Cut = record { next = next; sent = []; kept = [] } in
    let e = cut_stays w l part 0 (w.allowed - 0) c (omega arith) (cut_nothing w l part c (omega arith) (no_cut l next h k)) in
    rw (z, e)

module _ (w : Tick) (s : Sending) (h : Waits s) where
  quiet_cuts : cuts_of w (line_of s) (part_of s) s.acked s.next s.kept ≡ record { next = s.next; sent = []; kept = [] }
  quiet_cuts = quiet w (line_of s) (part_of s) s.acked s.next h.nothing h.bytes h.full

  -- a tick leaves it so
  pub waits_send : Waits (send_of w s).side
  unfolding send_of steps_of
  waits_send =
      let c = cuts_of w (line_of s) (part_of s) s.acked s.next s.kept in
      let n : (probe_of w (line_of s) s.probed c).next ≡ s.next = probe_next w (line_of s) s.probed c ∙ ap (λ (x : Cut). x.next) quiet_cuts in
      record {
        bytes = omega (arith, h.bytes);
        nothing = probe_kept w (line_of s) s.probed c ∙ ap (λ (x : Cut). x.kept) quiet_cuts;
        full = omega (arith, h.full);
      }

probes_none : (w : Tick) (l : Line) (t next kept sent : ℕ) → w.now - t < w.every → probes_of w l (tick t) next kept sent ≡ false
unfolding probes_of ago_of
probes_none w l t next kept sent h =
    let q = lt-leb w.every (w.now - t) h in
    and_none (ltb next l.given) _ (and_none (eqb kept 0) _ (and_none (leb l.limit next) _ (and_none (ltb sent w.allowed) _ q)))

pub record ProbeSent (w : Tick) (s : Sending) : Type 0 where
  pub sent : (send_of w s).sent ≡ PROBE s.next ∷ []
  pub probed : (send_of w s).side.probed ≡ tick w.now

probe_sent : (w : Tick) (s : Sending) → Waits s → 0 < w.allowed → ago_of w s.probed ≡ true → ProbeSent w s
unfolding send_of steps_of probe_of probes_of
probe_sent w s h a q =
    let e = quiet_cuts w s h in
    let t₁ = lt-ltb s.next s.given h.bytes in
    let t₃ = le-leb s.limit s.next h.full in
    let t₄ = lt-ltb 0 w.allowed a in
    record { sent = rw (e, t₁, t₃, t₄, q); probed = rw (e, t₁, t₃, t₄, q) }

-- at once where none was sent since room ran out
pub probe_first : (w : Tick) (s : Sending) → Waits s → 0 < w.allowed → s.probed ≡ never → ProbeSent w s
unfolding ago_of
probe_first w s h a p = probe_sent w s h a (rw p)

-- and again when R ticks have gone
pub probe_again : (w : Tick) (s : Sending) (t : ℕ) → Waits s → 0 < w.allowed → s.probed ≡ tick t → w.every ≤ w.now - t → ProbeSent w s
unfolding ago_of
probe_again w s t h a p q = probe_sent w s h a (rw p (le-leb w.every (w.now - t) q))

-- not before
pub record ProbeWaits (w : Tick) (s : Sending) (t : ℕ) : Type 0 where
  pub sent : (send_of w s).sent ≡ []
  pub probed : (send_of w s).side.probed ≡ tick t

pub probe_waits : (w : Tick) (s : Sending) (t : ℕ) → Waits s → s.probed ≡ tick t → w.now - t < w.every → ProbeWaits w s t
unfolding send_of steps_of probe_of
probe_waits w s t h p q =
    let e = quiet_cuts w s h in
    let z = probes_none w (line_of s) t s.next 0 0 q in
    record { sent = rw (e, p, z); probed = rw (e, p, z) }
