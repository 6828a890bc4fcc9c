-- Every call keeps a sending side orderly. Assumes nothing.
use Rattle.std.specs.Prelude.{◌≡◌, ◌&&◌, eqb}
use Rattle.std.proofs.Math.Path.{refl, ap}
use Rattle.std.proofs.Common.{sym, ◌∙◌, arith, length-append, length-take, length-drop}
use mathlib.Core.List.{List, [], ◌∷◌}
use Prim.Native.Nat.{ℕ, zero, suc, ◌+◌, ◌-◌, ◌≤◌, ◌<◌, min, max}
use Rattle.std.proofs.Math.Decide.{dec_lt}
use Rattle.std.proofs.Math.Dec.{ltb}
use Rattle.std.proofs.Math.ListN.{length}
use borrow.Author.Tests.{eqb-true, ltb-true, lt-ltb, le-ltb}
use Rattle.laws.specs.Choice.{if_case}
use Rattle.wire.specs.Datagram.{payload_most}
use Rattle.segments.specs.declared.Tick.{Tick}
use Rattle.segments.specs.declared.Line.{Line}
use Rattle.sending.specs.Sending.{segments_most, Segment, Probed, Sending, fresh, line_of, start_of, part_of}
use Rattle.sending.specs.Giving.{taken_of, give_of, finish_of}
use Rattle.sending.specs.Acking.{left_of, acked_of, ack_of}
use Rattle.sending.specs.Steps.{Resent, due_of, again_of, resend_of, Cut, bytes_to, cut_to, cut_one, cut_of, cuts_of, probes_of, Work, probe_of, steps_of, send_of}
use Rattle.sending.specs.Buffers.{Chain, Orderly}
use Rattle.sending.specs.Buffers.Chain.{none, one}
use Rattle.sending.specs.GiveLaws.{room_closed, room_small, room_whole}
use Rattle.segments.specs.StepLaws.{and_left, and_right}

pub orderly_fresh : Orderly fresh
unfolding fresh start_of
orderly_fresh = record {
  chain = none;
  last = refl;
  few = omega arith;
  top = omega arith;
  closed = omega arith;
  within = omega arith;
  held = refl;
  room = omega arith;
  whole = omega arith;
}

-- a chain's end is not below its start
pub chain_up : {acked given : ℕ} {gs : List Segment} → Chain acked given gs → acked ≤ start_of acked gs
unfolding start_of
chain_up none = omega arith
chain_up (one l m c) = let i = chain_up c in omega arith

pub acked_next : {s : Sending} → Orderly s → s.acked ≤ s.next
acked_next o = omega (arith, chain_up o.chain, o.last)

pub next_given : {s : Sending} → Orderly s → s.next ≤ s.given + 1
next_given o = omega (arith, o.top, o.closed)

-- GIVE: bytes come after all segments
chain_grow : {acked given n : ℕ} {gs : List Segment} → Chain acked given gs → start_of acked gs ≤ given → given ≤ n → Chain acked n gs
unfolding start_of
chain_grow none a b = none
chain_grow (one {g} {gs} l m c) a b = one {g = g} {gs = gs} l (omega arith) (chain_grow c (omega arith) b)

-- after the END there is room for nothing
pub taken_end : (s : Sending) (bs : List ℕ) → Orderly s → s.given < s.next → taken_of s bs ≡ 0
taken_end s bs o h =
    let e = room_closed (line_of s) s.acked (omega (arith, o.top, o.closed)) in
    omega arith

pub orderly_give : (s : Sending) (bs : List ℕ) → Orderly s → Orderly (give_of s bs)
unfolding give_of
orderly_give s bs o = go (dec_lt s.given s.next)
  where
    go : Dec (s.given < s.next) → Orderly (give_of s bs)
    go (yes h) =
        let z = taken_end s bs o h in
        let e : s.given + taken_of s bs ≡ s.given = omega arith in
        record {
          chain = rw e o.chain;
          last = o.last;
          few = o.few;
          top = omega (arith, o.top);
          closed = o.closed;
          within = rw e o.within;
          held = simp (length-append, length-take) (omega (arith, o.held));
          room = omega (arith, o.room);
          whole = omega (arith, o.whole);
        }
    go (no h) =
        let a = acked_next o in
        let small = room_small (line_of s) s.acked in
        let whole = room_whole (line_of s) s.acked in
        record {
          chain = chain_grow o.chain (omega (arith, o.last)) (omega arith);
          last = o.last;
          few = o.few;
          top = omega (arith, o.top);
          closed = o.closed;
          within = omega (arith, o.within);
          held = simp (length-append, length-take) (omega (arith, o.held));
          room = omega (arith, o.room);
          whole = omega (arith, o.whole);
        }

pub orderly_finish : (s : Sending) → Orderly s → Orderly (finish_of s)
unfolding finish_of
orderly_finish s o = record {
  chain = o.chain;
  last = o.last;
  few = o.few;
  top = omega (arith, o.top, o.closed);
  closed = omega arith;
  within = o.within;
  held = o.held;
  room = o.room;
  whole = o.whole;
}

-- ACK
-- where the newest segment ends at the position or before, none is left
left_none : {acked given : ℕ} {gs : List Segment} (p : ℕ) → Chain acked given gs → start_of acked gs ≤ p → left_of p gs ≡ []
unfolding left_of start_of
left_none p none h = refl
left_none p (one {g} {gs} l m c) h = rw (le-ltb p g.to h, left_none p c (omega arith))

-- what is left is a chain from the new acked on, which is no higher than the position
pub record Dropped (acked given p : ℕ) (gs : List Segment) : Type 0 where
  pub chain : Chain (acked_of acked p gs) given (left_of p gs)
  pub start : start_of (acked_of acked p gs) (left_of p gs) ≡ start_of acked gs
  pub few : length (left_of p gs) ≤ length gs
  pub up : acked ≤ acked_of acked p gs
  pub below : acked_of acked p gs ≤ max acked p

pub dropped : {acked given : ℕ} {gs : List Segment} (p : ℕ) → Chain acked given gs → Dropped acked given p gs
unfolding left_of acked_of start_of
dropped p none = record { chain = none; start = refl; few = omega arith; up = omega arith; below = omega arith }
dropped {acked} {given} p (one {g} {gs} l m c) = go (dec_lt p g.to) (dropped p c)
  where
    go : Dec (p < g.to) → Dropped acked given p gs → Dropped acked given p (g ∷ gs)
    go (yes h) i =
        let t = lt-ltb p g.to h in
        record {
          chain = rw t (one {g = g} {gs = left_of p gs} (rw i.start l) (rw i.start m) i.chain);
          start = rw t;
          few = rw t (omega (arith, i.few));
          up = rw t i.up;
          below = rw t i.below;
        }
    go (no h) i =
        let u = chain_up c in
        let t = le-ltb p g.to (omega arith) in
        let z = left_none p c (omega arith) in
        record { chain = rw (t, z) none; start = rw (t, z); few = rw (t, z) (omega arith); up = rw t (omega arith); below = rw t (omega arith) }

pub orderly_ack : (s : Sending) (position credit : ℕ) → Orderly s → Orderly (ack_of s position credit)
unfolding ack_of
orderly_ack s position credit o =
    let d = dropped position o.chain in
    record {
      chain = d.chain;
      last = o.last ∙ sym d.start;
      few = omega (arith, d.few, o.few);
      top = o.top;
      closed = o.closed;
      within = omega (arith, o.within);
      held = simp length-drop (omega (arith, o.held, d.up));
      room = omega (arith, o.room, d.up);
      whole = o.whole;
    }

-- STEP 2 leaves the segments' bounds as they are
module _ (w : Tick) (l : Line) (part : ℕ → ℕ → List ℕ) (acked : ℕ) where
  pub resend_start : (gs : List Segment) → start_of acked (resend_of w l part acked gs).kept ≡ start_of acked gs
  unfolding resend_of again_of start_of
  resend_start [] = refl
  resend_start (g ∷ gs) =
      if_case (λ (k : Resent). start_of acked k.kept ≡ g.to) (due_of w g.at (length (resend_of w l part acked gs).sent)) (λ e. refl) (λ e. refl)

  pub resend_length : (gs : List Segment) → length (resend_of w l part acked gs).kept ≡ length gs
  unfolding resend_of again_of
  resend_length [] = refl
  resend_length (g ∷ gs) =
      if_case (λ (k : Resent). length k.kept ≡ suc (length gs)) (due_of w g.at (length (resend_of w l part acked gs).sent))
      (λ e. ap suc (resend_length gs))
      (λ e. ap suc (resend_length gs))

  pub resend_chain : {given : ℕ} {gs : List Segment} → Chain acked given gs → Chain acked given (resend_of w l part acked gs).kept
  unfolding resend_of again_of
  resend_chain none = none
  resend_chain {given} (one {g} {gs} a b c) =
      let i = resend_chain c in
      let h : start_of acked (resend_of w l part acked gs).kept < g.to = rw (resend_start gs) a in
      let k : min g.to given ≤ start_of acked (resend_of w l part acked gs).kept + payload_most = rw (resend_start gs) b in
      if_case (λ (r : Resent). Chain acked given r.kept) (due_of w g.at (length (resend_of w l part acked gs).sent)) (λ e. one h k i) (λ e. one h k i)

-- STEP 3: where a new segment ends
pub record Ends (l : Line) (a b : ℕ) : Type 0 where
  pub size : min b l.given ≤ a + payload_most
  pub top : b ≤ l.given + l.closed
  pub within : min b l.given ≤ l.limit

pub cut_ends : (l : Line) (a : ℕ) → a ≤ l.given + l.closed → min a l.given ≤ l.limit → Ends l a (cut_to l a)
unfolding cut_to
cut_ends l a h k =
    if_case (λ (b : ℕ). Ends l a b) (eqb l.closed 1 && eqb (bytes_to l a) l.given)
    (λ e.
    let p : l.closed ≡ 1 = eqb-true _ _ (and_left _ _ e) in
    let q : bytes_to l a ≡ l.given = eqb-true _ _ (and_right (eqb l.closed 1) _ e) in
    record { size = omega arith; top = omega arith; within = omega arith })
    (λ e. record { size = omega arith; top = omega arith; within = omega arith })

-- what holds of the segments while new ones are cut
pub record Kept (acked : ℕ) (l : Line) (c : Cut) : Type 0 where
  pub chain : Chain acked l.given c.kept
  pub last : c.next ≡ start_of acked c.kept
  pub few : length c.kept ≤ segments_most
  pub top : c.next ≤ l.given + l.closed
  pub within : min c.next l.given ≤ l.limit

module _ (w : Tick) (l : Line) (acked : ℕ) where
  kept_one : (part : ℕ → ℕ → List ℕ) (c : Cut) → Kept acked l c → Kept acked l (cut_one w l part c)
  unfolding cut_one start_of
  kept_one part c k =
      if_case (λ (d : Cut). Kept acked l d) (ltb (length c.kept) segments_most && ltb c.next (cut_to l c.next))
      (λ e.
      let u : length c.kept < segments_most = ltb-true _ _ (and_left _ _ e) in
      let v : c.next < cut_to l c.next = ltb-true _ _ (and_right (ltb (length c.kept) segments_most) _ e) in
      let i = cut_ends l c.next k.top k.within in
      record {
        chain = one (omega (arith, k.last)) (omega (arith, k.last, i.size)) k.chain;
        last = refl;
        few = omega arith;
        top = i.top;
        within = i.within;
      })
      (λ e. k)

  pub kept_cut : (part : ℕ → ℕ → List ℕ) (n : ℕ) (c : Cut) → Kept acked l c → Kept acked l (cut_of w l part n c)
  unfolding cut_of
  kept_cut part zero c k = k
  kept_cut part (suc n) c k = kept_one part _ (kept_cut part n c k)

  -- after step 2
  pub kept_resend : (part : ℕ → ℕ → List ℕ) (next : ℕ) (gs : List Segment) → Kept acked l (record { next = next; sent = []; kept = gs })
      → Kept acked l (record { next = next; sent = []; kept = (resend_of w l part acked gs).kept })
  kept_resend part next gs k = record {
    chain = resend_chain w l part acked k.chain;
    last = k.last ∙ sym (resend_start w l part acked gs);
    few = rw (resend_length w l part acked gs) k.few;
    top = k.top;
    within = k.within;
  }

  -- after both
  pub kept_cuts : (part : ℕ → ℕ → List ℕ) (next : ℕ) (gs : List Segment) → Kept acked l (record { next = next; sent = []; kept = gs }) → Kept acked l (cuts_of w l part acked next gs)
  unfolding cuts_of
  kept_cuts part next gs k =
      let j = kept_cut part (w.allowed - length (resend_of w l part acked gs).sent) _ (kept_resend part next gs k) in
      record { chain = j.chain; last = j.last; few = j.few; top = j.top; within = j.within }

-- STEP 4 leaves the segments
pub probe_next : (w : Tick) (l : Line) (probed : Probed) (c : Cut) → (probe_of w l probed c).next ≡ c.next
unfolding probe_of
probe_next w l probed c = if_case (λ (k : Work). k.next ≡ c.next) (probes_of w l probed c.next (length c.kept) (length c.sent)) (λ e. refl) (λ e. refl)

pub probe_kept : (w : Tick) (l : Line) (probed : Probed) (c : Cut) → (probe_of w l probed c).kept ≡ c.kept
unfolding probe_of
probe_kept w l probed c = if_case (λ (k : Work). k.kept ≡ c.kept) (probes_of w l probed c.next (length c.kept) (length c.sent)) (λ e. refl) (λ e. refl)

pub begun : {s : Sending} → Orderly s → Kept s.acked (line_of s) (record { next = s.next; sent = []; kept = s.kept })
begun o = record { chain = o.chain; last = o.last; few = o.few; top = o.top; within = o.within }

pub orderly_send : (w : Tick) (s : Sending) → Orderly s → Orderly (send_of w s).side
unfolding send_of steps_of
orderly_send w s o =
    let c = cuts_of w (line_of s) (part_of s) s.acked s.next s.kept in
    let k = kept_cuts w (line_of s) s.acked (part_of s) s.next s.kept (begun o) in
    let n = probe_next w (line_of s) s.probed c in
    let g = probe_kept w (line_of s) s.probed c in
    record {
      chain = rw g k.chain;
      last = rw (n, g) k.last;
      few = rw g k.few;
      top = rw n k.top;
      closed = o.closed;
      within = rw n k.within;
      held = o.held;
      room = o.room;
      whole = o.whole;
    }
