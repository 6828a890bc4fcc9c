-- What a tick sends ends at the next position or before: what was sent is counted by it. Assumes nothing.
use Rattle.std.specs.Prelude.{◌≡◌, refl, ◌&&◌, List, [], length}
use Prim.Native.Nat.{ℕ, zero, suc, ◌+◌, ◌-◌, ◌≤◌, ◌<◌}
use Rattle.std.proofs.Common.{arith, length-take}
use Rattle.std.proofs.Math.Dec.{ltb}
use borrow.Author.Tests.{ltb-true}
use Rattle.laws.specs.Choice.{if_case, ltb_case}
use Rattle.ring.specs.Ring.{capacity}
use Rattle.wire.specs.Datagram.{Message, DATA, PROBE}
use Rattle.segments.specs.declared.Tick.{Tick}
use Rattle.segments.specs.declared.Line.{Line}
use Rattle.sending.specs.Sending.{segments_most, Segment, Probed, Sending, fresh, line_of, start_of, part_of, size_of, data_of}
use Rattle.sending.specs.Steps.{Resent, due_of, again_of, resend_of, Cut, cut_to, cut_one, cut_of, cuts_of, probes_of, Work, probe_of, steps_of, send_of}
use Rattle.sending.specs.Buffers.{Chain, Orderly}
use Rattle.sending.specs.Buffers.Chain.{none, one}
use Rattle.sending.specs.True.{Each}
use Rattle.sending.specs.True.Each.{each_none, each_more}
use Rattle.segments.specs.StepLaws.{and_right}
use Rattle.sending.specs.OrderLaws.{Kept, kept_cut, kept_resend, cut_ends, begun, probe_next}
use Rattle.sending.specs.TrueLaws.{each_append, each_map}
use Rattle.sending.specs.TickLaws.{next_send}

-- a fresh sending side
pub record Fresh (s : Sending) : Type 0 where
  pub closed : s.closed ≡ 0
  pub next : s.next ≡ 0
  pub limit : s.limit ≡ capacity

pub fresh_is : Fresh fresh
unfolding fresh
fresh_is = record { closed = refl; next = refl; limit = refl }

-- a DATA that ends at n or before, its END counted
pub data Below (n : ℕ) : Message → Type 0 where
  data_below : {p : ℕ} {bs : List ℕ} {end : ℕ} → p + length bs + end ≤ n → Below n (DATA p bs end)
  probe_below : {p : ℕ} → Below n (PROBE p)

pub below_up : {n k : ℕ} {m : Message} → n ≤ k → Below n m → Below k m
below_up h (data_below {p} {bs} {end} l) = data_below {p = p} {bs = bs} {end = end} (omega arith)
below_up h probe_below = probe_below

-- parts that are never longer than asked for
module _ (l : Line) (closed : l.closed ≤ 1) (part : ℕ → ℕ → List ℕ) (short : (p n : ℕ) → length (part p n) ≤ n) where
  segment_below : (a b n : ℕ) → a < b → b ≤ l.given + l.closed → b ≤ n → Below n (data_of l.given part a b)
  unfolding data_of
  segment_below a b n lt top h =
      let k : ℕ = size_of l.given a b in
      let long = short a k in
      ltb_case (λ (e : ℕ). Below n (DATA a (part a k) e)) l.given b
      (λ g. data_below {p = a} {bs = part a k} {end = 1} (omega arith))
      (λ g. data_below {p = a} {bs = part a k} {end = 0} (omega arith))

  resend_below : (w : Tick) {acked : ℕ} (n : ℕ) {gs : List Segment} → Chain acked l.given gs → start_of acked gs ≤ l.given + l.closed → start_of acked gs ≤ n
      → Each (Below n) (resend_of w l part acked gs).sent
  unfolding resend_of again_of start_of
  resend_below w n none top h = each_none
  resend_below w {acked} n (one {g} {gs} a b c) top h =
      let i = resend_below w n c (omega arith) (omega arith) in
      if_case (λ (r : Resent). Each (Below n) r.sent) (due_of w g.at (length (resend_of w l part acked gs).sent))
      (λ e. each_more (segment_below (start_of acked gs) g.to n a top h) i)
      (λ e. i)

  cut_below : (w : Tick) {acked : ℕ} (n : ℕ) (c : Cut) → Kept acked l c → Each (Below c.next) c.sent → Each (Below (cut_of w l part n c).next) (cut_of w l part n c).sent
  unfolding cut_of cut_one
  cut_below w zero c k t = t
  cut_below w {acked} (suc n) c k t =
      let d = cut_of w l part n c in
      let i = kept_cut w l acked part n c k in
      let ih = cut_below w n c k t in
      if_case (λ (x : Cut). Each (Below x.next) x.sent) (ltb (length d.kept) segments_most && ltb d.next (cut_to l d.next))
      (λ e.
      let lt : d.next < cut_to l d.next = ltb-true _ _ (and_right (ltb (length d.kept) segments_most) _ e) in
      let top = (cut_ends l d.next i.top i.within).top in
      each_more (segment_below d.next (cut_to l d.next) (cut_to l d.next) lt top (omega arith)) (each_map (λ m b. below_up (omega arith) b) ih))
      (λ e. ih)

probe_below_all : (w : Tick) (l : Line) (probed : Probed) (c : Cut) {n : ℕ} → Each (Below n) c.sent → Each (Below n) (probe_of w l probed c).sent
unfolding probe_of
probe_below_all w l probed c {n} t =
    if_case (λ (k : Work). Each (Below n) k.sent) (probes_of w l probed c.next (length c.kept) (length c.sent)) (λ e. each_more probe_below t) (λ e. t)

part_short : (s : Sending) (p n : ℕ) → length (part_of s p n) ≤ n
unfolding part_of
part_short s p n = simp length-take (omega arith)

-- all that leaves in a tick lies below the next position after it
pub send_below : (w : Tick) (s : Sending) → Orderly s → Each (Below (send_of w s).side.next) (send_of w s).sent
unfolding send_of steps_of cuts_of
send_below w s o =
    let l = line_of s in
    let R = resend_of w l (part_of s) s.acked s.kept in
    let C = cuts_of w l (part_of s) s.acked s.next s.kept in
    let k = kept_resend w l s.acked (part_of s) s.next s.kept (begun o) in
    let up : s.next ≤ (send_of w s).side.next = next_send w s in
    let a = resend_below l o.closed (part_of s) (part_short s) w (send_of w s).side.next o.chain (omega (arith, o.last, o.top)) (omega (arith, o.last)) in
    let b = cut_below l o.closed (part_of s) (part_short s) w (w.allowed - length R.sent) (record { next = s.next; sent = []; kept = R.kept }) k each_none in
    let e : C.next ≤ (send_of w s).side.next = rw (probe_next w l s.probed C) (omega arith) in
    probe_below_all w l s.probed C (each_append (each_map (λ m q. below_up e q) b) a)
