-- Every call keeps the remembered ticks past. Assumes nothing.
use Rattle.std.specs.Prelude.{◌≡◌, ◌&&◌, List, [], ◌∷◌, ◌++◌, length}
use Prim.Native.Nat.{ℕ, zero, suc, ◌+◌, ◌-◌, ◌≤◌}
use Rattle.std.proofs.Common.{arith}
use Rattle.std.proofs.Math.Dec.{ltb}
use Rattle.laws.specs.Choice.{if_case}
use Rattle.segments.specs.declared.Tick.{Tick}
use Rattle.segments.specs.declared.Line.{Line}
use Rattle.sending.specs.Sending.{segments_most, Segment, Probed, tick, Sending, fresh, line_of, part_of}
use Rattle.sending.specs.Giving.{give_of, finish_of}
use Rattle.sending.specs.Acking.{left_of, ack_of}
use Rattle.sending.specs.Steps.{Resent, due_of, again_of, resend_of, Cut, cut_to, cut_one, cut_of, cuts_of, probes_of, Work, probe_of, steps_of, send_of}
use Rattle.sending.specs.Past.{SentBy, none_sent, one_sent, ProbedBy, none_probed, one_probed, Past}
use Rattle.sending.specs.OrderLaws.{probe_kept}
use Rattle.sending.specs.TickLaws.{Last}

sent_by_up : {t n : ℕ} {gs : List Segment} → t ≤ n → SentBy t gs → SentBy n gs
sent_by_up h none_sent = none_sent
sent_by_up h (one_sent {g} {gs} a b) = one_sent {g = g} {gs = gs} (omega arith) (sent_by_up h b)

probed_by_up : {t n : ℕ} {q : Probed} → t ≤ n → ProbedBy t q → ProbedBy n q
probed_by_up h none_probed = none_probed
probed_by_up h (one_probed {n = m} a) = one_probed {n = m} (omega arith)

pub past_up : {t n : ℕ} {s : Sending} → t ≤ n → Past t s → Past n s
past_up h p = record { sent = sent_by_up h p.sent; probed = probed_by_up h p.probed }

pub past_fresh : (t : ℕ) → Past t fresh
unfolding fresh
past_fresh t = record { sent = none_sent; probed = none_probed }

pub past_give : {t : ℕ} {s : Sending} (bs : List ℕ) → Past t s → Past t (give_of s bs)
unfolding give_of
past_give bs p = record { sent = p.sent; probed = p.probed }

pub past_finish : {t : ℕ} {s : Sending} → Past t s → Past t (finish_of s)
unfolding finish_of
past_finish p = record { sent = p.sent; probed = p.probed }

left_by : {t : ℕ} (position : ℕ) {gs : List Segment} → SentBy t gs → SentBy t (left_of position gs)
unfolding left_of
left_by position none_sent = none_sent
left_by {t} position (one_sent {g} {gs} a b) =
    if_case (λ (ks : List Segment). SentBy t ks) (ltb position g.to) (λ e. one_sent {g = g} {gs = left_of position gs} a (left_by position b)) (λ e. left_by position b)

pub past_ack : {t : ℕ} {s : Sending} (position credit : ℕ) → Past t s → Past t (ack_of s position credit)
unfolding ack_of
past_ack {t} {s} position credit p = record {
  sent = left_by position p.sent;
  probed = if_case (λ (q : Probed). ProbedBy t q) (ltb s.limit (position + credit)) (λ e. none_probed) (λ e. p.probed);
}

module _ (w : Tick) (l : Line) (part : ℕ → ℕ → List ℕ) where
  resend_by : (acked : ℕ) {gs : List Segment} → SentBy w.now gs → SentBy w.now (resend_of w l part acked gs).kept
  unfolding resend_of again_of
  resend_by acked none_sent = none_sent
  resend_by acked (one_sent {g} {gs} a b) =
      let i = resend_by acked b in
      if_case (λ (r : Resent). SentBy w.now r.kept) (due_of w g.at (length (resend_of w l part acked gs).sent))
      (λ e. one_sent {g = record { to = g.to; at = w.now }} (omega arith) i)
      (λ e. one_sent {g = g} a i)

  cut_by : (n : ℕ) (c : Cut) → SentBy w.now c.kept → SentBy w.now (cut_of w l part n c).kept
  unfolding cut_of cut_one
  cut_by zero c b = b
  cut_by (suc n) c b =
      let d = cut_of w l part n c in
      let i = cut_by n c b in
      if_case (λ (x : Cut). SentBy w.now x.kept) (ltb (length d.kept) segments_most && ltb d.next (cut_to l d.next))
      (λ e. one_sent {g = record { to = cut_to l d.next; at = w.now }} (omega arith) i)
      (λ e. i)

  probe_by : (q : Probed) (c : Cut) → ProbedBy w.now q → ProbedBy w.now (probe_of w l q c).probed
  unfolding probe_of
  probe_by q c p =
      if_case (λ (k : Work). ProbedBy w.now k.probed) (probes_of w l q c.next (length c.kept) (length c.sent)) (λ e. one_probed {n = w.now} (omega arith)) (λ e. p)

pub past_send : {t : ℕ} {s : Sending} (w : Tick) → t ≤ w.now → Past t s → Past w.now (send_of w s).side
unfolding send_of steps_of cuts_of
past_send {t} {s} w h p =
    let l = line_of s in
    let q = past_up h p in
    let R = resend_of w l (part_of s) s.acked s.kept in
    let b = cut_by w l (part_of s) (w.allowed - length R.sent) (record { next = s.next; sent = []; kept = R.kept }) (resend_by w l (part_of s) s.acked q.sent) in
    record {
      sent = rw (probe_kept w l s.probed (cuts_of w l (part_of s) s.acked s.next s.kept)) b;
      probed = probe_by w l (part_of s) s.probed _ q.probed;
    }

-- so the oldest segment's last sending, and the last PROBE, are past
by_append : {t : ℕ} (gs ks : List Segment) → SentBy t (gs ++ ks) → SentBy t ks
by_append [] ks b = b
by_append (g ∷ gs) ks (one_sent a b) = by_append gs ks b

by_first : {t : ℕ} {g : Segment} {gs : List Segment} → SentBy t (g ∷ gs) → g.at ≤ t
by_first (one_sent a b) = a

pub oldest_past : {t : ℕ} {s : Sending} {g : Segment} → Past t s → Last g s.kept → g.at ≤ t
oldest_past {t} {g = g} p k = by_first (by_append k.newer (g ∷ []) (rw k.is at p.sent))

pub probe_past : {t n : ℕ} {s : Sending} → Past t s → s.probed ≡ tick n → n ≤ t
probe_past {t} {n} p e = go (rw e at p.probed)
  where
    go : ProbedBy t (tick n) → n ≤ t
    go (one_probed h) = h
