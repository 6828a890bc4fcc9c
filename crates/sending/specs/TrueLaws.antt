-- A sending side holds and sends only what is true of the bytes that were given. Assumes nothing.
use Rattle.std.specs.Prelude.{◌≡◌, refl, ◌&&◌, List, [], ◌++◌, eqb, leb, take}
use Prim.Native.Nat.{ℕ, zero, suc, ◌+◌, ◌-◌, ◌≤◌, ◌<◌, min}
use Rattle.std.proofs.Math.Decide.{dec_lt}
use Rattle.std.proofs.Common.{arith, length-append, length-take, length-drop}
use Rattle.std.proofs.Math.Dec.{ltb}
use Rattle.std.proofs.Math.ListN.{length}
use borrow.Author.Tests.{ltb-true, lt-ltb, le-ltb}
use Rattle.laws.specs.Choice.{if_case}
use Rattle.laws.specs.History.{Says}
use Rattle.laws.specs.History.Says.{none as said}
use Rattle.laws.specs.HistoryLaws.{says_grow, says_at, says_take, says_drop, says_append, says_end}
use Rattle.wire.specs.Datagram.{Message, DATA}
use Rattle.segments.specs.declared.Tick.{Tick}
use Rattle.segments.specs.declared.Line.{Line}
use Rattle.sending.specs.Sending.{segments_most, Segment, Probed, Sending, fresh, line_of, start_of, part_of, size_of, end_of, data_of}
use Rattle.sending.specs.Giving.{taken_of, give_of, finish_of}
use Rattle.sending.specs.Acking.{acked_of, ack_of}
use Rattle.sending.specs.Steps.{Resent, due_of, again_of, resend_of, Cut, cut_to, cut_one, cut_of, cuts_of, ago_of, probes_of, Work, probe_of, steps_of, send_of}
use Rattle.sending.specs.Buffers.{Chain}
use Rattle.sending.specs.Buffers.Chain.{none, one}
use Rattle.sending.specs.True.{True, Each, SendingOK}
use Rattle.sending.specs.True.True.{data_true, probe_true}
use Rattle.sending.specs.True.Each.{each_none, each_more}
use Rattle.sending.specs.CallLaws.{In, here, there}
use Rattle.segments.specs.StepLaws.{and_left, and_right}
use Rattle.sending.specs.OrderLaws.{orderly_fresh, chain_up, acked_next, taken_end, orderly_give, orderly_finish, dropped, orderly_ack, orderly_send, Ends, cut_ends, Kept, kept_cut, kept_resend, begun}

-- EACH
pub each_append : {P : Message → Type 0} {ms ks : List Message} → Each P ms → Each P ks → Each P (ms ++ ks)
each_append each_none b = b
each_append (each_more p a) b = each_more p (each_append a b)

pub each_map : {P Q : Message → Type 0} {ms : List Message} → ((m : Message) → P m → Q m) → Each P ms → Each Q ms
each_map f each_none = each_none
each_map f (each_more {m} p a) = each_more (f m p) (each_map f a)

-- what holds of each holds of one of them
pub each_in : {P : Message → Type 0} {m : Message} {ms : List Message} → Each P ms → In m ms → P m
each_in each_none i = elim i [ ]
each_in (each_more p a) here = p
each_in (each_more p a) (there i) = each_in a i

-- TRUE stays true: bytes are given before finish only, finish is called, the limit rises
pub true_grow : {H : List ℕ} {limit : ℕ} {m : Message} (K : List ℕ) → True H 0 limit m → True (H ++ K) 0 limit m
true_grow {H} K (data_true {p} {bs} {end} t) =
    data_true (record {
      says = says_grow K t.says;
      finished = t.finished;
      whole = λ e. let z = t.finished e in absurd (omega arith);
      inside = simp length-append (omega (arith, t.inside));
      within = t.within;
      short = t.short;
      flag = t.flag;
      some = t.some;
    })
true_grow {H} K (probe_true {p} h) = probe_true {p = p} (simp length-append (omega arith))

pub true_up : {H : List ℕ} {closed limit limit' : ℕ} {m : Message} → limit ≤ limit' → True H closed limit m → True H closed limit' m
true_up h (data_true t) =
    data_true (record {
      says = t.says;
      finished = t.finished;
      whole = t.whole;
      inside = t.inside;
      within = omega (arith, t.within);
      short = t.short;
      flag = t.flag;
      some = t.some;
    })
true_up h (probe_true k) = probe_true k

pub true_finish : {H : List ℕ} {closed limit : ℕ} {m : Message} → True H closed limit m → True H 1 limit m
true_finish (data_true t) =
    data_true (record {
      says = t.says;
      finished = λ e. refl;
      whole = t.whole;
      inside = t.inside;
      within = t.within;
      short = t.short;
      flag = t.flag;
      some = t.some;
    })
true_finish (probe_true k) = probe_true k

-- THE CALLS
pub sending_start : SendingOK [] 0 fresh
unfolding fresh
sending_start = record { orderly = orderly_fresh; says = said; given = refl; behind = omega arith }

pub sending_up : {H : List ℕ} {lo hi : ℕ} {s : Sending} → lo ≤ hi → SendingOK H lo s → SendingOK H hi s
sending_up h v = record { orderly = v.orderly; says = v.says; given = v.given; behind = omega (arith, v.behind) }

-- what was taken follows all that was given before
taken_says : {H : List ℕ} {lo : ℕ} {s : Sending} (bs : List ℕ) → SendingOK H lo s → Says (H ++ take (taken_of s bs) bs) (s.acked + length s.bytes) (take (taken_of s bs) bs)
taken_says {H} {lo} {s} bs v = go (dec_lt s.given s.acked)
  where
    go : Dec (s.given < s.acked) → Says (H ++ take (taken_of s bs) bs) (s.acked + length s.bytes) (take (taken_of s bs) bs)
    go (yes h) =
        let a = acked_next v.orderly in
        rw (taken_end s bs v.orderly (omega arith)) said
    go (no h) = says_at (says_end H (take (taken_of s bs) bs)) (omega (arith, v.given, v.orderly.held))

pub sending_give : {H : List ℕ} {lo : ℕ} {s : Sending} (bs : List ℕ) → SendingOK H lo s → SendingOK (H ++ take (taken_of s bs) bs) lo (give_of s bs)
unfolding give_of
sending_give {H} {lo} {s} bs v = record {
  orderly = orderly_give s bs v.orderly;
  says = says_append (says_grow _ v.says) (taken_says bs v);
  given = simp (length-append, length-take) (omega (arith, v.given));
  behind = v.behind;
}

pub sending_finish : {H : List ℕ} {lo : ℕ} {s : Sending} → SendingOK H lo s → SendingOK H lo (finish_of s)
unfolding finish_of
sending_finish {s = s} v = record { orderly = orderly_finish s v.orderly; says = v.says; given = v.given; behind = v.behind }

-- an ACK whose position the peer has truly reached
pub sending_ack : {H : List ℕ} {lo : ℕ} {s : Sending} (position credit : ℕ) → position ≤ lo → SendingOK H lo s → SendingOK H lo (ack_of s position credit)
unfolding ack_of
sending_ack {s = s} position credit h v =
    let d = dropped position v.orderly.chain in
    record {
      orderly = orderly_ack s position credit v.orderly;
      says = says_at (says_drop (acked_of s.acked position s.kept - s.acked) v.says) (omega (arith, d.up));
      given = v.given;
      behind = omega (arith, v.behind, d.below);
    }

pub sending_send : {H : List ℕ} {lo : ℕ} {s : Sending} (w : Tick) → SendingOK H lo s → SendingOK H lo (send_of w s).side
unfolding send_of
sending_send {s = s} w v = record { orderly = orderly_send w s v.orderly; says = v.says; given = v.given; behind = v.behind }

-- WHAT IS SENT
-- the bytes between acked and given
pub record Parts (H : List ℕ) (acked given : ℕ) (part : ℕ → ℕ → List ℕ) : Type 0 where
  pub all : given ≡ length H
  pub says : (p n : ℕ) → acked ≤ p → p + n ≤ given → Says H p (part p n)
  pub long : (p n : ℕ) → acked ≤ p → p + n ≤ given → length (part p n) ≡ n

parts_of : {H : List ℕ} {lo : ℕ} {s : Sending} → SendingOK H lo s → Parts H s.acked s.given (part_of s)
unfolding part_of
parts_of {s = s} v = record {
  all = v.given;
  says = λ p n h k. says_take n (says_at (says_drop (p - s.acked) v.says) (omega arith));
  long = λ p n h k. simp (length-take, length-drop) (omega (arith, v.orderly.held));
}

-- a segment's DATA is true
module _ {H : List ℕ} {acked : ℕ} (l : Line) {part : ℕ → ℕ → List ℕ} (v : Parts H acked l.given part) (closed : l.closed ≤ 1) where
  segment_true : (a b : ℕ) → acked ≤ a → a < b → Ends l a b → True H l.closed l.limit (data_of l.given part a b)
  unfolding data_of
  segment_true a b up lt e =
      let n = size_of l.given a b in
      let fits : a + n ≤ l.given = omega (arith, e.size, e.top) in
      let long = v.long a n up fits in
      go (dec_lt l.given b) n fits long (omega (arith, e.size, e.top))
    where
      go : Dec (l.given < b) → (n : ℕ) → a + n ≤ l.given → length (part a n) ≡ n → a + n ≡ min b l.given → True H l.closed l.limit (DATA a (part a n) (end_of l.given b))
      go (yes h) n fits long is =
          rw (lt-ltb l.given b h)
          (data_true {p = a} {bs = part a n} {end = 1} (record {
            says = v.says a n up fits;
            finished = λ q. omega (arith, e.top);
            whole = λ q. omega (arith, v.all);
            inside = omega (arith, v.all);
            within = omega (arith, e.within);
            short = omega (arith, e.size);
            flag = omega arith;
            some = omega arith;
          }))
      go (no h) n fits long is =
          rw (le-ltb l.given b (omega arith))
          (data_true {p = a} {bs = part a n} {end = 0} (record {
            says = v.says a n up fits;
            finished = λ q. absurd (omega arith);
            whole = λ q. absurd (omega arith);
            inside = omega (arith, v.all);
            within = omega (arith, e.within);
            short = omega (arith, e.size);
            flag = omega arith;
            some = omega arith;
          }))

  -- step 2: each kept segment ends as it did when it was cut
  resend_true : (w : Tick) {gs : List Segment} → Chain acked l.given gs → start_of acked gs ≤ l.given + l.closed → min (start_of acked gs) l.given ≤ l.limit
      → Each (True H l.closed l.limit) (resend_of w l part acked gs).sent
  unfolding resend_of again_of start_of
  resend_true w none top within = each_none
  resend_true w (one {g} {gs} a b c) top within =
      let u = chain_up c in
      let i = resend_true w c (omega arith) (omega arith) in
      if_case (λ (r : Resent). Each (True H l.closed l.limit) r.sent) (due_of w g.at (length (resend_of w l part acked gs).sent))
      (λ e. each_more (segment_true (start_of acked gs) g.to u a (record { size = b; top = top; within = within })) i)
      (λ e. i)

  -- step 3
  cut_true : (w : Tick) (n : ℕ) (c : Cut) → Kept acked l c → Each (True H l.closed l.limit) c.sent → Each (True H l.closed l.limit) (cut_of w l part n c).sent
  unfolding cut_of cut_one
  cut_true w zero c k t = t
  cut_true w (suc n) c k t =
      let d = cut_of w l part n c in
      let i = kept_cut w l acked part n c k in
      let u : acked ≤ d.next = omega (arith, i.last, chain_up i.chain) in
      if_case (λ (x : Cut). Each (True H l.closed l.limit) x.sent) (ltb (length d.kept) segments_most && ltb d.next (cut_to l d.next))
      (λ e.
      let lt : d.next < cut_to l d.next = ltb-true _ _ (and_right (ltb (length d.kept) segments_most) _ e) in
      each_more (segment_true d.next (cut_to l d.next) u lt (cut_ends l d.next i.top i.within)) (cut_true w n c k t))
      (λ e. cut_true w n c k t)

  -- step 4
  probe_is_true : (w : Tick) (probed : Probed) (c : Cut) → Each (True H l.closed l.limit) c.sent → Each (True H l.closed l.limit) (probe_of w l probed c).sent
  unfolding probe_of probes_of
  probe_is_true w probed c t =
      if_case (λ (k : Work). Each (True H l.closed l.limit) k.sent)
      (ltb c.next l.given && (eqb (length c.kept) 0 && (leb l.limit c.next && (ltb (length c.sent) w.allowed && ago_of w probed))))
      (λ e. each_more (probe_true (let h : c.next < l.given = ltb-true _ _ (and_left _ _ e) in omega (arith, v.all))) t)
      (λ e. t)

-- all that a tick sends is true
pub send_true : {H : List ℕ} {lo : ℕ} {s : Sending} (w : Tick) → SendingOK H lo s → Each (True H s.closed s.limit) (send_of w s).sent
unfolding send_of steps_of cuts_of
send_true {H} {lo} {s} w v =
    let l = line_of s in
    let o = v.orderly in
    let t = parts_of v in
    let k = kept_resend w l s.acked (part_of s) s.next s.kept (begun o) in
    let R = resend_of w l (part_of s) s.acked s.kept in
    let a = resend_true l t o.closed w o.chain (omega (arith, o.last, o.top)) (rw o.last at o.within) in
    let b = cut_true l t o.closed w (w.allowed - length R.sent) (record { next = s.next; sent = []; kept = R.kept }) k each_none in
    probe_is_true l t o.closed w s.probed _ (each_append b a)
