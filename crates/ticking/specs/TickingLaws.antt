-- Laws of a tick, over the sections of the table. Assumes nothing.
use Rattle.std.specs.Prelude.{◌≡◌, Bool, ◌&&◌, List, ℕ, ◌+◌, ◌-◌, ◌*◌, ◌≤◌, ◌<◌, length, take, drop}
use Rattle.std.proofs.Math.Path.{refl}
use Rattle.std.proofs.Common.{sym, ap, ◌∙◌, append-nil, add-zero}
use Rattle.std.proofs.Math.Bool.{true, false}
use native.Mathlib.Omega.{arith}
use Rattle.std.proofs.Math.Dec.{eqb, ltb}
use borrow.Author.Tests.{lt-ltb, le-ltb, eq-eqb, ne_eqb, eqb-true, ltb-true}
use borrow.Rule.Slice.PartMut.{put_mid}
use Rattle.laws.specs.Choice.{if, if_case}
use Rattle.laws.specs.Rows.{when}
use Rattle.laws.specs.Over.{over}
use Rattle.laws.specs.OverLaws.{over_none, over_more, over_length}
use Rattle.laws.specs.Part.{part}
use Rattle.laws.specs.PartLaws.{length_part, length_put}
use Rattle.ring.specs.Ring.{capacity}
use Rattle.wire.specs.Datagram.{head_size, ceiling, ACK, kind_of, flags_of, position_of, credit_of, payload_of, head_of, header_of, encode, wire}
use Rattle.wire.specs.DatagramLaws.{encode_length}
use Rattle.receiving.specs.declared.Scalars.{Scalars}
use Rattle.receiving.specs.Calls.{position_by, credit_by}
use Rattle.segments.specs.declared.Tick.{Tick}
use Rattle.segments.specs.declared.Stamp.{Stamp}
use Rattle.sending.specs.declared.Sent.{Sent}
use Rattle.sending.specs.Sending.{datagrams_most}
use Rattle.sending.specs.Outcome.{datagram_most, Room, Sends}
use Rattle.sending.specs.BufferLaws.{moved}
use Rattle.table.specs.declared.Common.{Common}
use Rattle.table.specs.declared.Sends as declared
use Rattle.ticking.specs.declared.Plan.{Plan}
use Rattle.table.specs.Layout.{common_size, sends_at, sends_size, ends_at, times_at, row_size, table_words, Sections, sections_of, common_words, common_of, sends_words, sends_of, scalars_of, ring_of}
use Rattle.table.specs.LayoutLaws.{common_size_lem, sends_size_lem, put_common, put_sends, put_ends, put_times, ends_size, times_size, ring_size}
use Rattle.table.specs.Rows.{output_least, output_row}
use Rattle.table.specs.ReadyLaws.{Ready}
use Rattle.ticking.specs.Ticking.{clock_by, allowance_by, acks_by, AckSent, SendReady, SegmentsSent, may_of, Planned, ack_messages, AckReady, AckOver, TickReady, Ticked}

-- THE NUMBERS, as the code computes them
pub output_short : (n : ℕ) → n < output_least → 13 ≡ output_row n
unfolding output_row when
output_short n h = rw (lt-ltb n output_least h)

pub output_fine : (n : ℕ) → output_least ≤ n → 0 ≡ output_row n
unfolding output_row when
output_fine n h = rw (le-ltb n output_least h)

module _ (now next number : ℕ) where
  pub allowance_late : ceiling ≤ now → 0 ≡ allowance_by now next number
  unfolding allowance_by
  allowance_late h = rw (le-ltb now ceiling h)

  pub allowance_far : now < ceiling → ceiling ≤ next → 0 ≡ allowance_by now next number
  unfolding allowance_by
  allowance_far h k = rw (lt-ltb now ceiling h, le-ltb next ceiling k)

  pub allowance_full : now < ceiling → next < ceiling → datagrams_most < ceiling - 1 - number → datagrams_most ≡ allowance_by now next number
  unfolding allowance_by
  allowance_full h k l = rw (lt-ltb now ceiling h, lt-ltb next ceiling k) (omega arith)

  pub allowance_left : now < ceiling → next < ceiling → ceiling - 1 - number ≤ datagrams_most → ceiling - 1 - number ≡ allowance_by now next number
  unfolding allowance_by
  allowance_left h k l = rw (lt-ltb now ceiling h, lt-ltb next ceiling k) (omega arith)

  pub allowance_most : allowance_by now next number ≤ datagrams_most
  unfolding allowance_by
  allowance_most = if_case (λ (n : ℕ). n ≤ datagrams_most) (ltb now ceiling && ltb next ceiling) (λ e. omega arith) (λ e. omega arith)

  pub allowance_numbers : number < ceiling → number + allowance_by now next number < ceiling
  unfolding allowance_by
  allowance_numbers h = if_case (λ (n : ℕ). number + n < ceiling) (ltb now ceiling && ltb next ceiling) (λ e. omega arith) (λ e. omega arith)

module _ (due allowed : ℕ) where
  pub acks_one : due ≡ 1 → 0 < allowed → 1 ≡ acks_by due allowed
  unfolding acks_by
  acks_one h k = rw (eq-eqb due 1 h, lt-ltb 0 allowed k)

  pub acks_shut : due ≡ 1 → allowed ≤ 0 → 0 ≡ acks_by due allowed
  unfolding acks_by
  acks_shut h k = rw (eq-eqb due 1 h, le-ltb 0 allowed k)

  pub acks_none : (due ≡ 1 → ⊥) → 0 ≡ acks_by due allowed
  unfolding acks_by
  acks_none h = rw (ne_eqb due 1 h)

  -- at most one, and none that is not due or not allowed
  pub record Few (n : ℕ) : Type 0 where
    pub one : n ≤ 1
    pub due_most : n ≤ due
    pub allowed_most : n ≤ allowed

  pub acks_few : Few (acks_by due allowed)
  unfolding acks_by
  acks_few = go (eqb due 1) (ltb 0 allowed) refl refl
    where
      go : (a b : Bool) → eqb due 1 ≡ a → ltb 0 allowed ≡ b → Few (if (a && b) 1 0)
      go true true e f = record { one = omega arith; due_most = omega (arith, eqb-true due 1 e); allowed_most = ltb-true 0 allowed f }
      go true false e f = record { one = omega arith; due_most = omega arith; allowed_most = omega arith }
      go false b e f = record { one = omega arith; due_most = omega arith; allowed_most = omega arith }

-- THE ACK
encode_ack : (epoch number p c : ℕ) → head_of (record { kind = 2; flags = 0; length = 0; epoch = epoch; number = number; position = p; credit = c }) ≡ encode epoch number (ACK p c)
unfolding encode header_of kind_of flags_of position_of credit_of payload_of
encode_ack epoch number p c = sym (append-nil _)

pub ack_sent : (t x : List ℕ) (epoch number p c : ℕ) (v : Scalars) → v ≡ scalars_of (sections_of t).receives → p ≡ position_by v → c ≡ credit_by v
    → x ≡ head_of (record { kind = 2; flags = 0; length = 0; epoch = epoch; number = number; position = p; credit = c }) → AckSent t epoch number x
ack_sent t x epoch number p c v ev ep ec ex = record { is = ex ∙ rw (ep, ec, ev) (encode_ack epoch number _ _) }

-- STEPS 2 TO 4
pub send_room : {w : Tick} {e : Stamp} {t : List ℕ} {outgoing out : ℕ} → SendReady w e t outgoing out → (o x : List ℕ) → capacity ≤ length o → out ≡ length x → (s : declared.Sends) → s ≡ sends_of (sections_of t).sends
    → Room w e s.line s.row x (ring_of o) (sections_of t).ends (sections_of t).times
send_room {w} {e} {t} k o x lo lx s es = record {
  ring_size = ring_size o lo;
  ends_size = ends_size t k.table_size;
  times_size = times_size t k.table_size;
  given = rw es k.ready.sends.given;
  oldest = rw es k.ready.sends.oldest;
  kept = rw es k.ready.sends.kept;
  now = k.now;
  most = k.most;
  numbers = k.numbers;
  out_size = rw lx at k.out_size;
}

-- the ring and the tables, as the code lends them: the ends at the end of the front half of t, the times at the start of the other
module _ {n : ℕ} (size : n ≡ capacity) (w : Tick) (e : Stamp) (t o : List ℕ) (s : declared.Sends) (es : s ≡ sends_of (sections_of t).sends) where
  pub send_room_at : (x y z : List ℕ) → SendReady w e t (length o) (length x) → y ≡ (sections_of t).ends → z ≡ (sections_of t).times → Room w e s.line s.row x (part 0 n o) y z
  send_room_at x y z k ey ez = rw (size, ey, ez) (send_room k o x k.outgoing_size refl s es)

  pub segments_sent : (out x y z a b out' : List ℕ) (r : Sent) → SendReady w e t (length o) (length out) → y ≡ (sections_of t).ends → x ≡ (sections_of t).times
      → Sends w e s.line s.row s.probed (part 0 n o) y x out r a b out' → z ≡ sends_words (record { line = s.line; row = moved s.row r; probed = r.probed })
      → SegmentsSent w e t o out r (put_mid sends_at sends_size (put_mid times_at row_size (put_mid ends_at row_size t a) b) z) out'
  segments_sent out x y z a b out' r k ey ex f ez =
      let h = rw size at f in
      let v : declared.Sends = record { line = s.line; row = moved s.row r; probed = r.probed } in
      let la : length a ≡ row_size = h.ends_size in
      let lb : length b ≡ row_size = h.times_size in
      let lz : length z ≡ sends_size = ap length ez ∙ sends_size_lem v in
      let t₁ = put_mid ends_at row_size t a in
      let t₂ = put_mid times_at row_size t₁ b in
      let l₀ = k.table_size in
      let l₁ : length t₁ ≡ length t = length_put t a ends_at row_size (omega arith) la in
      let l₂ : length t₂ ≡ length t₁ = length_put t₁ b times_at row_size (omega arith) lb in
      record {
        size = length_put t₂ z sends_at sends_size (omega arith) lz ∙ l₂ ∙ l₁;
        output_size = over_length (record { is = h.wrote }) (omega (arith, h.bytes, h.small, h.few, k.out_size));
        ends = a;
        times = b;
        sends = rw (← es, ← ey, ← ex) h;
        sections = put_sends t₂ z (omega arith) lz ∙ rw (put_times t₁ b (omega arith) lb, put_ends t a l₀ la, ez, es);
      }

-- THE PLAN
pub number_loaded : (s : Sections) (c : Common) → Ready s → c ≡ common_of s.common → c.number < ceiling
number_loaded s c r e = rw e r.going.number

pub planned : (s : Sections) (c : Common) (v : declared.Sends) (now allowed a : ℕ) → c ≡ common_of s.common → v ≡ sends_of s.sends → now ≡ clock_by c.clock → allowed ≡ allowance_by now v.row.next c.number
    → a ≡ acks_by c.due allowed → Planned s (record { now = now; allowed = allowed; acks = a })
planned s c v now allowed a ec ev en el ea =
    let n : now ≡ clock_by (common_of s.common).clock = rw ec at en in
    let l : allowed ≡ may_of s = el ∙ rw (n, ec, ev) in
    record { now = n; allowed = l; acks = ea ∙ rw (l, ec) }

-- what the plan promises
pub record PlanFacts (c : Common) (p : Plan) : Type 0 where
  pub now : p.now ≤ ceiling
  pub most : p.allowed ≤ datagrams_most
  pub numbers : c.number + p.allowed < ceiling
  pub one : p.acks ≤ 1
  pub due : p.acks ≤ c.due
  pub allowed : p.acks ≤ p.allowed

pub plan_facts : {s : Sections} {c : Common} {p : Plan} → Ready s → c ≡ common_of s.common → Planned s p → PlanFacts c p
plan_facts {s} {c} {p} r e k =
    let f = acks_few (common_of s.common).due (may_of s) in
    let n = clock_by (common_of s.common).clock in
    let x = (sends_of s.sends).row.next in
    record {
      now = omega (arith, k.now);
      most = omega (arith, k.allowed, allowance_most n x (common_of s.common).number);
      numbers = rw (e, k.allowed) (allowance_numbers n x (common_of s.common).number r.going.number);
      one = omega (arith, k.acks, f.one);
      due = rw (e, k.acks) f.due_most;
      allowed = rw (k.allowed, k.acks) f.allowed_most;
    }

-- STEP 1
pub ack_none : {s : Sections} {c : Common} {a : ℕ} {out : List ℕ} → a ≡ 0 → AckOver s c a out 0 out
unfolding ack_messages wire over
ack_none {s} {c} {a} {out} z = rw z (record { wrote = refl; bytes = refl; size = refl; few = refl })

one_is : (a : ℕ) → a ≤ 1 → (a ≡ 0 → ⊥) → a ≡ 1
one_is a h n = omega arith

wire_one : (s : Sections) (epoch number : ℕ)
    → wire epoch number (ack_messages s 1) ≡ encode epoch (number + 1) (ACK (position_by (scalars_of s.receives)) (credit_by (scalars_of s.receives)))
unfolding ack_messages wire
wire_one s epoch number = rw add-zero

-- its length
no_payload : (p q : ℕ) → head_size + length (payload_of (ACK p q)) ≡ 32
unfolding payload_of
no_payload p q = refl

pub ack_one : {t out x : List ℕ} {c : Common} {a : ℕ} → AckReady t c a (length out) → (a ≡ 0 → ⊥) → AckSent t c.epoch (c.number + 1) x → AckOver (sections_of t) c a out 32 (put_mid 0 32 out x)
ack_one {t} {out} {x} {c} {a} k n h =
    let s = sections_of t in
    let e : a ≡ 1 = one_is a k.one n in
    let w : x ≡ wire c.epoch c.number (ack_messages s 1) = h.is ∙ sym (wire_one s c.epoch c.number) in
    let l : length x ≡ 32 = ap length h.is ∙ encode_length c.epoch (c.number + 1) _ ∙ no_payload _ _ in
    rw e (record {
      wrote = (over_more x x 0 32 (over_none out) refl refl l).is ∙ ap (λ (z : List ℕ). over z out) w;
      bytes = sym l ∙ ap length w;
      size = length_put out x 0 32 (omega (arith, k.out_size)) l;
      few = refl;
    })

-- ALL FOUR STEPS
module _ {t : List ℕ} {o n : ℕ} {c : Common} {p : Plan} (k : TickReady t o n) (e : c ≡ common_of (sections_of t).common) (pl : Planned (sections_of t) p) where
  pub tick_facts : PlanFacts c p
  tick_facts = plan_facts k.ready e pl

  pub ack_ready : AckReady t c p.acks n
  ack_ready = record { table_size = k.table_size; ready = k.ready; number = number_loaded (sections_of t) c k.ready e; one = tick_facts.one; out_size = omega (arith, k.out_size) }

  module _ {out x : List ℕ} {from : ℕ} (ln : n ≡ length out) (a : AckOver (sections_of t) c p.acks out from x) where
    pub from_most : from ≤ length x
    from_most = omega (arith, a.size, a.few, tick_facts.one, k.out_size)

    rest_length : length (take (length x - from) (drop from x)) ≡ length x - from
    rest_length = length_part x from (length x - from) (omega (arith, from_most))

    pub send_ready : SendReady (record { now = p.now; every = c.interval; allowed = p.allowed - p.acks }) (record { epoch = c.epoch; number = c.number + p.acks }) t o (length (take (length x - from) (drop from x)))
    send_ready =
        let f = tick_facts in
        record {
          table_size = k.table_size;
          outgoing_size = k.outgoing_size;
          ready = k.ready;
          now = f.now;
          most = omega (arith, f.most);
          numbers = omega (arith, f.numbers, f.allowed);
          out_size = omega (arith, rest_length, a.size, a.few, f.one, f.most, f.allowed, k.out_size);
        }

-- what was sent fits
module _ {w : Tick} {e : Stamp} {t o out : List ℕ} {r : Sent} {t' out' : List ℕ} (h : SegmentsSent w e t o out r t' out') where
  pub sent_few : r.count ≤ w.allowed
  sent_few = h.sends.few

  pub sent_small : r.bytes ≤ datagram_most * r.count
  sent_small = h.sends.small

  pub sent_size : length t' ≡ length t
  sent_size = h.size

-- the bytes of a tick
pub bytes_most : (from bytes a count allowed : ℕ) → from ≡ head_size * a → a ≤ 1 → a ≤ allowed → allowed ≤ datagrams_most → count ≤ allowed - a → bytes ≤ datagram_most * count → from + bytes ≤ output_least
bytes_most from bytes a count allowed ef one al most few small = omega arith

pub ticked : (t o out : List ℕ) {c : Common} {p : Plan} {from : ℕ} {x : List ℕ} {r : Sent} {t₁ y z : List ℕ} → TickReady t (length o) (length out) → c ≡ common_of (sections_of t).common → Planned (sections_of t) p
    → AckOver (sections_of t) c p.acks out from x
    → SegmentsSent (record { now = p.now; every = c.interval; allowed = p.allowed - p.acks }) (record { epoch = c.epoch; number = c.number + p.acks }) t o (take (length x - from) (drop from x)) r t₁ y
    → z ≡ common_words (record { opened = c.opened; epoch = c.epoch; interval = c.interval; clock = p.now; number = c.number + p.acks + r.count; due = c.due - p.acks; high = c.high })
    → Ticked t o out (from + r.bytes) (put_mid 0 common_size t₁ z) (put_mid from (length x - from) x y)
ticked t o out {c} {p} {from} {x} {r} {t₁} {y} {z} k e pl a h ez =
    let f = tick_facts k e pl in
    let fm = from_most k e pl refl a in
    let ly : length y ≡ length x - from = h.output_size ∙ length_part x from (length x - from) (omega arith) in
    let lz : length z ≡ common_size = ap length ez ∙ common_size_lem _ in
    let l₁ : table_words ≤ length t₁ = omega (arith, h.size, k.table_size) in
    let b = bytes_most from r.bytes p.acks r.count p.allowed a.few f.one f.allowed f.most h.sends.few h.sends.small in
    record {
      size = length_put t₁ z 0 common_size (omega arith) lz ∙ h.size;
      output_size = length_put x y from (length x - from) (omega arith) ly ∙ a.size;
      most = omega (arith, k.out_size);
      small = b;
      from = from;
      first = x;
      acked = rw (← pl.acks, ← e) a;
      sent = r;
      middle = t₁;
      rest = y;
      segments = rw (← pl.acks, ← pl.allowed, ← pl.now, ← e) h;
      sections = put_common t₁ z l₁ lz ∙ rw (ez, pl.now, pl.acks, e);
      wrote = refl;
      bytes = refl;
    }
