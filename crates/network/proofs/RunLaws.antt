-- Both ends and both directions, choice by choice, and what is delivered is true. Assumes nothing.
use Rattle.std.proofs.Common.{◌≡◌, refl, true, false, not, List, [], ◌∷◌, ◌++◌, ℕ, zero, suc, ◌+◌, ◌-◌, ◌^◌, ◌≤◌, ◌<◌, eqb, length, sym, ◌∙◌, arith, eq-eqb}
use Rattle.laws.specs.Choice.{if_case}
use Rattle.wire.specs.Datagram.{Message, DATA, ACK, PROBE, Sendable}
use Rattle.wire.specs.Reading.{Decoded, read, decode}
use Rattle.wire.proofs.RoundTripLaws.{decode_encode}
use Rattle.window.specs.Window.{verdict_of}
use Rattle.window.specs.History.Reached.{none as unmarked, more as marked}
use Rattle.receiving.specs.Receiving.{Receiving}
use Rattle.sending.specs.True.{True, data_true, probe_true, Each, each_none, each_more}
use Rattle.sending.specs.TrueLaws.{each_append, each_map, send_true}
use Rattle.sending.specs.Sending.{Sending}
use Rattle.end.specs.End.{End, clock_of, sent_of}
use Rattle.network.specs.World.{Entry, Site, opened, Arrival, handed, stray, Call, gives, finishes, takes, Act, arrives, calls, ticks, noted, hear, bytes_of, hand_over, strange, arrive, call, leaving, tick, act, Choice, near_acts, far_acts, step, run}
use Rattle.network.specs.Delivered.{numbers_of, is_ack, asks, acks_in, asks_in, Every, nil, cons}
use Rattle.end.specs.EndLaws.{Sides, open_is, give_sides, given_is, finish_sides, take_sides, got_is, reached_is, Marked, Accepts, accepts_data, accepts_ack, accepts_probe, Hears, hears, Acks, no_ack, one_ack, tick_is}
use Rattle.end.specs.EndLaws.Hears.{refuses, takes as accepts}
use Rattle.network.specs.Truth.{source, sink, position, grant, Forth, forth, an_ack, Back, Flow, Numbered, Own, Pair}
use Rattle.network.specs.FlowLaws.{every_map, every_append, flow_give, flow_finish, flow_ack, flow_send, flow_hear, flow_take, flow_acks, back_now, back_true, flow_start, forth_sendable, ack_sendable}

-- THE OTHER WAY ROUND
pub swap : {epoch : ℕ} {x y : Site} → Pair epoch x y → Pair epoch y x
swap v = record { here = v.there; there = v.here; out = v.back; back = v.out }

-- A DATAGRAM THAT y HAS SENT
pub record Honest (y : Site) (m : Message) : Type 0 where
  pub forth : Forth y.given y.finished y.end.sending.limit y.end.sending.next m
  pub back : Back (position (sink y)) (grant (sink y)) m

sendable : {epoch : ℕ} {x y : Site} {m : Message} → Pair epoch x y → Honest y m → Sendable m
sendable {y = y} v h = go h.forth h.back
  where
    go : {m : Message} → Forth y.given y.finished y.end.sending.limit y.end.sending.next m → Back (position (sink y)) (grant (sink y)) m → Sendable m
    go (forth t b) k = forth_sendable v.back t
    go an_ack k = ack_sendable v.out k

-- it is read as it was sent
pub entry_read : {epoch : ℕ} {x y : Site} (d : Entry) → epoch < 2 ^ 64 → Pair epoch x y → Numbered y.end.number d → Honest y d.message
    → decode (bytes_of epoch d) ≡ read epoch d.number d.message
unfolding bytes_of
entry_read {epoch} d e v n h = decode_encode epoch d.number d.message e (omega (arith, n.most, v.there.number)) (sendable v h)

-- BYTES ARE HANDED TO x
abbrev heard_as : Site → Decoded → ℕ → End → Site
heard_as x D r f = record {
  end = f;
  given = x.given;
  finished = x.finished;
  taken = x.taken;
  reported = x.reported;
  sent = x.sent;
  accepted = noted r x.end.clock D ++ x.accepted;
}

own_marked : {epoch number due : ℕ} {x : Site} {f : End} (m : Message) {s : Sending} {r : Receiving} → verdict_of x.end.window number ≡ 0 → Marked x.end f number due s r
    → due ≤ x.end.due + asks m
    → Own epoch x
    → Own epoch (heard_as x (read x.end.epoch number m) 0 f)
unfolding noted numbers_of asks_in
own_marked m z k h v = record {
  epoch_is = k.epoch ∙ v.epoch_is;
  number = rw k.last v.number;
  numbered = rw k.last v.numbered;
  window = rw k.window (marked v.window z);
  due = rw k.due_is (omega (arith, v.due));
}

accepted_pair : {epoch number : ℕ} {x y : Site} {m : Message} {f : End} → verdict_of x.end.window number ≡ 0 → Accepts x.end number m f → Honest y m → Pair epoch x y
    → Pair epoch (heard_as x (read x.end.epoch number m) 0 f) y
unfolding asks
accepted_pair {x = x} z (accepts_data {p} {flag} {bs} q k) h v = record {
  here = own_marked (DATA p bs flag) z k (omega arith) v.here;
  there = v.there;
  out = rw k.sending v.out;
  back = rw k.receiving (flow_hear v.back p bs flag q h.forth);
}
accepted_pair {x = x} z (accepts_ack {p} {c} q k) h v = record {
  here = own_marked (ACK p c) z k (omega arith) v.here;
  there = v.there;
  out = rw k.sending (flow_ack v.out p c h.back);
  back = rw k.receiving v.back;
}
accepted_pair {x = x} z (accepts_probe {p} k) h v = record {
  here = own_marked (PROBE p) z k (omega arith) v.here;
  there = v.there;
  out = rw k.sending v.out;
  back = rw k.receiving v.back;
}

-- what is of this epoch is honest; all else is refused, and changes nothing
heard_pair : {epoch r : ℕ} {x y : Site} {D : Decoded} {f : End} → Hears x.end D r f → ((number : ℕ) (m : Message) → D ≡ read x.end.epoch number m → Honest y m) → Pair epoch x y
    → Pair epoch (heard_as x D r f) y
unfolding noted
heard_pair refuses h v = record {
  here = record { epoch_is = v.here.epoch_is; number = v.here.number; numbered = v.here.numbered; window = v.here.window; due = v.here.due };
  there = v.there;
  out = v.out;
  back = v.back;
}
heard_pair (accepts {number} {m} z a) h v = accepted_pair z a (h number m refl) v

pub hear_pair : {epoch : ℕ} {x y : Site} (d : List ℕ) → ((number : ℕ) (m : Message) → decode d ≡ read x.end.epoch number m → Honest y m) → Pair epoch x y → Pair epoch (hear x d) y
unfolding hear
hear_pair {x = x} d h v = heard_pair (hears x.end d) h v

-- a datagram that y has sent
entry_pair : {epoch : ℕ} {x y : Site} (d : Entry) → epoch < 2 ^ 64 → Numbered y.end.number d → Honest y d.message → Pair epoch x y → Pair epoch (hear x (bytes_of epoch d)) y
entry_pair {epoch} {x} {y} d e n h v =
    let q = entry_read d e v n h in
    hear_pair (bytes_of epoch d) (λ number m p. let s : d.message ≡ m = cc in rw s at h) v

-- the newest, and the others
every_head : {P : Entry → Type 0} {d : Entry} {ds : List Entry} → Every P (d ∷ ds) → P d
every_head (cons p ps) = p

every_tail : {P : Entry → Type 0} {d : Entry} {ds : List Entry} → Every P (d ∷ ds) → Every P ds
every_tail (cons p ps) = ps

handed_pair : {epoch : ℕ} {x y : Site} (o : ℕ) (ds : List Entry) (i : ℕ) → o ≡ epoch → epoch < 2 ^ 64 → Every (Numbered y.end.number) ds
    → Every (λ d. Forth y.given y.finished y.end.sending.limit y.end.sending.next d.message) ds
    → Every (λ d. Back (position (sink y)) (grant (sink y)) d.message) ds
    → Pair epoch x y
    → Pair epoch (hand_over x o ds i) y
unfolding hand_over
handed_pair o [] i q e n f b v = v
handed_pair o (d ∷ ds) zero q e n f b v = rw q (entry_pair d e (every_head n) (record { forth = every_head f; back = every_head b }) v)
handed_pair o (d ∷ ds) (suc i) q e n f b v = handed_pair o ds i q e (every_tail n) (every_tail f) (every_tail b) v

-- bytes of another epoch
strange_not : (epoch : ℕ) (D : Decoded) (number : ℕ) (m : Message) → strange epoch D ≡ true → D ≡ read epoch number m → ⊥
unfolding strange
strange_not epoch D number m s q = let t : not (eqb epoch epoch) ≡ true = rw q at s in absurd (let u : false ≡ true = rw (eq-eqb epoch epoch refl) at t in let z : ◌≡◌ {A = ℕ} 0 1 = cc in omega arith)

arrive_pair : {epoch : ℕ} {x y : Site} (a : Arrival) → epoch < 2 ^ 64 → Pair epoch x y → Pair epoch (arrive x y a) y
unfolding arrive
arrive_pair {epoch} {x} {y} (handed i) e v = handed_pair y.end.epoch y.sent i v.there.epoch_is e v.there.numbered v.back.sent v.out.acks v
arrive_pair {epoch} {x} {y} (stray d) e v =
    if_case (λ (z : Site). Pair epoch z y) (strange y.end.epoch (decode d))
    (λ t. hear_pair d (λ number m q. absurd (strange_not y.end.epoch (decode d) number m t (let s : x.end.epoch ≡ y.end.epoch = v.here.epoch_is ∙ sym v.there.epoch_is in rw s at q))) v)
    (λ t. v)

-- THE HOST CALLS
own_sides : {epoch : ℕ} {x : Site} {f : End} {s : Sending} {r : Receiving} (given : List ℕ) (finished : ℕ) (taken : List ℕ) (reported : ℕ) → Sides x.end f s r → Own epoch x
    → Own epoch (record { end = f; given = given; finished = finished; taken = taken; reported = reported; sent = x.sent; accepted = x.accepted })
own_sides given finished taken reported k v = record {
  epoch_is = k.epoch ∙ v.epoch_is;
  number = rw k.number v.number;
  numbered = rw k.number v.numbered;
  window = rw k.window v.window;
  due = rw k.due v.due;
}

call_pair : {epoch : ℕ} {x y : Site} (c : Call) → Pair epoch x y → Pair epoch (call x c) y
unfolding call
call_pair {x = x} (gives bs) v =
    let k = give_sides x.end bs in
    record {
      here = own_sides _ _ _ _ k v.here;
      there = v.there;
      out = rw (k.sending, given_is x.end bs) (flow_give v.out bs);
      back = rw k.receiving v.back;
    }
call_pair {x = x} finishes v =
    let k = finish_sides x.end in
    record { here = own_sides _ _ _ _ k v.here; there = v.there; out = rw k.sending (flow_finish v.out); back = rw k.receiving v.back }
call_pair {x = x} (takes n) v =
    let k = take_sides x.end n in
    record {
      here = own_sides _ _ _ _ k v.here;
      there = v.there;
      out = rw k.sending v.out;
      back = rw (k.receiving, got_is x.end n, reached_is x.end n) (flow_take v.back n);
    }

-- A TICK
numbered_up : {n k : ℕ} {d : Entry} → n ≤ k → Numbered n d → Numbered k d
numbered_up h v = record { some = v.some; most = omega (arith, v.most) }

numbered_leaving : (t n : ℕ) (ms : List Message) → Every (Numbered (n + length ms)) (leaving t n ms)
unfolding leaving
numbered_leaving t n [] = nil
numbered_leaving t n (m ∷ ms) =
    cons {d = record { tick = t; number = n + length ms + 1; message = m }} (record { some = omega arith; most = omega arith })
    (every_map (λ d h. numbered_up (omega arith) h) (numbered_leaving t n ms))

-- only the ACK counts as one
no_acks : {H : List ℕ} {closed limit : ℕ} {ms : List Message} (t n : ℕ) (ks : List Message) (ds : List Entry) → Each (True H closed limit) ms
    → acks_in (leaving t n (ms ++ ks) ++ ds) ≡ acks_in (leaving t n ks ++ ds)
unfolding leaving acks_in is_ack
no_acks t n ks ds each_none = refl
no_acks t n ks ds (each_more (data_true h) us) = let i = no_acks t n ks ds us in omega arith
no_acks t n ks ds (each_more (probe_true h) us) = let i = no_acks t n ks ds us in omega arith

own_acks : {e : End} {ks : List Message} (t n : ℕ) (ds : List Entry) → Acks e ks → acks_in (leaving t n ks ++ ds) + (e.due - length ks) ≡ acks_in ds + e.due
unfolding leaving acks_in is_ack
own_acks t n ds no_ack = omega arith
own_acks t n ds (one_ack h) = omega arith

acks_forth : {e : End} {ks : List Message} {H : List ℕ} {closed limit next : ℕ} → Acks e ks → Each (Forth H closed limit next) ks
acks_forth no_ack = each_none
acks_forth (one_ack h) = each_more an_ack each_none

acks_back : (x : Site) {ks : List Message} → Acks x.end ks → Each (Back (position (sink x)) (grant (sink x))) ks
acks_back x no_ack = each_none
acks_back x (one_ack h) = each_more (back_now (sink x)) each_none

tick_pair : {epoch : ℕ} {x y : Site} → Pair epoch x y → Pair epoch (tick x) y
unfolding tick
tick_pair {x = x} v =
    let k = tick_is x.end in
    let trues = send_true k.work v.out.sender in
    let t : ℕ = clock_of x.end in
    let n : ℕ = x.end.number in
    record {
      here = record {
        epoch_is = k.epoch ∙ v.here.epoch_is;
        number = k.small v.here.number;
        numbered = rw k.number (every_append (numbered_leaving t n (sent_of x.end)) (every_map (λ d h. numbered_up (omega arith) h) v.here.numbered));
        window = rw k.window v.here.window;
        due =
            (let a = no_acks t n k.acks x.sent trues in
            let b = own_acks t n x.sent k.acks_are in
            rw (k.due, k.sent_is) (omega (arith, v.here.due)));
      };
      there = v.there;
      out = rw (k.sending, k.sent_is) (flow_send v.out k.work t n (acks_forth k.acks_are));
      back = rw (k.receiving, k.sent_is) (flow_acks v.back t n (each_append (each_map (λ m h. back_true h) trues) (acks_back x k.acks_are)));
    }

-- RUNS
pub act_pair : {epoch : ℕ} {x y : Site} (a : Act) → epoch < 2 ^ 64 → Pair epoch x y → Pair epoch (act x y a) y
unfolding act
act_pair (arrives a) e v = arrive_pair a e v
act_pair (calls c) e v = call_pair c v
act_pair ticks e v = tick_pair v

own_start : (epoch interval : ℕ) → Own epoch (opened epoch interval)
unfolding opened numbers_of acks_in asks_in
own_start epoch interval =
    let o = open_is epoch interval in
    record { epoch_is = o.epoch_is; number = rw o.number (omega arith); numbered = nil; window = rw o.window unmarked; due = rw o.due (omega arith) }

start_flow : (epoch r s : ℕ) → Flow (source (opened epoch r)) (sink (opened epoch s))
unfolding opened
start_flow epoch r s = rw ((open_is epoch r).sending, (open_is epoch s).receiving) flow_start

pub run_pair : (epoch r s : ℕ) → epoch < 2 ^ 64 → (cs : List Choice) → Pair epoch (run epoch r s cs).near (run epoch r s cs).far
unfolding run step
run_pair epoch r s e [] = record { here = own_start epoch r; there = own_start epoch s; out = start_flow epoch r s; back = start_flow epoch s r }
run_pair epoch r s e (near_acts a ∷ cs) = act_pair a e (run_pair epoch r s e cs)
run_pair epoch r s e (far_acts a ∷ cs) = swap (act_pair a e (swap (run_pair epoch r s e cs)))
