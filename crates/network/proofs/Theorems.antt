-- Statement B: what is delivered is true, after every run, both ways. Assumes nothing.
use Rattle.std.proofs.Common.{◌≡◌, drop, sym, ◌∙◌, arith, length-append, take-append-drop, take_all, ap, ⊎_elim, List, [], ◌++◌, append-nil, ℕ, ◌-◌, ◌^◌, ◌<◌, length, take, length-take}
use Rattle.std.proofs.Math.Decide.{ℕ_discrete, dec_lt}
use Rattle.std.proofs.Math.Seq.{take-append-le}
use Rattle.laws.specs.Split.{split}
use Rattle.laws.specs.History.{Says, Prefix}
use Rattle.laws.specs.HistoryLaws.{says_prefix, says_grow}
use Rattle.ring.specs.Ring.{capacity}
use Rattle.wire.specs.Datagram.{Message}
use Rattle.wire.specs.Reading.{read, decode}
use Rattle.window.specs.Window.{width, Window, seen_of, verdict_of}
use Rattle.window.proofs.WindowLaws.{verdict_above, verdict_old, verdict_new, verdict_again}
use Rattle.window.specs.History.{Reached}
use Rattle.window.specs.History.Reached.{none as unmarked, more as marked}
use Rattle.window.proofs.HistoryLaws.{never_again}
use Rattle.receiving.specs.Receiving.{low_of}
use Rattle.receiving.specs.Receiving as receiving
use Rattle.receiving.proofs.TruthLaws.{says_whole}
use Rattle.receiving.specs.AckLaws.{taken_low, low_room, got_length}
use Rattle.receiving.proofs.ReceivingLaws.{receiving_take, low_true, ended_when}
use Rattle.end.specs.End.{hear_answer}
use Rattle.network.specs.World.{Entry, Site, bytes_of, Choice, run}
use Rattle.network.specs.Rounds.{Round, all_choices, play}
use Rattle.network.specs.Delivered.{Distinct, Every, nil, cons, Welcome, Delivered, BothWays}
use Rattle.network.specs.Delivered.Distinct.{none as no_number, more as one_more}
use Rattle.network.specs.Delivered.Welcome.{accepted, too_old, taken_before}
use Rattle.end.specs.EndLaws.{got_is, reached_is, Placed, placed_data, placed_ack, placed_probe, answer_number}
use Rattle.receiving.proofs.NetworkLaws.{past_end}
use Rattle.network.specs.Truth.{Source, Sink, sink, position, grant, Forth, Back, back, a_data, a_probe, Flow, Numbered, Pair}
use Rattle.network.specs.FlowLaws.{taken_says, data_placed, ack_placed}
use Rattle.network.proofs.RunLaws.{swap, Honest, entry_read, run_pair}

-- NUMBERS
distinct : {s : List ℕ} {w : Window} → Reached s w → Distinct s
distinct unmarked = no_number
distinct (marked r z) = one_more (λ i. never_again r i z) (distinct r)

-- a number that is not 0 is new, too old, or was taken before
verdict_case : (P : ℕ → Type 0) (w : Window) (p : ℕ) → 0 < p → P 0 → P 5 → P 6 → P (verdict_of w p)
verdict_case P w p h a b c = elim (dec_lt w.high p) [
  | yes l ↦ rw (sym (verdict_above w p (λ z. omega arith) l)) a
  | no l ↦ elim (dec_lt (w.high - p) width) [
    | no o ↦ rw (sym (verdict_old w p (λ z. omega arith) (omega arith) (omega arith))) b
    | yes o ↦ elim (ℕ_discrete (seen_of w p) 0) [
      | yes s ↦ rw (sym (verdict_new w p (λ z. omega arith) (omega arith) o s)) a
      | no s ↦ rw (sym (verdict_again w p (λ z. omega arith) (omega arith) o s)) c
    ]
  ]
]

-- HONEST DATAGRAMS
placed : {epoch : ℕ} {x y : Site} {m : Message} → Pair epoch x y → Honest x m → Placed y.end m
placed {x = x} {y} v h = go h.forth h.back
  where
    go : {m : Message} → Forth x.given x.finished x.end.sending.limit x.end.sending.next m → Back (position (sink x)) (grant (sink x)) m → Placed y.end m
    go f a_data = placed_data (data_placed v.out f)
    go f a_probe = placed_probe
    go f (back h k s) = placed_ack (ack_placed v.back (back h k s))

welcome : {epoch : ℕ} {x y : Site} (d : Entry) → epoch < 2 ^ 64 → Pair epoch x y → Numbered x.end.number d → Honest x d.message
    → Welcome (hear_answer y.end (bytes_of x.end.epoch d))
welcome {epoch} {x} {y} d e v n h =
    let q : decode (bytes_of x.end.epoch d) ≡ read y.end.epoch d.number d.message =
    ap (λ (o : ℕ). decode (bytes_of o d)) v.here.epoch_is ∙ entry_read d e (swap v) n h ∙ ap (λ (o : ℕ). read o d.number d.message) (sym v.there.epoch_is) in
    rw (answer_number y.end (bytes_of x.end.epoch d) q (placed v h)) (verdict_case Welcome y.end.window d.number n.some accepted too_old taken_before)

all_welcome : {epoch : ℕ} {x y : Site} {ds : List Entry} → epoch < 2 ^ 64 → Pair epoch x y → Every (Numbered x.end.number) ds
    → Every (λ d. Forth x.given x.finished x.end.sending.limit x.end.sending.next d.message) ds
    → Every (λ d. Back (position (sink x)) (grant (sink x)) d.message) ds
    → Every (λ d. Welcome (hear_answer y.end (bytes_of x.end.epoch d))) ds
all_welcome e v nil nil nil = nil
all_welcome e v (cons {d} n ns) (cons f fs) (cons b bs) = cons (welcome d e v n (record { forth = f; back = b })) (all_welcome e v ns fs bs)

-- WHAT WAS DROPPED
-- what a take of all would leave taken
module _ {a : Source} {b : Sink} (v : Flow a b) where
  all_says : Says a.given 0 (b.taken ++ receiving.got_of b.side capacity)
  all_says = rw (take-append-drop a.side.next a.given) at (says_grow (drop a.side.next a.given) (receiving_take capacity v.receiver).says)

  all_length : length (b.taken ++ receiving.got_of b.side capacity) ≡ low_of b.side
  all_length =
      let l = length-append b.taken (receiving.got_of b.side capacity) in
      let g = got_length b.side capacity in
      let r = low_room b.side in
      let t = taken_low b.side in
      omega (arith, v.receiver.count, v.receiver.size)

  dropped_prefix : Prefix (take a.side.acked a.given) (b.taken ++ receiving.got_of b.side capacity)
  unfolding Prefix
  dropped_prefix =
      let l : List ℕ = b.taken ++ receiving.got_of b.side capacity in
      let p = says_prefix l all_says in
      ⊎_elim
      (λ h.
      let q = past_end v.receiver (omega (arith, v.sender.behind)) in
      let g = length-take a.side.next a.given in
      let e : l ≡ a.given = says_whole all_says (omega (arith, all_length, q.last, q.finished)) in
      ([], rw (take_all a.side.acked a.given (omega (arith, ap length e, all_length)), append-nil) (sym e)))
      (λ h.
      let q : take a.side.acked a.given ≡ take a.side.acked l =
      ap (λ (k : List ℕ). take a.side.acked k) (sym p.1) ∙ take-append-le a.side.acked l p.0 (omega (arith, all_length)) in
      (drop a.side.acked l, rw q (take-append-drop a.side.acked l)))
      (split (low_of b.side) a.side.acked)

  -- and its END
  dropped_reached : length a.given < a.side.acked → receiving.ended_of (receiving.take_of b.side capacity) ≡ 1
  dropped_reached h =
      let l = low_true v.receiver in
      let g = length-take a.side.next a.given in
      let q = past_end v.receiver (omega (arith, v.sender.behind)) in
      ended_when capacity v.receiver q.past (omega (arith, low_room b.side, v.receiver.size))

delivered : {epoch : ℕ} {x y : Site} → epoch < 2 ^ 64 → Pair epoch x y → Delivered x y
delivered {x = x} {y} e v = record {
  beginning = says_prefix y.taken (taken_says v.out);
  finished = v.out.finished;
  whole = v.out.whole;
  acked = v.out.sender.behind;
  dropped = rw (got_is y.end capacity) (dropped_prefix v.out);
  dropped_end = λ h. reached_is y.end capacity ∙ dropped_reached v.out h;
  once = distinct v.there.window;
  answered = omega (arith, v.there.due);
  welcome = all_welcome e v v.here.numbered v.out.sent v.back.acks;
}

-- THE THEOREM: two ends opened in one epoch, whatever the network and the hosts do
pub delivered_is_true : (epoch r s : ℕ) → epoch < 2 ^ 64 → (cs : List Choice) → BothWays (run epoch r s cs)
delivered_is_true epoch r s e cs =
    let v = run_pair epoch r s e cs in
    record { out = delivered e v; back = delivered e (swap v) }

-- so also in the document's order of calls
pub rounds_are_true : (epoch r s : ℕ) → epoch < 2 ^ 64 → (ts : List Round) → BothWays (play epoch r s ts)
unfolding play
rounds_are_true epoch r s e ts = delivered_is_true epoch r s e (all_choices ts)
