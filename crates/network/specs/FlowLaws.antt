-- One direction, step by step: what stays true, whatever happens at either end. Assumes nothing.
use Rattle.std.specs.Prelude.{◌≡◌, refl, List, [], ◌∷◌, ◌++◌, ℕ, zero, suc, ◌+◌, ◌-◌, ◌≤◌, ◌<◌, eqb, length, take, drop}
use Rattle.std.proofs.Common.{sym, ap, ◌∙◌, ⊎_elim, append-nil, arith, length-append, length-take, length-drop, take-append-drop, take_all, take-add, eqb-true}
use Rattle.std.proofs.lemmas.List.{take-append-le}
use Rattle.laws.specs.Choice.{if, if_case}
use Rattle.laws.specs.Split.{split}
use Rattle.laws.specs.History.{At, Says}
use Rattle.laws.specs.History.At.{here, there}
use Rattle.laws.specs.History.Says.{none as said, more as says_more}
use Rattle.laws.specs.HistoryLaws.{says_grow}
use Rattle.wire.specs.Datagram.{ceiling, Message, DATA, ACK, Sendable}
use Rattle.wire.specs.Datagram.Sendable.{a_DATA, an_ACK, a_PROBE}
use Rattle.receiving.specs.Receiving.{Receiving, hear_of, got_of, take_of, ended_of, ack_position, ack_credit, refusal_of}
use Rattle.receiving.specs.Receiving as receiving
use Rattle.receiving.specs.Truth.{ReceivingOK}
use Rattle.receiving.proofs.TruthLaws.{says_length, says_whole}
use Rattle.receiving.specs.AckLaws.{taken_low, position_low, ack_says, position_hear, position_take, limit_hear, limit_take}
use Rattle.receiving.proofs.ReceivingLaws.{receiving_start, receiving_give, receiving_close, receiving_hear, receiving_take, ended_closed, ended_all, ack_true, grant_true, never_refused}
use Rattle.segments.specs.declared.Tick.{Tick}
use Rattle.sending.specs.Sending as sending
use Rattle.sending.specs.Giving.{taken_of, give_of, finish_of}
use Rattle.sending.specs.Acking.{ack_of}
use Rattle.sending.specs.Steps.{send_of}
use Rattle.sending.specs.True.{TrueData, True, data_true, probe_true, Each, each_none, each_more}
use Rattle.sending.specs.TrueLaws.{each_append, each_map, true_grow, true_up, true_finish, sending_start, sending_up, sending_give, sending_finish, sending_ack, sending_send, send_true}
use Rattle.sending.specs.CallLaws.{given_is, taken_closed, finished_is, ack_keeps, tick_keeps}
use Rattle.sending.specs.OrderLaws.{taken_end}
use Rattle.sending.specs.TickLaws.{next_send}
use Rattle.network.specs.World.{Entry, leaving}
use Rattle.network.specs.Delivered.{Every, nil, cons}
use Rattle.sending.specs.NetworkLaws.{fresh_is, Below, data_below, below_up, send_below}
use Rattle.network.specs.Truth.{Source, Sink, position, grant, gone, gone_end, Forth, forth, an_ack, Back, back, a_data, a_probe, Flow}

-- EVERY
pub every_map : {P Q : Entry → Type 0} {ds : List Entry} → ((d : Entry) → P d → Q d) → Every P ds → Every Q ds
every_map f nil = nil
every_map f (cons {d} p a) = cons (f d p) (every_map f a)

pub every_append : {P : Entry → Type 0} {ds es : List Entry} → Every P ds → Every P es → Every P (ds ++ es)
every_append nil b = b
every_append (cons p a) b = cons p (every_append a b)

-- what holds of each message that leaves
pub every_leaving : {P : Message → Type 0} {ms : List Message} (t n : ℕ) → Each P ms → Every (λ d. P d.message) (leaving t n ms)
unfolding leaving
every_leaving t n each_none = nil
every_leaving t n (each_more p a) = cons p (every_leaving t n a)

-- WHAT HAS LEFT
at_first : {H : List ℕ} {p b : ℕ} (n : ℕ) → At H p b → p < n → At (take n H) p b
at_first zero a h = absurd (omega arith)
at_first (suc n) here h = here
at_first (suc n) (there a) h = there (at_first n a (omega arith))

says_first : {H : List ℕ} {p : ℕ} {bs : List ℕ} (n : ℕ) → Says H p bs → p + length bs ≤ n → Says (take n H) p bs
says_first n said h = said
says_first n (says_more {p = p} {bs = bs} a s) h = says_more (at_first n a (omega arith)) (says_first n s (omega arith))

-- more leaves
receiver_sent : (H : List ℕ) {got : List ℕ} {v : Receiving} (n k : ℕ) → n ≤ k → k ≤ length H + 1 → ReceivingOK (take n H) got (n - length H) v → ReceivingOK (take k H) got (k - length H) v
receiver_sent H {got} {v} n k h top r =
    let K : List ℕ = take (k - n) (drop n H) in
    let short : length K ≤ length H - n = rw (length-take, length-drop) (omega arith) in
    let e : take k H ≡ take n H ++ K = (let q : k ≡ n + (k - n) = omega arith in ap (λ (i : ℕ). take i H) q ∙ take-add n (k - n) H) in
    let g : ReceivingOK (take n H ++ K) got (n - length H) v = receiving_give K (λ c. omega arith) r in
    rw e
    (⊎_elim (λ l. let q : k - length H ≡ 1 = omega arith in rw q (receiving_close g)) (λ l. let q : n - length H ≡ k - length H = omega arith in rw q at g) (split (length H) k))

-- what has left stays so when more is given
receiver_given : (H : List ℕ) {got : List ℕ} {v : Receiving} (n : ℕ) (K : List ℕ) → (length H < n → length K ≡ 0) → ReceivingOK (take n H) got (n - length H) v → ReceivingOK (take n (H ++ K)) got (n - length (H ++ K)) v
receiver_given H {got} {v} n [] z r = rw append-nil r
receiver_given H {got} {v} n (b ∷ K) z r =
    ⊎_elim (λ l. let q = z l in absurd (omega arith))
    (λ l.
    let e = take-append-le n H (b ∷ K) l in
    let q : n - length H ≡ n - length (H ++ b ∷ K) = (let y = length-append H (b ∷ K) in omega arith) in
    rw (e, ← q) r)
    (split (length H) n)

-- MESSAGES stay true
forth_up : {H : List ℕ} {closed limit limit' next next' : ℕ} {m : Message} → limit ≤ limit' → next ≤ next' → Forth H closed limit next m → Forth H closed limit' next' m
forth_up h k (forth t b) = forth (true_up h t) (below_up k b)
forth_up h k an_ack = an_ack

forth_finish : {H : List ℕ} {closed limit next : ℕ} {m : Message} → Forth H closed limit next m → Forth H 1 limit next m
forth_finish (forth t b) = forth (true_finish t) b
forth_finish an_ack = an_ack

forth_grow : {H : List ℕ} {closed limit next : ℕ} {m : Message} (K : List ℕ) → (closed ≡ 1 → length K ≡ 0) → closed ≤ 1 → Forth H closed limit next m → Forth (H ++ K) closed limit next m
forth_grow K z c an_ack = an_ack
forth_grow {closed = zero} K z c (forth t b) = forth (true_grow K t) b
forth_grow {closed = suc k} [] z c (forth t b) = rw append-nil (forth t b)
forth_grow {closed = suc k} (x ∷ K) z c (forth t b) = let q = z (omega arith) in absurd (omega arith)

back_up : {p q g h : ℕ} {m : Message} → p ≤ q → g ≤ h → Back p g m → Back q h m
back_up k l (back {p} {c} a b s) = back {p = p} {c = c} (omega arith) (omega arith) s
back_up k l a_data = a_data
back_up k l a_probe = a_probe

true_closed : {H : List ℕ} {closed closed' limit : ℕ} {m : Message} → closed ≡ closed' → True H closed limit m → True H closed' limit m
true_closed e t = rw e at t

-- both of each
both_forth : {H : List ℕ} {closed limit next : ℕ} {ms : List Message} → Each (True H closed limit) ms → Each (Below next) ms → Each (Forth H closed limit next) ms
both_forth each_none each_none = each_none
both_forth (each_more t ts) (each_more b bs) = each_more (forth t b) (both_forth ts bs)

-- bytes and END that have left
record Gone (a : Source) (p : ℕ) (bs : List ℕ) (e : ℕ) : Type 0 where
  says : Says (gone a) p bs
  finished : e ≡ 1 → gone_end a ≡ 1
  whole : e ≡ 1 → p + length bs ≡ length (gone a)

-- AT THE SOURCE
module _ {a : Source} {b : Sink} (v : Flow a b) where
  -- what a direction says of the numbers
  pub closed_most : a.finished ≤ 1
  closed_most = omega (arith, v.sender.orderly.closed, v.closed)

  pub next_most : a.side.next ≤ length a.given + a.finished
  next_most = omega (arith, v.sender.orderly.top, v.sender.given, v.closed)

  pub position_next : position b ≤ a.side.next
  position_next = let k = ack_true v.receiver in let l = length-take a.side.next a.given in omega (arith, next_most)

  pub flow_give : (bs : List ℕ)
      → Flow (record { given = a.given ++ take (taken_of a.side bs) bs; finished = a.finished; side = give_of a.side bs; sent = a.sent }) b
  flow_give bs =
      let g = given_is a.side bs in
      let K : List ℕ = take (taken_of a.side bs) bs in
      let l : length K ≡ taken_of a.side bs = rw length-take (omega arith) in
      let z : a.finished ≡ 1 → length K ≡ 0 = λ f. omega (arith, taken_closed a.side bs (v.closed ∙ f)) in
      let y : length a.given < a.side.next → length K ≡ 0 = λ h. omega (arith, taken_end a.side bs v.sender.orderly (omega (arith, v.sender.given))) in
      record {
        sender = sending_give bs v.sender;
        closed = g.closed ∙ v.closed;
        limit = rw g.limit v.limit;
        receiver = rw g.next (receiver_given a.given a.side.next K y v.receiver);
        finished = v.finished;
        whole = λ r. v.whole r ∙ no_more K (z (v.finished r));
        sent = rw (g.limit, g.next) (every_map (λ d f. forth_grow K z closed_most f) v.sent);
        acks = v.acks;
      }
    where
      no_more : (K : List ℕ) → length K ≡ 0 → a.given ≡ a.given ++ K
      no_more [] e = sym (append-nil a.given)
      no_more (x ∷ K) e = absurd (omega arith)

  pub flow_finish : Flow (record { given = a.given; finished = 1; side = finish_of a.side; sent = a.sent }) b
  flow_finish =
      let g = finished_is a.side in
      record {
        sender = sending_finish v.sender;
        closed = g.closed;
        limit = rw g.limit v.limit;
        receiver = rw g.next v.receiver;
        finished = λ r. refl;
        whole = v.whole;
        sent = rw (g.limit, g.next) (every_map (λ d f. forth_finish f) v.sent);
        acks = v.acks;
      }

  pub flow_ack : (p c : ℕ) → Back (position b) (grant b) (ACK p c) → Flow (record { given = a.given; finished = a.finished; side = ack_of a.side p c; sent = a.sent }) b
  flow_ack p c (back h k s) =
      let g = ack_keeps a.side p c v.sender.orderly in
      record {
        sender = sending_ack p c h v.sender;
        closed = g.closed ∙ v.closed;
        limit = rw g.limit (omega (arith, v.limit));
        receiver = rw g.next v.receiver;
        finished = v.finished;
        whole = v.whole;
        sent = rw g.next (every_map (λ d f. forth_up (omega (arith, g.limit)) (omega arith) f) v.sent);
        acks = v.acks;
      }

  -- a tick's datagrams; ks are the ACKs among them
  pub flow_send : (w : Tick) (t n : ℕ) {ks : List Message} → Each (Forth a.given a.finished a.side.limit (send_of w a.side).side.next) ks
      → Flow (record { given = a.given; finished = a.finished; side = (send_of w a.side).side; sent = leaving t n ((send_of w a.side).sent ++ ks) ++ a.sent }) b
  flow_send w t n {ks} us =
      let g = tick_keeps w a.side in
      let up = next_send w a.side in
      let o = sending_send w v.sender in
      let news = each_append (both_forth (each_map (λ m q. true_closed v.closed q) (send_true w v.sender)) (send_below w a.side v.sender.orderly)) us in
      record {
        sender = o;
        closed = g.closed ∙ v.closed;
        limit = rw g.limit v.limit;
        receiver = receiver_sent a.given a.side.next (send_of w a.side).side.next up (omega (arith, o.orderly.top, o.orderly.closed, o.given)) v.receiver;
        finished = v.finished;
        whole = v.whole;
        sent = rw g.limit (every_append (every_leaving t n news) (every_map (λ d f. forth_up (omega arith) up f) v.sent));
        acks = v.acks;
      }

-- AT THE SINK
module _ {a : Source} {b : Sink} (v : Flow a b) where
  -- DATA that has left is true of what has left
  data_gone : {p e : ℕ} {bs : List ℕ} → TrueData a.given a.finished a.side.limit p bs e → p + length bs + e ≤ a.side.next → Gone a p bs e
  data_gone {p} {e} {bs} t h =
      let l = length-take a.side.next a.given in
      record {
        says = says_first a.side.next t.says (omega arith);
        finished = λ q. omega (arith, t.whole q, next_most v, closed_most v);
        whole = λ q. omega (arith, t.whole q);
      }

  pub flow_hear : (p : ℕ) (bs : List ℕ) (e : ℕ) → refusal_of b.side p (length bs) e ≡ 0 → Forth a.given a.finished a.side.limit a.side.next (DATA p bs e)
      → Flow a (record { taken = b.taken; reported = b.reported; side = hear_of b.side p bs e; sent = b.sent })
  flow_hear p bs e z (forth (data_true t) (data_below h)) =
      let k = data_gone t h in
      let up = position_hear b.side p bs e z in
      let more = limit_hear b.side p bs e z in
      record {
        sender = sending_up up v.sender;
        closed = v.closed;
        limit = omega (arith, v.limit);
        receiver = receiving_hear k.says k.finished k.whole v.receiver;
        finished = v.finished;
        whole = v.whole;
        sent = v.sent;
        acks = every_map (λ d f. back_up up more f) v.acks;
      }

  -- all that is taken was given
  pub taken_says : Says a.given 0 b.taken
  taken_says = rw (take-append-drop a.side.next a.given) at (says_grow (drop a.side.next a.given) v.receiver.says)

  pub taken_short : length b.taken ≤ length a.given
  taken_short = says_length taken_says

  pub flow_take : (n : ℕ)
      → Flow a (record { taken = b.taken ++ got_of b.side n; reported = if (eqb (ended_of (take_of b.side n)) 1) 1 b.reported; side = take_of b.side n; sent = b.sent })
  flow_take n =
      let same = position_take b.side n in
      let more = limit_take b.side n in
      let k = receiving_take n v.receiver in
      let all : Says a.given 0 (b.taken ++ got_of b.side n) = rw (take-append-drop a.side.next a.given) at (says_grow (drop a.side.next a.given) k.says) in
      let still : b.reported ≡ 1 → b.taken ++ got_of b.side n ≡ a.given =
      λ r. says_whole all (let l = says_length all in let e = length-append b.taken (got_of b.side n) in let w = ap length (v.whole r) in omega arith) in
      let now : ended_of (take_of b.side n) ≡ 1 → a.finished ≡ 1 = λ q. let c = ended_closed k q in omega (arith, next_most v, closed_most v) in
      let every : ended_of (take_of b.side n) ≡ 1 → b.taken ++ got_of b.side n ≡ a.given =
      λ q. ended_all k q ∙ take_all a.side.next a.given (let c = ended_closed k q in omega arith) in
      record {
        sender = rw same v.sender;
        closed = v.closed;
        limit = omega (arith, v.limit);
        receiver = k;
        finished = if_case (λ (r : ℕ). r ≡ 1 → a.finished ≡ 1) (eqb (ended_of (take_of b.side n)) 1) (λ t r. now (eqb-true _ _ t)) (λ t r. v.finished r);
        whole = if_case (λ (r : ℕ). r ≡ 1 → b.taken ++ got_of b.side n ≡ a.given) (eqb (ended_of (take_of b.side n)) 1) (λ t r. every (eqb-true _ _ t)) (λ t r. still r);
        sent = v.sent;
        acks = every_map (λ d f. back_up (omega arith) more f) v.acks;
      }

  -- the ACKs of a tick, and what else leaves with them
  pub flow_acks : (t n : ℕ) {ms : List Message} → Each (Back (position b) (grant b)) ms
      → Flow a (record { taken = b.taken; reported = b.reported; side = b.side; sent = leaving t n ms ++ b.sent })
  flow_acks t n us = record {
    sender = v.sender;
    closed = v.closed;
    limit = v.limit;
    receiver = v.receiver;
    finished = v.finished;
    whole = v.whole;
    sent = v.sent;
    acks = every_append (every_leaving t n us) v.acks;
  }

-- an ACK says what its end has and grants
pub back_now : (b : Sink) → Back (position b) (grant b) (ACK (ack_position b.side) (ack_credit b.side))
back_now b =
    let a = ack_says b.side in
    let t = taken_low b.side in
    let l = position_low b.side in
    back {p = ack_position b.side} {c = ack_credit b.side} (omega arith) (omega arith) (omega arith)

-- what the sending side sends is no ACK
pub back_true : {H : List ℕ} {closed limit p g : ℕ} {m : Message} → True H closed limit m → Back p g m
back_true (data_true t) = a_data
back_true (probe_true h) = a_probe

-- A FRESH DIRECTION
pub flow_start : Flow (record { given = []; finished = 0; side = sending.fresh; sent = [] }) (record { taken = []; reported = 0; side = receiving.fresh; sent = [] })
flow_start =
    let f = fresh_is in
    record {
      sender = sending_up (omega arith) sending_start;
      closed = f.closed;
      limit = (let a = ack_says receiving.fresh in omega (arith, f.limit));
      receiver = receiving_start _ _;
      finished = λ r. absurd (omega arith);
      whole = λ r. absurd (omega arith);
      sent = nil;
      acks = nil;
    }

-- WHAT IS SENT can be sent, and is placed where it belongs
module _ {a : Source} {b : Sink} (v : Flow a b) where
  given_most : length a.given ≤ ceiling
  given_most = omega (arith, v.sender.orderly.whole, v.sender.given)

  pub data_placed : {p e : ℕ} {bs : List ℕ} → Forth a.given a.finished a.side.limit a.side.next (DATA p bs e) → refusal_of b.side p (length bs) e ≡ 0
  data_placed {p} {e} {bs} (forth (data_true t) (data_below h)) =
      let k = data_gone v t h in
      let l = length-take a.side.next a.given in
      never_refused v.receiver k.says k.whole
      (λ some. grant_true v.receiver (p + length bs) (omega (arith, t.within, v.limit)) (omega (arith, t.inside)))
      (omega (arith, given_most))

  pub ack_placed : {p c : ℕ} → Back (position b) (grant b) (ACK p c) → p ≤ a.side.next
  ack_placed (back h k s) = omega (arith, position_next v)

  pub forth_sendable : {m : Message} → True a.given a.finished a.side.limit m → Sendable m
  forth_sendable (data_true {p} {bs} {end} t) = a_DATA {p = p} {e = end} {bs = bs} (omega (arith, t.inside, given_most)) t.short t.flag t.some
  forth_sendable (probe_true {p} h) = a_PROBE {p = p} (omega (arith, given_most))

  pub ack_sendable : {p c : ℕ} → Back (position b) (grant b) (ACK p c) → Sendable (ACK p c)
  ack_sendable (back {p} {c} h k s) = an_ACK {p = p} {c = c} (omega (arith, position_next v, next_most v, closed_most v, given_most)) (omega arith)
