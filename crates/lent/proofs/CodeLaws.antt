-- The code's runs follow runs of the model, so that what is delivered is true of the bytes really passed in and out. Assumes nothing.
use Rattle.std.proofs.Common.{◌≡◌, refl, List, [], ◌∷◌, ◌++◌, ℕ, zero, suc, ◌-◌, ◌^◌, ◌<◌, eqb, ℤ, pos, negsuc, length, take, sym, ap, subst, ◌∙◌, append-nil, arith}
use Rattle.std.proofs.Math.Decide.{ℕ_discrete}
use Rattle.std.proofs.Math.Seq.{take-append_seam}
use Rattle.laws.specs.Choice.{if}
use Rattle.laws.specs.Over.{over}
use Rattle.ring.specs.Ring.{capacity}
use Rattle.wire.specs.Datagram.{Message, wire}
use Rattle.wire.specs.Reading.{Decoded, read, decode}
use Rattle.wire.specs.Series.{Series, nothing}
use Rattle.wire.proofs.SeriesLaws.{series_only, series_last, wire_none, wire_next, read_whole}
use Rattle.sending.specs.CallLaws.{In, here, there}
use Rattle.end.specs.End.{End, give_of, finish_of, take_of, hear_answer, hear_of, clock_of, sent_of, tick_of, output_of}
use Rattle.table.specs.Layout.{Sound}
use Rattle.table.specs.Rows.{ready_of}
use Rattle.endpoint.specs.Answer.{answer_of}
use Rattle.endpoint.specs.Calls.{Gives, Finishes, Hears, Takes, tick_row, Ticks}
use Rattle.end.specs.EndLaws.{refuses, takes as accepts, hears as hears_end, output_is}
use Rattle.endpoint.specs.AnswerLaws.{value_above, refusal_below}
use Rattle.end.specs.EndLaws as end
use Rattle.network.specs.World.{Entry, Site, opened, handed, stray, gives, finishes, takes, Act, arrives, calls, ticks, noted, hear, bytes_of, hand_over, strange, arrive, call, leaving, tick, act, Choice, near_acts, far_acts, step, run}
use Rattle.network.specs.Delivered.{numbers_of, acks_in, asks_in, Every, nil, cons, Welcome, Delivered}
use Rattle.network.specs.Truth.{Numbered, Forth, Back, position, grant, sink, Pair}
use Rattle.network.proofs.RunLaws.{swap, entry_read, act_pair, run_pair}
use Rattle.network.proofs.Theorems.{delivered_is_true}
use Rattle.lent.specs.Code.{Desk, held, count_of, after, after_give, after_finish, after_hear, after_take, after_tick, Handed, own, other, Does, Begins, opens, CodeRun, begin, near, far, number_in, ack_in, ask_in, numbers_among, acks_among, asks_among, CodeDelivered, CodeBothWays}
use Rattle.lent.specs.Code.Does.{gives as gave, finishes as finished, hears as heard, takes as took, ticks as ticked}

-- ANSWERS
count_value : {r : ℤ} (n : ℕ) → r ≡ answer_of 0 n → count_of r ≡ n
unfolding count_of
count_value n q = rw (q ∙ value_above n)

count_refused : {r : ℤ} (k n : ℕ) → (k ≡ 0 → ⊥) → r ≡ answer_of k n → count_of r ≡ 0
unfolding count_of
count_refused k n h q = rw (q ∙ refusal_below k n h)

after_value : {A : Type 0} {r : ℤ} (n : ℕ) (a b : A) → r ≡ answer_of 0 n → after r a b ≡ b
unfolding after
after_value n a b q = rw (q ∙ value_above n)

after_refused : {A : Type 0} {r : ℤ} (k n : ℕ) (a b : A) → (k ≡ 0 → ⊥) → r ≡ answer_of k n → after r a b ≡ a
unfolding after
after_refused k n a b h q = rw (q ∙ refusal_below k n h)

value_zero : {r : ℤ} (k : ℕ) → r ≡ answer_of k 0 → r ≡ answer_of 0 0 → k ≡ 0
value_zero zero q p = refl
value_zero (suc k) q p = let z : negsuc (suc k - 1) ≡ pos 0 = sym (refusal_below (suc k) 0 (λ e. omega arith)) ∙ sym q ∙ p ∙ value_above 0 in let y : ◌≡◌ {A = ℕ} 0 1 = cc in absurd (omega arith)

-- A DESK AND A SITE that are at the same point of a run
unfoldable pub all_bytes : ℕ → List Entry → List (List ℕ)
all_bytes epoch [] = []
all_bytes epoch (d ∷ ds) = bytes_of epoch d ∷ all_bytes epoch ds

pub data Decodes : List (List ℕ) → List Entry → Type 0 where
  none : Decodes [] []
  more : {epoch : ℕ} {d : List ℕ} {e : Entry} {ds : List (List ℕ)} {es : List Entry} → decode d ≡ read epoch e.number e.message → Decodes ds es → Decodes (d ∷ ds) (e ∷ es)

pub record Matches (epoch : ℕ) (x : Desk) (s : Site) : Type 0 where
  pub sound : Sound x.lent.table x.lent.outgoing x.lent.incoming x.lent.marks
  pub end : held x ≡ s.end
  pub given : x.given ≡ s.given
  pub finished : x.finished ≡ s.finished
  pub taken : x.taken ≡ s.taken
  pub reported : x.reported ≡ s.reported
  pub sent : x.sent ≡ all_bytes epoch s.sent
  pub accepted : Decodes x.accepted s.accepted

-- s, in the company of u, has come to a site
data Reaches (s u : Site) : Site → Type 0 where
  stays : Reaches s u s
  acts : (a : Act) → Reaches s u (act s u a)

record Follow (epoch : ℕ) (x : Desk) (s u : Site) : Type 0 where
  site : Site
  how : Reaches s u site
  matches : Matches epoch x site

-- GIVE
follow_give : {epoch : ℕ} {x : Desk} {s : Site} (u : Site) {bs : List ℕ} {r : ℤ} {t' o' : List ℕ} → Matches epoch x s → Gives x.lent.table x.lent.outgoing bs r t' o'
    → Follow epoch (after_give x bs r t' o') s u
unfolding act call
follow_give {x = x} {s} u {bs} {r} {t'} {o'} v k = elim (ℕ_discrete (ready_of x.lent.table (length x.lent.outgoing) capacity) 0) [
  | yes z ↦
      let g = k.done z x.lent.incoming x.lent.marks v.sound in
      record {
        site = act s u (calls (gives bs));
        how = acts (calls (gives bs));
        matches = record {
          sound = g.became.sound;
          end = g.became.end ∙ ap (λ (e : End). give_of e bs) v.end;
          given = rw (count_value _ g.answer, v.given, v.end);
          finished = v.finished;
          taken = v.taken;
          reported = v.reported;
          sent = v.sent;
          accepted = v.accepted;
        };
      }
  | no z ↦
      let q = k.refused z in
      record {
        site = s;
        how = stays;
        matches = record {
          sound = rw (q.0, q.1) v.sound;
          end = rw (q.0, q.1) v.end;
          given = rw (count_refused _ 0 z (k.answer z), append-nil) v.given;
          finished = v.finished;
          taken = v.taken;
          reported = v.reported;
          sent = v.sent;
          accepted = v.accepted;
        };
      }
]

-- FINISH
follow_finish : {epoch : ℕ} {x : Desk} {s : Site} (u : Site) {r : ℤ} {t' : List ℕ} → Matches epoch x s → Finishes x.lent.table r t'
    → Follow epoch (after_finish x r t') s u
unfolding act call
follow_finish {x = x} {s} u {r} {t'} v k = elim (ℕ_discrete (ready_of x.lent.table capacity capacity) 0) [
  | yes z ↦
      let g = k.done z x.lent.outgoing x.lent.incoming x.lent.marks v.sound in
      record {
        site = act s u (calls finishes);
        how = acts (calls finishes);
        matches = record {
          sound = g.sound;
          end = g.end ∙ ap finish_of v.end;
          given = v.given;
          finished = after_value 0 x.finished 1 (k.answer ∙ ap (λ (n : ℕ). answer_of n 0) z);
          taken = v.taken;
          reported = v.reported;
          sent = v.sent;
          accepted = v.accepted;
        };
      }
  | no z ↦
      let q = k.refused z in
      record {
        site = s;
        how = stays;
        matches = record {
          sound = rw q v.sound;
          end = rw q v.end;
          given = v.given;
          finished = after_refused _ 0 x.finished 1 z k.answer ∙ v.finished;
          taken = v.taken;
          reported = v.reported;
          sent = v.sent;
          accepted = v.accepted;
        };
      }
]

-- TAKE
over_first : (xs out : List ℕ) → take (length xs) (over xs out) ≡ xs
unfolding over
over_first xs out = take-append_seam xs _

follow_take : {epoch : ℕ} {x : Desk} {s : Site} (u : Site) {d : List ℕ} {e : ℕ} {r : ℤ} {t' d' : List ℕ} {e' : ℕ} → Matches epoch x s → Takes x.lent.table x.lent.incoming d e r t' d' e'
    → Follow epoch (after_take x r t' d' e') s u
unfolding act call
follow_take {x = x} {s} u {d} {e} {r} {t'} {d'} {e'} v k = elim (ℕ_discrete (ready_of x.lent.table (length x.lent.incoming) capacity) 0) [
  | yes z ↦
      let g = k.done z x.lent.outgoing x.lent.marks v.sound in
      let n : ℕ = length d in
      record {
        site = act s u (calls (takes n));
        how = acts (calls (takes n));
        matches = record {
          sound = g.became.sound;
          end = g.became.end ∙ ap (λ (f : End). take_of f n) v.end;
          given = v.given;
          finished = v.finished;
          taken = rw (count_value _ g.answer, g.bytes, over_first, v.taken, v.end);
          reported = after_value _ x.reported (if (eqb e' 1) 1 x.reported) g.answer ∙ rw (g.reached, v.reported, v.end);
          sent = v.sent;
          accepted = v.accepted;
        };
      }
  | no z ↦
      let q = k.refused z in
      record {
        site = s;
        how = stays;
        matches = record {
          sound = rw q.0 v.sound;
          end = rw q.0 v.end;
          given = v.given;
          finished = v.finished;
          taken = rw (count_refused _ 0 z (k.answer z), append-nil) v.taken;
          reported = after_refused _ 0 x.reported (if (eqb e' 1) 1 x.reported) z (k.answer z) ∙ v.reported;
          sent = v.sent;
          accepted = v.accepted;
        };
      }
]

-- DATAGRAM
noted_match : {e f : End} {D : Decoded} {k : ℕ} {r : ℤ} (d : List ℕ) {ds : List (List ℕ)} {es : List Entry} (clock : ℕ) → end.Hears e D k f → decode d ≡ D → r ≡ answer_of k 0 → Decodes ds es
    → Decodes (after r ds (d ∷ ds)) (noted k clock D ++ es)
unfolding noted
noted_match d {ds} clock (refuses {r = k}) q p m = rw (after_refused (suc k) 0 ds (d ∷ ds) (λ z. omega arith) p) m
noted_match d {ds} clock (accepts z a) q p m = rw (after_value 0 ds (d ∷ ds) p) (more q m)

heard_match : {epoch : ℕ} {x : Desk} {s : Site} {d : List ℕ} {r : ℤ} {t' i' m' : List ℕ} → Matches epoch x s → Hears x.lent.table x.lent.incoming x.lent.marks d r t' i' m'
    → ready_of x.lent.table (length x.lent.incoming) (length x.lent.marks) ≡ 0
    → Matches epoch (after_hear x d r t' i' m') (hear s d)
unfolding hear
heard_match {x = x} {s} {d} v k z =
    let g = k.done z x.lent.outgoing v.sound in
    record {
      sound = g.became.sound;
      end = g.became.end ∙ ap (λ (f : End). hear_of f d) v.end;
      given = v.given;
      finished = v.finished;
      taken = v.taken;
      reported = v.reported;
      sent = v.sent;
      accepted = noted_match d s.end.clock (hears_end s.end d) refl (g.answer ∙ ap (λ (f : End). answer_of (hear_answer f d) 0) v.end) v.accepted;
    }

-- which one it was
record Which (s : Site) (epoch : ℕ) (ds : List Entry) (d : List ℕ) : Type 0 where
  index : ℕ
  is : hand_over s epoch ds index ≡ hear s d

which : (s : Site) (epoch : ℕ) (ds : List Entry) {d : List ℕ} → In d (all_bytes epoch ds) → Which s epoch ds d
unfolding hand_over all_bytes
which s epoch [] i = elim i [ ]
which s epoch (e ∷ ds) here = record { index = 0; is = refl }
which s epoch (e ∷ ds) (there i) = let k = which s epoch ds i in record { index = suc k.index; is = k.is }

-- the act that hands it over
record Brings (s u : Site) (d : List ℕ) : Type 0 where
  by : Act
  is : act s u by ≡ hear s d

brings : {epoch : ℕ} {y : Desk} {s u : Site} {d : List ℕ} → Matches epoch y u → u.end.epoch ≡ epoch → Handed epoch y.sent d → Brings s u d
unfolding act arrive
brings {epoch} {y} {s} {u} {d} w e (own i) =
    let k = which s epoch u.sent (rw w.sent at i) in
    record { by = arrives (handed k.index); is = ap (λ (o : ℕ). hand_over s o u.sent k.index) e ∙ k.is }
brings {epoch} {y} {s} {u} {d} w e (other t) =
    record { by = arrives (stray d); is = ap (λ (o : ℕ). if (strange o (decode d)) (hear s d) s) e ∙ rw t }

follow_hear : {epoch : ℕ} {x y : Desk} {s u : Site} {d : List ℕ} {r : ℤ} {t' i' m' : List ℕ} → Matches epoch x s → Matches epoch y u → u.end.epoch ≡ epoch → Handed epoch y.sent d
    → Hears x.lent.table x.lent.incoming x.lent.marks d r t' i' m'
    → Follow epoch (after_hear x d r t' i' m') s u
follow_hear {epoch} {x} {y} {s} {u} {d} {r} v w e h k = elim (ℕ_discrete (ready_of x.lent.table (length x.lent.incoming) (length x.lent.marks)) 0) [
  | yes z ↦
      let b = brings {s = s} w e h in
      record { site = act s u b.by; how = acts b.by; matches = rw b.is (heard_match v k z) }
  | no z ↦
      let q = k.refused (λ p. z (value_zero _ (k.answer z) p)) in
      record {
        site = s;
        how = stays;
        matches = record {
          sound = rw (q.0, q.1, q.2) v.sound;
          end = rw (q.0, q.1, q.2) v.end;
          given = v.given;
          finished = v.finished;
          taken = v.taken;
          reported = v.reported;
          sent = v.sent;
          accepted = rw (after_refused _ 0 x.accepted (d ∷ x.accepted) z (k.answer z)) v.accepted;
        };
      }
]

-- TICK
-- what was sent is read as it was sent
abbrev Reads : ℕ → Entry → Type 0
Reads epoch d = decode (bytes_of epoch d) ≡ read epoch d.number d.message

all_read : {epoch : ℕ} {x y : Site} {ds : List Entry} → epoch < 2 ^ 64 → Pair epoch x y → Every (Numbered x.end.number) ds
    → Every (λ d. Forth x.given x.finished x.end.sending.limit x.end.sending.next d.message) ds
    → Every (λ d. Back (position (sink x)) (grant (sink x)) d.message) ds
    → Every (Reads epoch) ds
all_read e v nil nil nil = nil
all_read e v (cons {d} n ns) (cons f fs) (cons b bs) = cons (entry_read d e (swap v) n (record { forth = f; back = b })) (all_read e v ns fs bs)

sent_read : {epoch : ℕ} {x y : Site} → epoch < 2 ^ 64 → Pair epoch x y → Every (Reads epoch) x.sent
sent_read e v = all_read e v v.here.numbered v.out.sent v.back.acks

front : {P : Entry → Type 0} (ds es : List Entry) → Every P (ds ++ es) → Every P ds
front [] es a = nil
front (d ∷ ds) es (cons p a) = cons p (front ds es a)

all_append : (epoch : ℕ) (ds es : List Entry) → all_bytes epoch (ds ++ es) ≡ all_bytes epoch ds ++ all_bytes epoch es
unfolding all_bytes
all_append epoch [] es = refl
all_append epoch (d ∷ ds) es = ap (λ (l : List (List ℕ)). bytes_of epoch d ∷ l) (all_append epoch ds es)

series_leaving : (epoch t n : ℕ) (ms : List Message) → Every (Reads epoch) (leaving t n ms) → Series (wire epoch n ms) (all_bytes epoch (leaving t n ms))
unfolding leaving all_bytes bytes_of
series_leaving epoch t n [] a = rw (wire_none epoch n) nothing
series_leaving epoch t n (m ∷ ms) (cons p a) = rw (wire_next epoch n m ms) (series_last (series_leaving epoch t n ms a) (read_whole _ epoch _ m p))

tick_sent : {epoch : ℕ} {s u : Site} {ds : List (List ℕ)} → epoch < 2 ^ 64 → Pair epoch s u → Pair epoch (tick s) u → Series (output_of s.end) ds
    → ds ≡ all_bytes epoch (leaving (clock_of s.end) s.end.number (sent_of s.end))
unfolding tick
tick_sent {epoch} {s} {u} e v w a =
    let ms = sent_of s.end in
    let b = series_leaving epoch (clock_of s.end) s.end.number ms (front (leaving (clock_of s.end) s.end.number ms) s.sent (sent_read e w)) in
    series_only a b (output_is s.end ∙ ap (λ (o : ℕ). wire o s.end.number ms) v.here.epoch_is)

follow_tick : {epoch : ℕ} {x : Desk} {s u : Site} {out : List ℕ} {r : ℤ} {t' out' : List ℕ} {ds : List (List ℕ)} → epoch < 2 ^ 64 → Pair epoch s u → Matches epoch x s
    → Ticks x.lent.table x.lent.outgoing out r t' out'
    → Series (take (count_of r) out') ds
    → Follow epoch (after_tick x ds t') s u
unfolding act tick
follow_tick {epoch} {x} {s} {u} {out} {r} {t'} {out'} {ds} e w v k a = elim (ℕ_discrete (tick_row x.lent.table (length x.lent.outgoing) (length out)) 0) [
  | yes z ↦
      let g = k.done z x.lent.incoming x.lent.marks v.sound in
      let o : take (count_of r) out' ≡ output_of s.end = rw (count_value _ g.answer, g.sent, over_first, v.end) in
      let is = tick_sent e w (act_pair ticks e w) (rw o at a) in
      record {
        site = act s u ticks;
        how = acts ticks;
        matches = record {
          sound = g.became.sound;
          end = g.became.end ∙ ap tick_of v.end;
          given = v.given;
          finished = v.finished;
          taken = v.taken;
          reported = v.reported;
          sent = rw (is, v.sent) (sym (all_append epoch _ s.sent));
          accepted = v.accepted;
        };
      }
  | no z ↦
      let q = k.refused z in
      let o : take (count_of r) out' ≡ [] = rw (count_refused _ 0 z (k.answer z)) in
      let is : ds ≡ [] = series_only a nothing o in
      record {
        site = s;
        how = stays;
        matches = record {
          sound = rw q.0 v.sound;
          end = rw q.0 v.end;
          given = v.given;
          finished = v.finished;
          taken = v.taken;
          reported = v.reported;
          sent = rw is v.sent;
          accepted = v.accepted;
        };
      }
]

-- RUNS
follow : {epoch : ℕ} {x y x' : Desk} {s u : Site} → epoch < 2 ^ 64 → Pair epoch s u → Matches epoch x s → Matches epoch y u → Does epoch y.sent x x' → Follow epoch x' s u
follow {u = u} e p v w (gave k) = follow_give u v k
follow {u = u} e p v w (finished k) = follow_finish u v k
follow e p v w (heard h k) = follow_hear v w p.there.epoch_is h k
follow {u = u} e p v w (took k) = follow_take u v k
follow e p v w (ticked k a) = follow_tick e p v k a

pub record Follows (epoch : ℕ) (x y : Desk) : Type 0 where
  pub r : ℕ
  pub s : ℕ
  pub choices : List Choice
  pub near_matches : Matches epoch x (run epoch r s choices).near
  pub far_matches : Matches epoch y (run epoch r s choices).far

begin_matches : {epoch : ℕ} {x : Desk} → Begins epoch x → (interval : ℕ) × Matches epoch x (opened epoch interval)
unfolding opened all_bytes
begin_matches {epoch} (opens {interval = interval} k q) =
    let z = value_zero _ k.answer q in
    (interval, record { sound = k.sound z; end = k.end z; given = refl; finished = refl; taken = refl; reported = refl; sent = refl; accepted = none })

near_reaches : {epoch : ℕ} {x y : Desk} (r s : ℕ) (cs : List Choice) {site : Site} → Reaches (run epoch r s cs).near (run epoch r s cs).far site → Matches epoch x site
    → Matches epoch y (run epoch r s cs).far
    → Follows epoch x y
unfolding run step
near_reaches r s cs stays m w = record { r = r; s = s; choices = cs; near_matches = m; far_matches = w }
near_reaches r s cs (acts a) m w = record { r = r; s = s; choices = near_acts a ∷ cs; near_matches = m; far_matches = w }

far_reaches : {epoch : ℕ} {x y : Desk} (r s : ℕ) (cs : List Choice) {site : Site} → Reaches (run epoch r s cs).far (run epoch r s cs).near site → Matches epoch x (run epoch r s cs).near
    → Matches epoch y site
    → Follows epoch x y
unfolding run step
far_reaches r s cs stays m w = record { r = r; s = s; choices = cs; near_matches = m; far_matches = w }
far_reaches r s cs (acts a) m w = record { r = r; s = s; choices = far_acts a ∷ cs; near_matches = m; far_matches = w }

-- each run of the code is one of the model
pub follows : {epoch : ℕ} {x y : Desk} → epoch < 2 ^ 64 → CodeRun epoch x y → Follows epoch x y
unfolding run
follows e (begin a b) =
    let k = begin_matches a in
    let l = begin_matches b in
    record { r = k.0; s = l.0; choices = []; near_matches = k.1; far_matches = l.1 }
follows {epoch} e (near c d) =
    let f = follows e c in
    let k = follow e (run_pair epoch f.r f.s e f.choices) f.near_matches f.far_matches d in
    near_reaches f.r f.s f.choices k.how k.matches f.far_matches
follows {epoch} e (far c d) =
    let f = follows e c in
    let k = follow e (swap (run_pair epoch f.r f.s e f.choices)) f.far_matches f.near_matches d in
    far_reaches f.r f.s f.choices k.how f.near_matches k.matches

-- THE SAME OF THE BYTES
numbers_among_lem : {ds : List (List ℕ)} {es : List Entry} → Decodes ds es → numbers_among ds ≡ numbers_of es
unfolding numbers_among numbers_of number_in
numbers_among_lem none = refl
numbers_among_lem (more q m) = rw (q, numbers_among_lem m)

asks_among_lem : {ds : List (List ℕ)} {es : List Entry} → Decodes ds es → asks_among ds ≡ asks_in es
unfolding asks_among asks_in ask_in
asks_among_lem none = refl
asks_among_lem (more q m) = rw (q, asks_among_lem m)

acks_among_lem : {epoch : ℕ} {es : List Entry} → Every (Reads epoch) es → acks_among (all_bytes epoch es) ≡ acks_in es
unfolding acks_among acks_in ack_in all_bytes
acks_among_lem nil = refl
acks_among_lem (cons q m) = rw (q, acks_among_lem m)

all_bytes_lem : {P : List ℕ → Type 0} (epoch : ℕ) {es : List Entry} → Every (λ d. P (bytes_of epoch d)) es → Every P (all_bytes epoch es)
unfolding all_bytes
all_bytes_lem epoch nil = nil
all_bytes_lem epoch (cons p a) = cons p (all_bytes_lem epoch a)

code_delivered : {epoch : ℕ} {x y : Desk} {s u : Site} → epoch < 2 ^ 64 → Pair epoch s u → Matches epoch x s → Matches epoch y u → Delivered s u → CodeDelivered x y
code_delivered {epoch} {x} {y} {s} {u} e p v w d = record {
  beginning = rw (v.given, w.taken) d.beginning;
  finished = rw (v.finished, w.reported) d.finished;
  whole = rw (v.given, w.taken, w.reported) d.whole;
  acked = rw (v.end, w.end) d.acked;
  dropped = rw (v.end, w.end, v.given, w.taken) d.dropped;
  dropped_end = rw (v.end, w.end, v.given) d.dropped_end;
  once = rw (numbers_among_lem w.accepted) d.once;
  answered = rw (asks_among_lem w.accepted, w.sent, acks_among_lem (sent_read e (swap p))) d.answered;
  welcome = rw (v.sent, w.end) (all_bytes_lem epoch (subst (λ (o : ℕ). Every (λ d. Welcome (hear_answer u.end (bytes_of o d))) s.sent) p.here.epoch_is d.welcome));
}

-- THE THEOREM: whatever is lent, passed and handed over, the bytes that hosts give and get through the six functions are true
pub code_is_true : {epoch : ℕ} {x y : Desk} → epoch < 2 ^ 64 → CodeRun epoch x y → CodeBothWays x y
code_is_true {epoch} e c =
    let f = follows e c in
    let p = run_pair epoch f.r f.s e f.choices in
    let b = delivered_is_true epoch f.r f.s e f.choices in
    record { out = code_delivered e p f.near_matches f.far_matches b.out; back = code_delivered e (swap p) f.far_matches f.near_matches b.back }
