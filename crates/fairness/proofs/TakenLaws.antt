-- Who accepts a number, and when: a datagram that is handed over within 32 ticks of its sending has been accepted by then, once. Assumes nothing.
use Rattle.std.proofs.Common.{◌≡◌, refl, true, false, not, ℕ, zero, suc, ◌+◌, ◌-◌, ◌*◌, ◌^◌, ◌≤◌, ◌<◌, eqb, length, ap, sym, ◌∙◌, ⊎_elim, add-zero, add-suc, arith, eq-eqb, ne_eqb, List, [], ◌∷◌, ◌++◌}
use mathlib.Core.List.Memᴰ
use mathlib.Core.List.{Memᴰ}
use Rattle.std.proofs.Math.Decide.{ℕ_discrete}
use Rattle.laws.specs.Choice.{if, if_case}
use Rattle.wire.specs.Datagram.{Message}
use Rattle.wire.specs.Reading.{Decoded, read, decode}
use Rattle.window.specs.Window.{width}
use Rattle.window.proofs.HistoryLaws.{still_new, high_reached}
use Rattle.sending.specs.CallLaws.{In, here, there}
use Rattle.end.specs.End.{End, open_of, hear_answer, sent_of}
use Rattle.network.specs.World.{Entry, Site, opened, Arrival, handed, stray, Call, gives, finishes, takes, arrives, calls, noted, hear, bytes_of, hand_over, strange, arrive, call, leaving, act}
use Rattle.network.specs.Rounds.{all_choices, play}
use Rattle.network.specs.Delivered.{numbers_of, Every, nil, cons}
use Rattle.network.specs.Truth.{sink, position, grant, Forth, Back, back, a_data, a_probe, Pair}
use Rattle.network.specs.FlowLaws.{data_placed, ack_placed}
use Rattle.end.specs.EndLaws.{Accepts, Hears, hears, Placed, placed_data, placed_ack, placed_probe, answer_number}
use Rattle.end.specs.EndLaws.Hears.{refuses, takes as accepts}
use Rattle.network.proofs.RunLaws.{swap, Honest, entry_read, act_pair, run_pair}
use Rattle.fairness.specs.Timed.{Plan, rounds_of, at, Side, the_near, the_far, other, arrivals_of, calls_of, site_at, end_at}
use Rattle.fairness.specs.Networks.{sent_in, Stands, first, later}
use Rattle.fairness.specs.TimedLaws.{twice, heard, called, ready, ready_at}
use Rattle.fairness.specs.SideLaws.{Works, works_same, works_then, works_heard, works_arrive, works_called}
use Rattle.fairness.specs.OldestLaws.{in_left, in_right}
use Rattle.fairness.specs.StateLaws.{site_start, end_start, sent_in_lem, sent_next, ticks_at, number_next, number_up, number_few}

-- BOTH ENDS, at every moment of a tick
pub pair_at : (σ : Plan) (d : Side) (n : ℕ) → σ.epoch < 2 ^ 64 → Pair σ.epoch (site_at σ d n) (site_at σ (other d) n)
unfolding site_at at play
pair_at σ the_near n e = run_pair σ.epoch σ.near σ.far e (all_choices (rounds_of σ n))
pair_at σ the_far n e = swap (run_pair σ.epoch σ.near σ.far e (all_choices (rounds_of σ n)))

arrive_pair : {epoch : ℕ} {x y : Site} (a : Arrival) → epoch < 2 ^ 64 → Pair epoch x y → Pair epoch (arrive x y a) y
unfolding act
arrive_pair a e v = act_pair (arrives a) e v

pub heard_pair : {epoch : ℕ} {x y : Site} (xs : List Arrival) → epoch < 2 ^ 64 → Pair epoch x y → Pair epoch (heard x y xs) y
unfolding heard
heard_pair [] e v = v
heard_pair (a ∷ xs) e v = arrive_pair a e (heard_pair xs e v)

call_pair : {epoch : ℕ} {x y : Site} (c : Call) → epoch < 2 ^ 64 → Pair epoch x y → Pair epoch (call x c) y
unfolding act
call_pair c e v = act_pair (calls c) e v

called_pair : {epoch : ℕ} {x y : Site} (cs : List Call) → epoch < 2 ^ 64 → Pair epoch x y → Pair epoch (called x cs) y
unfolding called
called_pair [] e v = v
called_pair (c ∷ cs) e v = call_pair c e (called_pair cs e v)

pub ready_pair : (σ : Plan) (d : Side) (n : ℕ) → σ.epoch < 2 ^ 64 → Pair σ.epoch (ready_at σ d n) (site_at σ (other d) n)
unfolding ready_at ready
ready_pair σ d n e = called_pair (calls_of d (σ.round n)) e (heard_pair (arrivals_of d (σ.round n)) e (pair_at σ d n e))

-- NUMBERS OF WHAT WAS SENT: one after the other, the newest first
pub data Row : ℕ → List Entry → Type 0 where
  no_row : Row 0 []
  one_row : {n : ℕ} {d : Entry} {ds : List Entry} → d.number ≡ suc n → Row n ds → Row (suc n) (d ∷ ds)

row_leaving : (t n : ℕ) (ms : List Message) {ds : List Entry} → Row n ds → Row (n + length ms) (leaving t n ms ++ ds)
unfolding leaving
row_leaving t n [] r = rw add-zero r
row_leaving t n (m ∷ ms) {ds} r =
    let e : n + length (m ∷ ms) ≡ suc (n + length ms) = add-suc n (length ms) in
    let f : n + length ms + 1 ≡ suc (n + length ms) = omega arith in
    rw e (one_row {n = n + length ms} {d = record { tick = t; number = n + length ms + 1; message = m }} f (row_leaving t n ms r))

pub row_at : (σ : Plan) (d : Side) (n : ℕ) → Row (end_at σ d n).number (site_at σ d n).sent
unfolding opened open_of
row_at σ d zero = rw (site_start σ d, end_start σ d) no_row
row_at σ d (suc n) = rw (number_next σ d n, sent_next σ d n, sent_in_lem σ d n) (row_leaving _ (end_at σ d n).number (sent_of (ready_at σ d n).end) (row_at σ d n))

row_below : {n : ℕ} {d : Entry} {ds : List Entry} → Row n ds → In d ds → d.number ≤ n
row_below no_row i = elim i [ ]
row_below (one_row e r) here = omega arith
row_below (one_row e r) (there i) = let k = row_below r i in omega arith

-- a number is one datagram's
pub row_same : {d e : Entry} {n : ℕ} {ds : List Entry} → Row n ds → In d ds → In e ds → d.number ≡ e.number → d ≡ e
row_same r here here q = refl
row_same (one_row {n} {d} f r) here (there {y} i) q = let k = row_below r i in absurd (omega arith)
row_same (one_row f r) (there i) here q = let k = row_below r i in absurd (omega arith)
row_same (one_row f r) (there i) (there j) q = row_same r i j q

in_none : {A : Type 0} {x : A} → In x [] → ⊥
in_none i = elim i [ ]

record Between (n m k : ℕ) : Type 0 where
  above : n < k
  most : k ≤ m

in_leaving : (t n : ℕ) (ms : List Message) {d : Entry} → In d (leaving t n ms) → Between n (n + length ms) d.number
unfolding leaving
in_leaving t n [] i = absurd (in_none i)
in_leaving t n (m ∷ ms) here = record { above = omega arith; most = omega arith }
in_leaving t n (m ∷ ms) (there i) = let k = in_leaving t n ms i in record { above = k.above; most = omega (arith, k.most) }

-- what was sent in tick k is above all that was sent before, and is there from then on
pub sent_above : (σ : Plan) (d : Side) (k : ℕ) {e : Entry} → In e (sent_in σ d k) → (end_at σ d k).number < e.number
sent_above σ d k i = (in_leaving _ _ (sent_of (ready_at σ d k).end) (rw (sent_in_lem σ d k) at i)).above

pub sent_stays : (σ : Plan) (d : Side) (k n : ℕ) {e : Entry} → In e (sent_in σ d k) → k < n → In e (site_at σ d n).sent
sent_stays σ d k n {e} i h = let q : suc k + (n - suc k) ≡ n = omega arith in rw q at (go (n - suc k))
  where
    go : (m : ℕ) → In e (site_at σ d (suc k + m)).sent
    go zero = rw (add-zero, sent_next σ d k) (in_left (site_at σ d k).sent i)
    go (suc m) = rw (add-suc, sent_next σ d (suc k + m)) (in_right (sent_in σ d (suc k + m)) (go m))

-- NUMBERS THAT WERE ACCEPTED: 1 where p is among them
unfoldable pub has : ℕ → List Entry → ℕ
has p [] = 0
has p (d ∷ ds) = if (eqb d.number p) 1 (has p ds)

has_one : (p : ℕ) (ds : List Entry) → has p ds ≤ 1
unfolding has
has_one p [] = omega arith
has_one p (d ∷ ds) = if_case (λ (n : ℕ). n ≤ 1) (eqb d.number p) (λ e. omega arith) (λ e. has_one p ds)

has_in : (p : ℕ) (ds : List Entry) → Memᴰ p (numbers_of ds) → has p ds ≡ 1
unfolding has numbers_of
has_in p [] i = absurd (Memᴰ.not-nil i)
has_in p (d ∷ ds) i = if_case (λ (n : ℕ). n ≡ 1) (eqb d.number p) (λ e. refl)
    (λ e. ⊎_elim (λ q. let z : eqb d.number p ≡ true = eq-eqb d.number p (sym q) in let y : ◌≡◌ {A = ℕ} 0 1 = cc in absurd (omega arith)) (λ j. has_in p ds j) (Memᴰ.cases_cons i))

-- WHAT ONE ARRIVAL DOES to the number p: nothing, or it is accepted
pub data Event (x y : Site) (p : ℕ) (z : Site) : Type 0 where
  quiet : has p z.accepted ≡ has p x.accepted → Event x y p z
  event : {d : Entry} → In d y.sent → d.number ≡ p → has p z.accepted ≡ 1 → Accepts x.end p d.message z.end → Event x y p z

-- a datagram of this epoch that y has sent
record From (y : Site) (number : ℕ) (m : Message) : Type 0 where
  entry : Entry
  sent : In entry y.sent
  number_is : entry.number ≡ number
  message_is : entry.message ≡ m

abbrev heard_as : Site → Decoded → ℕ → End → Site
heard_as x D r f = record {
  end = f;
  given = x.given;
  finished = x.finished;
  taken = x.taken;
  reported = x.reported;
  sent = x.sent;
  accepted = noted r x.end.clock D ++ x.accepted;
}

accepts_as : {e f : End} {p q : ℕ} {m k : Message} → q ≡ p → k ≡ m → Accepts e q m f → Accepts e p k f
accepts_as a b h = rw b (rw a at h)

hears_event : {x y : Site} (p : ℕ) {D : Decoded} {r : ℕ} {f : End} → Hears x.end D r f → ((number : ℕ) (m : Message) → D ≡ read x.end.epoch number m → From y number m)
    → Event x y p (heard_as x D r f)
unfolding noted has
hears_event p refuses h = quiet refl
hears_event {x} {y} p (accepts {number} {m} {f} z a) h = go (ℕ_discrete number p)
  where
    go : Dec (number ≡ p) → Event x y p (heard_as x (read x.end.epoch number m) 0 f)
    go (yes q) =
        let k = h number m refl in
        event k.sent (k.number_is ∙ q) (rw (eq-eqb number p q)) (accepts_as q k.message_is a)
    go (no q) = quiet (rw (ne_eqb number p q))

hear_event : {x y : Site} (p : ℕ) (d : List ℕ) → ((number : ℕ) (m : Message) → decode d ≡ read x.end.epoch number m → From y number m) → Event x y p (hear x d)
unfolding hear
hear_event {x} p d h = hears_event p (hears x.end d) h

every_in : {P : Entry → Type 0} {d : Entry} {ds : List Entry} → Every P ds → In d ds → P d
every_in nil i = elim i [ ]
every_in (cons p a) here = p
every_in (cons p a) (there i) = every_in a i

pub stands_in : {A : Type 0} {x : A} {xs : List A} {i : ℕ} → Stands x xs i → In x xs
stands_in first = here
stands_in (later s) = there (stands_in s)

-- what y has sent is honest, and is read as it was sent
pub honest : {epoch : ℕ} {x y : Site} {d : Entry} → Pair epoch x y → In d y.sent → Honest y d.message
honest v i = record { forth = every_in v.back.sent i; back = every_in v.out.acks i }

reads : {epoch : ℕ} {x y : Site} {d : Entry} → epoch < 2 ^ 64 → Pair epoch x y → In d y.sent → decode (bytes_of y.end.epoch d) ≡ read x.end.epoch d.number d.message
reads {epoch} {x} {y} {d} e v i =
    ap (λ (o : ℕ). decode (bytes_of o d)) v.there.epoch_is ∙ entry_read d e v (every_in v.there.numbered i) (honest v i) ∙ ap (λ (o : ℕ). read o d.number d.message) (sym v.here.epoch_is)

entry_event : {epoch : ℕ} {x y : Site} {d : Entry} (p : ℕ) → epoch < 2 ^ 64 → Pair epoch x y → In d y.sent → Event x y p (hear x (bytes_of y.end.epoch d))
entry_event {x = x} {y} {d} p e v i =
    hear_event p (bytes_of y.end.epoch d) (λ number m q. let r = reads e v i in record { entry = d; sent = i; number_is = cc; message_is = cc })

-- the i-th of those that were sent, or none
data Handed (x : Site) (o : ℕ) (ds : List Entry) (z : Site) : Type 0 where
  nothing : z ≡ x → Handed x o ds z
  something : {d : Entry} → In d ds → z ≡ hear x (bytes_of o d) → Handed x o ds z

handed_is : (x : Site) (o : ℕ) (ds : List Entry) (i : ℕ) → Handed x o ds (hand_over x o ds i)
unfolding hand_over
handed_is x o [] i = nothing refl
handed_is x o (d ∷ ds) zero = something here refl
handed_is x o (d ∷ ds) (suc i) = go (handed_is x o ds i)
  where
    go : {z : Site} → Handed x o ds z → Handed x o (d ∷ ds) z
    go (nothing q) = nothing q
    go (something i q) = something (there i) q

strange_not : (epoch : ℕ) (D : Decoded) (number : ℕ) (m : Message) → strange epoch D ≡ true → D ≡ read epoch number m → ⊥
unfolding strange
strange_not epoch D number m s q =
    let t : not (eqb epoch epoch) ≡ true = rw q at s in
    absurd (let u : false ≡ true = rw (eq-eqb epoch epoch refl) at t in let z : ◌≡◌ {A = ℕ} 0 1 = cc in omega arith)

event_is : {x y z u : Site} {p : ℕ} → z ≡ u → Event x y p u → Event x y p z
event_is q h = rw q h

pub arrive_event : {epoch : ℕ} {x y : Site} (p : ℕ) (a : Arrival) → epoch < 2 ^ 64 → Pair epoch x y → Event x y p (arrive x y a)
unfolding arrive
arrive_event {x = x} {y} p (handed i) e v = go (handed_is x y.end.epoch y.sent i)
  where
    go : {z : Site} → Handed x y.end.epoch y.sent z → Event x y p z
    go (nothing q) = event_is q (quiet refl)
    go (something j q) = event_is q (entry_event p e v j)
arrive_event {x = x} {y} p (stray d) e v =
    if_case (λ (z : Site). Event x y p z) (strange y.end.epoch (decode d))
    (λ t.
    hear_event p d
    (λ number m q. absurd (strange_not y.end.epoch (decode d) number m t (let s : x.end.epoch ≡ y.end.epoch = v.here.epoch_is ∙ sym v.there.epoch_is in rw s at q))))
    (λ t. quiet refl)

-- accepted numbers stay accepted
has_up : {epoch : ℕ} {x y : Site} (p : ℕ) (a : Arrival) → epoch < 2 ^ 64 → Pair epoch x y → has p x.accepted ≤ has p (arrive x y a).accepted
has_up {x = x} {y} p a e v = go (arrive_event p a e v)
  where
    go : {z : Site} → Event x y p z → has p x.accepted ≤ has p z.accepted
    go (quiet q) = omega arith
    go (event i q h k) = omega (arith, has_one p x.accepted)

-- and are numbers of what was sent
pub record Under (x : Site) (n : ℕ) : Type 0 where
  pub most : (p : ℕ) → has p x.accepted ≡ 1 → p ≤ n

arrive_under : {epoch : ℕ} {x y : Site} (a : Arrival) → epoch < 2 ^ 64 → Pair epoch x y → Under x y.end.number → Under (arrive x y a) y.end.number
arrive_under {x = x} {y} a e v u = record { most = λ p. go p (arrive_event p a e v) }
  where
    go : (p : ℕ) {z : Site} → Event x y p z → has p z.accepted ≡ 1 → p ≤ y.end.number
    go p (quiet q) h = u.most p (sym q ∙ h)
    go p (event {d} i q _ k) h = omega (arith, (every_in v.there.numbered i).most)

pub heard_under : {epoch : ℕ} {x y : Site} (xs : List Arrival) → epoch < 2 ^ 64 → Pair epoch x y → Under x y.end.number → Under (heard x y xs) y.end.number
unfolding heard
heard_under [] e v u = u
heard_under (a ∷ xs) e v u = arrive_under a e (heard_pair xs e v) (heard_under xs e v u)

call_accepted : (x : Site) (c : Call) → (call x c).accepted ≡ x.accepted
unfolding call
call_accepted x (gives bs) = refl
call_accepted x finishes = refl
call_accepted x (takes n) = refl

called_accepted : (x : Site) (cs : List Call) → (called x cs).accepted ≡ x.accepted
unfolding called
called_accepted x [] = refl
called_accepted x (c ∷ cs) = call_accepted (called x cs) c ∙ called_accepted x cs

-- what an end hears in tick n
unfoldable pub hears_in : Plan → Side → ℕ → Site
hears_in σ d n = heard (site_at σ d n) (site_at σ (other d) n) (arrivals_of d (σ.round n))

pub accepted_next : (σ : Plan) (d : Side) (n : ℕ) → (site_at σ d (suc n)).accepted ≡ (hears_in σ d n).accepted
unfolding hears_in ready_at ready
accepted_next σ d n = (ticks_at σ d n).accepted ∙ called_accepted (heard (site_at σ d n) (site_at σ (other d) n) (arrivals_of d (σ.round n))) (calls_of d (σ.round n))

under_same : {x z : Site} {n m : ℕ} → z.accepted ≡ x.accepted → n ≤ m → Under x n → Under z m
under_same q h u = record { most = λ p k. let l = u.most p (rw q at k) in omega arith }

hears_under : (σ : Plan) (d : Side) (n : ℕ) → σ.epoch < 2 ^ 64 → Under (site_at σ d n) (end_at σ (other d) n).number → Under (hears_in σ d n) (end_at σ (other d) n).number
unfolding hears_in
hears_under σ d n e u = heard_under (arrivals_of d (σ.round n)) e (pair_at σ d n e) u

pub under_at : (σ : Plan) (d : Side) (n : ℕ) → σ.epoch < 2 ^ 64 → Under (site_at σ d n) (end_at σ (other d) n).number
unfolding opened has
under_at σ d zero e = rw (site_start σ d) (record { most = λ p h. omega arith })
under_at σ d (suc n) e = under_same (accepted_next σ d n) (number_up σ (other d) n (suc n) (omega arith)) (hears_under σ d n e (under_at σ d n e))

-- what was sent in tick k is not accepted when that is over
pub not_yet : (σ : Plan) (d : Side) (k : ℕ) {e : Entry} → σ.epoch < 2 ^ 64 → In e (sent_in σ d k) → has e.number (site_at σ (other d) (suc k)).accepted ≡ 0
not_yet σ d k {e} h i = go (ℕ_discrete (has e.number (site_at σ (other d) (suc k)).accepted) 0)
  where
    go : Dec (has e.number (site_at σ (other d) (suc k)).accepted ≡ 0) → has e.number (site_at σ (other d) (suc k)).accepted ≡ 0
    go (yes q) = q
    go (no q) =
        let o : has e.number (site_at σ (other d) (suc k)).accepted ≡ 1 = omega (arith, has_one e.number (site_at σ (other d) (suc k)).accepted) in
        let l : has e.number (hears_in σ (other d) k).accepted ≡ 1 = rw (accepted_next σ (other d) k) at o in
        let m = (hears_under σ (other d) k h (under_at σ (other d) k h)).most e.number l in
        absurd (omega (arith, sent_above σ d k i, ap (λ (s : Side). (end_at σ s k).number) (twice d)))

-- THE WINDOW'S EDGE: h is at most the last number that was sent
pub high_under : {epoch n : ℕ} {x y : Site} → Pair epoch x y → Under x n → x.end.window.high ≤ n
high_under {n = n} {x} v u = elim (ℕ_discrete x.end.window.high 0) [
  | yes z ↦ omega arith
  | no z ↦ u.most x.end.window.high (has_in x.end.window.high x.accepted (high_reached v.here.window z))
]

-- A NEW NUMBER IS ACCEPTED
placed : {epoch : ℕ} {x y : Site} {m : Message} → Pair epoch x y → Honest y m → Placed x.end m
placed {x = x} {y} v h = go h.forth h.back
  where
    go : {m : Message} → Forth y.given y.finished y.end.sending.limit y.end.sending.next m → Back (position (sink y)) (grant (sink y)) m → Placed x.end m
    go f a_data = placed_data (data_placed v.back f)
    go f a_probe = placed_probe
    go f (back h k s) = placed_ack (ack_placed v.out (back h k s))

noted_has : (t : ℕ) {r p epoch : ℕ} {D : Decoded} {m : Message} (ds : List Entry) → r ≡ 0 → D ≡ read epoch p m → has p (noted r t D ++ ds) ≡ 1
unfolding noted has
noted_has t {p = p} ds z q = rw (z, q, eq-eqb p p refl)

heard_new : (x : Site) (d : List ℕ) {p epoch : ℕ} {m : Message} → hear_answer x.end d ≡ 0 → decode d ≡ read epoch p m → has p (hear x d).accepted ≡ 1
unfolding hear
heard_new x d z q = noted_has x.end.clock x.accepted z q

entry_taken : {epoch : ℕ} {x y : Site} {d : Entry} → epoch < 2 ^ 64 → Pair epoch x y → In d y.sent → x.end.window.high < d.number + width → has d.number x.accepted ≡ 0
    → has d.number (hear x (bytes_of y.end.epoch d)).accepted ≡ 1
entry_taken {x = x} {y} {d} e v i h z =
    let new = still_new v.here.window (λ k. let l = has_in d.number x.accepted k in omega arith) (every_in v.there.numbered i).some h in
    let r = reads e v i in
    heard_new x (bytes_of y.end.epoch d) (answer_number x.end (bytes_of y.end.epoch d) r (placed v (honest v i)) ∙ new) r

hand_over_is : (x : Site) (o : ℕ) {d : Entry} {ds : List Entry} {i : ℕ} → Stands d ds i → hand_over x o ds i ≡ hear x (bytes_of o d)
unfolding hand_over
hand_over_is x o first = refl
hand_over_is x o (later s) = hand_over_is x o s

arrive_taken : {epoch : ℕ} {x y : Site} {d : Entry} {i : ℕ} → epoch < 2 ^ 64 → Pair epoch x y → Stands d y.sent i → x.end.window.high < d.number + width
    → has d.number (arrive x y (handed i)).accepted ≡ 1
unfolding arrive
arrive_taken {x = x} {y} {d} {i} e v s h = go (ℕ_discrete (has d.number x.accepted) 0)
  where
    go : Dec (has d.number x.accepted ≡ 0) → has d.number (hand_over x y.end.epoch y.sent i).accepted ≡ 1
    go (yes z) = rw (hand_over_is x y.end.epoch s) (entry_taken e v (stands_in s) h z)
    go (no z) =
        let l = has_one d.number x.accepted in
        let k = arrive_up i in
        omega (arith, has_one d.number (hand_over x y.end.epoch y.sent i).accepted)
      where
        arrive_up : (i : ℕ) → has d.number x.accepted ≤ has d.number (hand_over x y.end.epoch y.sent i).accepted
        arrive_up i = has_up d.number (handed i) e v

pub heard_taken : {epoch : ℕ} {x y : Site} {d : Entry} {i : ℕ} {xs : List Arrival} → epoch < 2 ^ 64 → Pair epoch x y → In (handed i) xs → Stands d y.sent i → Under x y.end.number
    → y.end.number < d.number + width
    → has d.number (heard x y xs).accepted ≡ 1
unfolding heard
heard_taken {x = x} {y} e v (here {xs}) s u h =
    let w = heard_pair xs e v in
    arrive_taken e w s (omega (arith, high_under w (heard_under xs e v u)))
heard_taken {x = x} {y} {d} e v (there {y = a} {xs} j) s u h =
    let w = heard_pair xs e v in
    omega (arith, heard_taken e v j s u h, has_up d.number a e w, has_one d.number (arrive (heard x y xs) y a).accepted)

-- THE MOMENT AT WHICH A NUMBER IS ACCEPTED, among what x hears from y
record Moment (epoch : ℕ) (x y : Site) (p : ℕ) (z : Site) : Type 0 where
  entry : Entry
  sent : In entry y.sent
  number_is : entry.number ≡ p
  before : Site
  then : Site
  pair : Pair epoch before y
  from : Works x.end before.end
  accepts : Accepts before.end p entry.message then.end
  upto : Works then.end z.end

scan : {epoch : ℕ} {x y : Site} (p : ℕ) (xs : List Arrival) → epoch < 2 ^ 64 → Pair epoch x y → has p x.accepted ≡ 0 → has p (heard x y xs).accepted ≡ 1 → Moment epoch x y p (heard x y xs)
unfolding heard
scan p [] e v z o = absurd (omega arith)
scan {epoch} {x} {y} p (a ∷ xs) e v z o = go (ℕ_discrete (has p (heard x y xs).accepted) 0) (λ q. scan p xs e v z q)
  where
    now : {u : Site} → Event (heard x y xs) y p u → has p (heard x y xs).accepted ≡ 0 → has p u.accepted ≡ 1 → Moment epoch x y p u
    now (quiet q) n m = absurd (omega arith)
    now {u} (event {d} i q h k) n m = record {
      entry = d;
      sent = i;
      number_is = q;
      before = heard x y xs;
      then = u;
      pair = heard_pair xs e v;
      from = works_heard x y xs;
      accepts = k;
      upto = works_same u.end;
    }

    go : Dec (has p (heard x y xs).accepted ≡ 0) → (has p (heard x y xs).accepted ≡ 1 → Moment epoch x y p (heard x y xs)) → Moment epoch x y p (arrive (heard x y xs) y a)
    go (yes n) ih = now (arrive_event p a e (heard_pair xs e v)) n o
    go (no n) ih =
        let m = ih (omega (arith, has_one p (heard x y xs).accepted)) in
        record {
          entry = m.entry;
          sent = m.sent;
          number_is = m.number_is;
          before = m.before;
          then = m.then;
          pair = m.pair;
          from = m.from;
          accepts = m.accepts;
          upto = works_then m.upto (works_arrive (heard x y xs) y a);
        }

-- the tick in which it is
record Rises (f : ℕ → ℕ) (a m : ℕ) : Type 0 where
  at : ℕ
  from : a ≤ at
  below : at < a + m
  low : f at ≡ 0
  high : f (suc at) ≡ 1

rises : (f : ℕ → ℕ) → ((n : ℕ) → f n ≤ 1) → (a m : ℕ) → f a ≡ 0 → f (a + m) ≡ 1 → Rises f a m
rises f b a zero z o = let e : a + 0 ≡ a = omega arith in let q : f a ≡ 1 = rw e at o in absurd (omega arith)
rises f b a (suc m) z o = go (ℕ_discrete (f (a + m)) 0) (λ q. rises f b a m z q)
  where
    go : Dec (f (a + m) ≡ 0) → (f (a + m) ≡ 1 → Rises f a m) → Rises f a (suc m)
    go (yes q) ih = let e : a + suc m ≡ suc (a + m) = omega arith in record { at = a + m; from = omega arith; below = omega arith; low = q; high = rw e at o }
    go (no q) ih =
        let r = ih (omega (arith, b (a + m))) in
        record { at = r.at; from = r.from; below = omega (arith, r.below); low = r.low; high = r.high }

-- WHAT ARRIVES IN TIME IS ACCEPTED: e, which end d sent in tick k, is accepted at the other end in a tick after k and up to j
pub record Took (σ : Plan) (d : Side) (e : Entry) (k j : ℕ) : Type 0 where
  pub tick : ℕ
  pub after : k < tick
  pub by : tick ≤ j
  pub before : Site
  pub then : Site
  pub pair : Pair σ.epoch before (site_at σ d tick)
  pub from : Works (end_at σ (other d) tick) before.end
  pub accepts : Accepts before.end e.number e.message then.end
  pub upto : Works then.end (ready_at σ (other d) tick).end

hears_works : (σ : Plan) (d : Side) (n : ℕ) → Works (hears_in σ d n).end (ready_at σ d n).end
unfolding hears_in ready_at ready
hears_works σ d n = works_called (heard (site_at σ d n) (site_at σ (other d) n) (arrivals_of d (σ.round n))) (calls_of d (σ.round n))

moment_in : (σ : Plan) (r : Side) (n p : ℕ) → σ.epoch < 2 ^ 64 → has p (site_at σ r n).accepted ≡ 0 → has p (site_at σ r (suc n)).accepted ≡ 1
    → Moment σ.epoch (site_at σ r n) (site_at σ (other r) n) p (hears_in σ r n)
unfolding hears_in
moment_in σ r n p h z o = scan p (arrivals_of r (σ.round n)) h (pair_at σ r n h) z (rw (accepted_next σ r n) at o)

handed_has : (σ : Plan) (r : Side) (j : ℕ) {e : Entry} {i : ℕ} → σ.epoch < 2 ^ 64 → Stands e (site_at σ (other r) j).sent i → In (handed i) (arrivals_of r (σ.round j))
    → (end_at σ (other r) j).number < e.number + width
    → has e.number (hears_in σ r j).accepted ≡ 1
unfolding hears_in
handed_has σ r j h s i l = heard_taken h (pair_at σ r j h) i s (under_at σ r j h) l

took_at : (σ : Plan) (d : Side) (k j i : ℕ) (e : Entry) → In e (sent_in σ d k) → k < i → i ≤ j → Moment σ.epoch (site_at σ (other d) i) (site_at σ d i) e.number (hears_in σ (other d) i)
    → Took σ d e k j
took_at σ d k j i e s a b m =
    let same : m.entry ≡ e = row_same (row_at σ d i) m.sent (sent_stays σ d k i s a) m.number_is in
    record {
      tick = i;
      after = a;
      by = b;
      before = m.before;
      then = m.then;
      pair = m.pair;
      from = m.from;
      accepts = accepts_as refl (sym (ap (λ (x : Entry). x.message) same)) m.accepts;
      upto = works_then m.upto (hears_works σ (other d) i);
    }

pub in_time : (σ : Plan) (d : Side) (k j place : ℕ) (e : Entry) → σ.epoch < 2 ^ 64 → In e (sent_in σ d k) → k < j → j ≤ k + 32 → Stands e (site_at σ d j).sent place
    → In (handed place) (arrivals_of (other d) (σ.round j))
    → Took σ d e k j
in_time σ d k j place e h s a b stands comes =
    let p : ℕ = e.number in
    let f : ℕ → ℕ = λ n. has p (site_at σ (other d) n).accepted in
    let few : (end_at σ d j).number ≤ (end_at σ d k).number + 32 * (j - k) = (let q : k + (j - k) ≡ j = omega arith in rw q at (number_few σ d k (j - k))) in
    let near : (end_at σ d j).number < p + width = omega (arith, sent_above σ d k s) in
    let q : suc k + (j - k) ≡ suc j = omega arith in
    let got : has p (hears_in σ (other d) j).accepted ≡ 1 = handed_has σ (other d) j {e = e} {i = place} h (rw (twice d) stands) comes (rw (twice d) near) in
    let o : f (suc k + (j - k)) ≡ 1 = rw (q, accepted_next σ (other d) j) got in
    let r = rises f (λ n. has_one p (site_at σ (other d) n).accepted) (suc k) (j - k) (not_yet σ d k h s) o in
    took_at σ d k j r.at e s (omega (arith, r.from)) (omega (arith, r.below)) (rw (twice d) at (moment_in σ (other d) r.at p h r.low r.high))
