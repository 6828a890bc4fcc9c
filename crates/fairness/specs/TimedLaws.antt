-- A tick at one end: what is handed over, what the host calls, and then tick; what the other end does in it does not matter. Assumes nothing.
use Rattle.std.specs.Prelude.{◌≡◌, refl, List, [], ◌∷◌, ◌++◌, ℕ, zero, suc}
use Rattle.std.proofs.Common.{ap, ◌∙◌}
use Rattle.laws.specs.Choice.{if_case}
use Rattle.wire.specs.Datagram.{Message, DATA, ACK, PROBE}
use Rattle.wire.specs.Reading.{Decoded, refused, read, decode}
use Rattle.end.specs.End.{End, give_of, finish_of, take_of, refusal_of, accepted_of, accept_if, after_hearing, hear_of}
use Rattle.network.specs.World.{Entry, Site, World, Arrival, handed, stray, Call, gives, finishes, takes, hear, bytes_of, hand_over, strange, arrive, call, tick, act, Choice, step, run}
use Rattle.network.specs.Rounds.{Round, near_arrivals_of, far_arrivals_of, near_calls_of, far_calls_of, choices_of, all_choices, play}
use Rattle.fairness.specs.Timed.{Plan, rounds_of, at, Side, the_near, the_far, other, arrivals_of, calls_of, site_at}

pub twice : (d : Side) → other (other d) ≡ d
twice the_near = refl
twice the_far = refl

-- choices from a world on, the newest first
unfoldable pub steps : World → List Choice → World
steps w [] = w
steps w (c ∷ cs) = step (steps w cs) c

pub run_append : (epoch r s : ℕ) (cs ds : List Choice) → run epoch r s (cs ++ ds) ≡ steps (run epoch r s ds) cs
unfolding run steps
run_append epoch r s [] ds = refl
run_append epoch r s (c ∷ cs) ds = ap (λ (w : World). step w c) (run_append epoch r s cs ds)

steps_append : (w : World) (cs ds : List Choice) → steps w (cs ++ ds) ≡ steps (steps w ds) cs
unfolding steps
steps_append w [] ds = refl
steps_append w (c ∷ cs) ds = ap (λ (w : World). step w c) (steps_append w cs ds)

-- what one end hears, and what its host calls
unfoldable pub heard : Site → Site → List Arrival → Site
heard x y [] = x
heard x y (a ∷ rest) = arrive (heard x y rest) y a

unfoldable pub called : Site → List Call → Site
called x [] = x
called x (c ∷ cs) = call (called x cs) c

-- what neither a datagram nor a call of the host changes
pub record Stays (x z : Site) : Type 0 where
  pub epoch : z.end.epoch ≡ x.end.epoch
  pub interval : z.end.interval ≡ x.end.interval
  pub clock : z.end.clock ≡ x.end.clock
  pub number : z.end.number ≡ x.end.number
  pub sent : z.sent ≡ x.sent

pub stays_same : (x : Site) → Stays x x
stays_same x = record { epoch = refl; interval = refl; clock = refl; number = refl; sent = refl }

pub stays_then : {x y z : Site} → Stays x y → Stays y z → Stays x z
stays_then a b = record {
  epoch = b.epoch ∙ a.epoch;
  interval = b.interval ∙ a.interval;
  clock = b.clock ∙ a.clock;
  number = b.number ∙ a.number;
  sent = b.sent ∙ a.sent;
}

record EndStays (e f : End) : Type 0 where
  epoch : f.epoch ≡ e.epoch
  interval : f.interval ≡ e.interval
  clock : f.clock ≡ e.clock
  number : f.number ≡ e.number

accepted_stays : (e : End) (number : ℕ) (m : Message) → EndStays e (accepted_of e number m)
unfolding accepted_of
accepted_stays e number (DATA p bs f) = record { epoch = refl; interval = refl; clock = refl; number = refl }
accepted_stays e number (ACK p c) = record { epoch = refl; interval = refl; clock = refl; number = refl }
accepted_stays e number (PROBE p) = record { epoch = refl; interval = refl; clock = refl; number = refl }

accept_if_stays : (r : ℕ) (e : End) (number : ℕ) (m : Message) → EndStays e (accept_if r e number m)
unfolding accept_if
accept_if_stays zero e number m = accepted_stays e number m
accept_if_stays (suc r) e number m = record { epoch = refl; interval = refl; clock = refl; number = refl }

hearing_stays : (e : End) (d : Decoded) → EndStays e (after_hearing e d)
unfolding after_hearing
hearing_stays e (refused r) = record { epoch = refl; interval = refl; clock = refl; number = refl }
hearing_stays e (read epoch number m) = accept_if_stays (refusal_of e epoch number m) e number m

pub stays_hear : (x : Site) (d : List ℕ) → Stays x (hear x d)
unfolding hear hear_of
stays_hear x d =
    let h = hearing_stays x.end (decode d) in
    record { epoch = h.epoch; interval = h.interval; clock = h.clock; number = h.number; sent = refl }

hand_over_stays : (x : Site) (epoch : ℕ) (ds : List Entry) (i : ℕ) → Stays x (hand_over x epoch ds i)
unfolding hand_over
hand_over_stays x epoch [] i = stays_same x
hand_over_stays x epoch (d ∷ ds) zero = stays_hear x (bytes_of epoch d)
hand_over_stays x epoch (d ∷ ds) (suc i) = hand_over_stays x epoch ds i

pub stays_arrive : (x y : Site) (a : Arrival) → Stays x (arrive x y a)
unfolding arrive
stays_arrive x y (handed i) = hand_over_stays x y.end.epoch y.sent i
stays_arrive x y (stray d) = if_case (λ (z : Site). Stays x z) (strange y.end.epoch (decode d)) (λ e. stays_hear x d) (λ e. stays_same x)

pub stays_heard : (x y : Site) (xs : List Arrival) → Stays x (heard x y xs)
unfolding heard
stays_heard x y [] = stays_same x
stays_heard x y (a ∷ xs) = stays_then (stays_heard x y xs) (stays_arrive (heard x y xs) y a)

pub stays_call : (x : Site) (c : Call) → Stays x (call x c)
unfolding call give_of finish_of take_of
stays_call x (gives bs) = record { epoch = refl; interval = refl; clock = refl; number = refl; sent = refl }
stays_call x finishes = record { epoch = refl; interval = refl; clock = refl; number = refl; sent = refl }
stays_call x (takes n) = record { epoch = refl; interval = refl; clock = refl; number = refl; sent = refl }

pub stays_called : (x : Site) (cs : List Call) → Stays x (called x cs)
unfolding called
stays_called x [] = stays_same x
stays_called x (c ∷ cs) = stays_then (stays_called x cs) (stays_call (called x cs) c)

-- the network looks at no more of an end than its epoch and what it has sent
arrive_same : (x y z : Site) (a : Arrival) → Stays y z → arrive x z a ≡ arrive x y a
unfolding arrive
arrive_same x y z (handed i) s = rw (s.epoch, s.sent)
arrive_same x y z (stray d) s = rw s.epoch

heard_same : (x y z : Site) (xs : List Arrival) → Stays y z → heard x z xs ≡ heard x y xs
unfolding heard
heard_same x y z [] s = refl
heard_same x y z (a ∷ xs) s = arrive_same (heard x z xs) y z a s ∙ ap (λ (v : Site). arrive v y a) (heard_same x y z xs s)

-- A TICK, part by part
steps_near_hear : (w : World) (xs : List Arrival) → steps w (near_arrivals_of xs) ≡ record { near = heard w.near w.far xs; far = w.far }
unfolding steps near_arrivals_of heard step act
steps_near_hear w [] = refl
steps_near_hear w (a ∷ xs) = rw (steps_near_hear w xs)

steps_far_hear : (w : World) (xs : List Arrival) → steps w (far_arrivals_of xs) ≡ record { near = w.near; far = heard w.far w.near xs }
unfolding steps far_arrivals_of heard step act
steps_far_hear w [] = refl
steps_far_hear w (a ∷ xs) = rw (steps_far_hear w xs)

steps_near_call : (w : World) (cs : List Call) → steps w (near_calls_of cs) ≡ record { near = called w.near cs; far = w.far }
unfolding steps near_calls_of called step act
steps_near_call w [] = refl
steps_near_call w (c ∷ cs) = rw (steps_near_call w cs)

steps_far_call : (w : World) (cs : List Call) → steps w (far_calls_of cs) ≡ record { near = w.near; far = called w.far cs }
unfolding steps far_calls_of called step act
steps_far_call w [] = refl
steps_far_call w (c ∷ cs) = rw (steps_far_call w cs)

-- an end as its tick comes
unfoldable pub ready : Site → Site → List Arrival → List Call → Site
ready x y xs cs = called (heard x y xs) cs

unfoldable pub readied : World → Round → World
readied w r = record { near = ready w.near w.far r.near_arrivals r.near_calls; far = ready w.far w.near r.far_arrivals r.far_calls }

steps_ready : (w : World) (r : Round) → steps w (far_calls_of r.far_calls ++ (near_calls_of r.near_calls ++ (far_arrivals_of r.far_arrivals ++ near_arrivals_of r.near_arrivals))) ≡ readied w r
unfolding readied ready
steps_ready w r =
    let as₁ = r.near_arrivals in
    let as₂ = r.far_arrivals in
    let x : Site = heard w.near w.far as₁ in
    let y : Site = heard w.far w.near as₂ in
    let same : heard w.far x as₂ ≡ y = heard_same w.far w.near x as₂ (stays_heard w.near w.far as₁) in
    let w₁ : World = record { near = x; far = w.far } in
    let w₂ : World = record { near = x; far = y } in
    let w₃ : World = record { near = called x r.near_calls; far = y } in
    let e₁ : steps w (near_arrivals_of as₁) ≡ w₁ = steps_near_hear w as₁ in
    let e₂ : steps w₁ (far_arrivals_of as₂) ≡ w₂ = steps_far_hear w₁ as₂ ∙ ap (λ (v : Site). record { near = x; far = v }) same in
    let e₃ : steps w₂ (near_calls_of r.near_calls) ≡ w₃ = steps_near_call w₂ r.near_calls in
    let e₄ = steps_far_call w₃ r.far_calls in
    let f₂ = steps_append w (far_arrivals_of as₂) (near_arrivals_of as₁) ∙ ap (λ (v : World). steps v (far_arrivals_of as₂)) e₁ ∙ e₂ in
    let f₃ = steps_append w (near_calls_of r.near_calls) (far_arrivals_of as₂ ++ near_arrivals_of as₁) ∙ ap (λ (v : World). steps v (near_calls_of r.near_calls)) f₂ ∙ e₃ in
    steps_append w (far_calls_of r.far_calls) (near_calls_of r.near_calls ++ (far_arrivals_of as₂ ++ near_arrivals_of as₁)) ∙ ap (λ (v : World). steps v (far_calls_of r.far_calls)) f₃ ∙ e₄

steps_round : (w : World) (r : Round) → steps w (choices_of r) ≡ record { near = tick (readied w r).near; far = tick (readied w r).far }
unfolding choices_of steps step act
steps_round w r = ap (λ (v : World). record { near = tick v.near; far = tick v.far }) (steps_ready w r)

-- THE TICK OF ONE END
pub at_next : (σ : Plan) (n : ℕ) → at σ (suc n) ≡ record { near = tick (readied (at σ n) (σ.round n)).near; far = tick (readied (at σ n) (σ.round n)).far }
unfolding at rounds_of play all_choices
at_next σ n =
    run_append σ.epoch σ.near σ.far (choices_of (σ.round n)) (all_choices (rounds_of σ n)) ∙ steps_round _ (σ.round n)

-- an end as its tick n comes, before it ticks
unfoldable pub ready_at : Plan → Side → ℕ → Site
ready_at σ d n = ready (site_at σ d n) (site_at σ (other d) n) (arrivals_of d (σ.round n)) (calls_of d (σ.round n))

pub site_next : (σ : Plan) (d : Side) (n : ℕ) → site_at σ d (suc n) ≡ tick (ready_at σ d n)
unfolding site_at ready_at readied
site_next σ the_near n = ap (λ (w : World). w.near) (at_next σ n)
site_next σ the_far n = ap (λ (w : World). w.far) (at_next σ n)
