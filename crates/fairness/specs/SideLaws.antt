-- What datagrams and calls do to the two sides of an end, in the order in which they come. Assumes nothing.
use Rattle.std.specs.Prelude.{◌≡◌, refl, List, [], ◌∷◌, ℕ, zero, suc, ◌+◌, ◌≤◌, length}
use Rattle.std.proofs.Common.{◌∙◌, arith}
use Rattle.laws.specs.Choice.{if_case}
use Rattle.laws.specs.RowsLaws.{row_right}
use Rattle.wire.specs.Datagram.{Message, DATA, ACK, PROBE}
use Rattle.wire.specs.Reading.{Decoded, refused, read, decode}
use Rattle.receiving.specs.Receiving.{Receiving, ack_position, ack_credit}
use Rattle.receiving.specs.Receiving as receiving
use Rattle.receiving.specs.AckLaws.{position_hear, position_take, limit_hear, limit_take, size_hear, size_take}
use Rattle.sending.specs.Sending.{Sending}
use Rattle.sending.specs.Giving as giving
use Rattle.sending.specs.Acking as acking
use Rattle.sending.specs.CallLaws.{ack_sent, ack_keeps, given_is, finished_is, acked_ack, limit_ack}
use Rattle.sending.specs.Buffers.{Orderly}
use Rattle.sending.specs.OrderLaws.{orderly_ack, orderly_give, orderly_finish}
use Rattle.sending.specs.Past.{Past}
use Rattle.sending.specs.PastLaws.{past_ack, past_give, past_finish}
use Rattle.end.specs.End.{End, give_of, finish_of, take_of, place_of, refusal_of, accepted_of, accept_if, after_hearing, hear_of}
use Rattle.network.specs.World.{Entry, Site, Arrival, handed, stray, Call, gives, finishes, takes, hear, bytes_of, hand_over, strange, arrive, call}
use Rattle.fairness.specs.TimedLaws.{heard, called, ready}

-- THE SENDING SIDE: ACKs that are not refused, give and finish, one after the other
pub data Moves (s : Sending) : Sending → Type 0 where
  stays : Moves s s
  acks : {t : Sending} → Moves s t → (p c : ℕ) → p ≤ t.next → Moves s (acking.ack_of t p c)
  given : {t : Sending} → Moves s t → (bs : List ℕ) → Moves s (giving.give_of t bs)
  closed : {t : Sending} → Moves s t → Moves s (giving.finish_of t)

-- THE RECEIVING SIDE: DATA that is not refused, and take
pub data Fills (v : Receiving) : Receiving → Type 0 where
  keeps : Fills v v
  hears : {u : Receiving} → Fills v u → (p : ℕ) (bs : List ℕ) (e : ℕ) → receiving.refusal_of u p (length bs) e ≡ 0 → Fills v (receiving.hear_of u p bs e)
  taken : {u : Receiving} → Fills v u → (n : ℕ) → Fills v (receiving.take_of u n)

-- both
pub record Works (e f : End) : Type 0 where
  pub sending : Moves e.sending f.sending
  pub receiving : Fills e.receiving f.receiving
  -- an ACK that is due stays due
  pub due : e.due ≡ 1 → f.due ≡ 1

pub works_same : (e : End) → Works e e
works_same e = record { sending = stays; receiving = keeps; due = λ h. h }

moves_then : {s t u : Sending} → Moves s t → Moves t u → Moves s u
moves_then a stays = a
moves_then a (acks b p c h) = acks (moves_then a b) p c h
moves_then a (given b bs) = given (moves_then a b) bs
moves_then a (closed b) = closed (moves_then a b)

fills_then : {s t u : Receiving} → Fills s t → Fills t u → Fills s u
fills_then a keeps = a
fills_then a (hears b p bs e h) = hears (fills_then a b) p bs e h
fills_then a (taken b n) = taken (fills_then a b) n

pub works_then : {e f g : End} → Works e f → Works f g → Works e g
works_then {e} {f} {g} a b = record { sending = moves_then a.sending b.sending; receiving = fills_then a.receiving b.receiving; due = λ h. b.due (a.due h) }

accepted_works : (e : End) (number : ℕ) (m : Message) → place_of e m ≡ 0 → Works e (accepted_of e number m)
unfolding place_of accepted_of
accepted_works e number (DATA p bs f) z = record { sending = stays; receiving = hears keeps p bs f z; due = λ h. refl }
accepted_works e number (ACK p c) z = record { sending = acks stays p c (ack_sent e.sending.next p z); receiving = keeps; due = λ h. h }
accepted_works e number (PROBE p) z = record { sending = stays; receiving = keeps; due = λ h. refl }

read_works : (e : End) (epoch number : ℕ) (m : Message) → Works e (accept_if (refusal_of e epoch number m) e number m)
unfolding refusal_of accept_if
read_works e epoch number m = go (refusal_of e epoch number m) refl
  where
    go : (r : ℕ) → refusal_of e epoch number m ≡ r → Works e (accept_if r e number m)
    go zero q = accepted_works e number m (row_right _ _ (row_right _ _ q))
    go (suc r) q = works_same e

hearing_works : (e : End) (d : Decoded) → Works e (after_hearing e d)
unfolding after_hearing
hearing_works e (refused r) = works_same e
hearing_works e (read epoch number m) = read_works e epoch number m

pub works_hear : (x : Site) (d : List ℕ) → Works x.end (hear x d).end
unfolding hear hear_of
works_hear x d = hearing_works x.end (decode d)

hand_over_works : (x : Site) (epoch : ℕ) (ds : List Entry) (i : ℕ) → Works x.end (hand_over x epoch ds i).end
unfolding hand_over
hand_over_works x epoch [] i = works_same x.end
hand_over_works x epoch (d ∷ ds) zero = works_hear x (bytes_of epoch d)
hand_over_works x epoch (d ∷ ds) (suc i) = hand_over_works x epoch ds i

pub works_arrive : (x y : Site) (a : Arrival) → Works x.end (arrive x y a).end
unfolding arrive
works_arrive x y (handed i) = hand_over_works x y.end.epoch y.sent i
works_arrive x y (stray d) = if_case (λ (z : Site). Works x.end z.end) (strange y.end.epoch (decode d)) (λ e. works_hear x d) (λ e. works_same x.end)

pub works_heard : (x y : Site) (xs : List Arrival) → Works x.end (heard x y xs).end
unfolding heard
works_heard x y [] = works_same x.end
works_heard x y (a ∷ xs) = works_then (works_heard x y xs) (works_arrive (heard x y xs) y a)

pub works_call : (x : Site) (c : Call) → Works x.end (call x c).end
unfolding call give_of finish_of take_of
works_call x (gives bs) = record { sending = given stays bs; receiving = keeps; due = λ h. h }
works_call x finishes = record { sending = closed stays; receiving = keeps; due = λ h. h }
works_call x (takes n) = record { sending = stays; receiving = taken keeps n; due = λ h. h }

pub works_called : (x : Site) (cs : List Call) → Works x.end (called x cs).end
unfolding called
works_called x [] = works_same x.end
works_called x (c ∷ cs) = works_then (works_called x cs) (works_call (called x cs) c)

pub works_ready : (x y : Site) (xs : List Arrival) (cs : List Call) → Works x.end (ready x y xs cs).end
unfolding ready
works_ready x y xs cs = works_then (works_heard x y xs) (works_called (heard x y xs) cs)

-- WHAT THE SENDING SIDE KEEPS
pub moves_orderly : {s t : Sending} → Moves s t → Orderly s → Orderly t
moves_orderly stays o = o
moves_orderly (acks {t} m p c h) o = orderly_ack t p c (moves_orderly m o)
moves_orderly (given {t} m bs) o = orderly_give t bs (moves_orderly m o)
moves_orderly (closed {t} m) o = orderly_finish t (moves_orderly m o)

pub moves_past : {n : ℕ} {s t : Sending} → Moves s t → Past n s → Past n t
moves_past stays o = o
moves_past (acks m p c h) o = past_ack p c (moves_past m o)
moves_past (given m bs) o = past_give bs (moves_past m o)
moves_past (closed m) o = past_finish (moves_past m o)

pub moves_acked : {s t : Sending} → Moves s t → Orderly s → s.acked ≤ t.acked
moves_acked stays o = omega arith
moves_acked (acks {t} m p c h) o = omega (arith, moves_acked m o, acked_ack t p c (moves_orderly m o))
moves_acked (given {t} m bs) o = omega (arith, moves_acked m o, (given_is t bs).acked)
moves_acked (closed {t} m) o = omega (arith, moves_acked m o, (finished_is t).acked)

pub moves_limit : {s t : Sending} → Moves s t → s.limit ≤ t.limit
moves_limit stays = omega arith
moves_limit (acks {t} m p c h) = omega (arith, moves_limit m, limit_ack t p c)
moves_limit (given {t} m bs) = omega (arith, moves_limit m, (given_is t bs).limit)
moves_limit (closed {t} m) = omega (arith, moves_limit m, (finished_is t).limit)

pub moves_next : {s t : Sending} → Moves s t → Orderly s → t.next ≡ s.next
moves_next stays o = refl
moves_next (acks {t} m p c h) o = omega (arith, moves_next m o, (ack_keeps t p c (moves_orderly m o)).next)
moves_next (given {t} m bs) o = omega (arith, moves_next m o, (given_is t bs).next)
moves_next (closed {t} m) o = omega (arith, moves_next m o, (finished_is t).next)

-- AND THE RECEIVING SIDE
pub fills_position : {v u : Receiving} → Fills v u → ack_position v ≤ ack_position u
fills_position keeps = omega arith
fills_position (hears {u} f p bs e z) = omega (arith, fills_position f, position_hear u p bs e z)
fills_position (taken {u} f n) = omega (arith, fills_position f, position_take u n)

pub fills_grant : {v u : Receiving} → Fills v u → ack_position v + ack_credit v ≤ ack_position u + ack_credit u
fills_grant keeps = omega arith
fills_grant (hears {u} f p bs e z) = omega (arith, fills_grant f, limit_hear u p bs e z)
fills_grant (taken {u} f n) = omega (arith, fills_grant f, limit_take u n)

pub fills_size : {v u : Receiving} → Fills v u → length u.cells ≡ length v.cells
fills_size keeps = refl
fills_size (hears {u} f p bs e z) = size_hear u p bs e ∙ fills_size f
fills_size (taken {u} f n) = size_take u n ∙ fills_size f
