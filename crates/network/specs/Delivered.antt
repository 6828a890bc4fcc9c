-- 03 §1: statement B, for the direction from x to y. Both directions of a run are meant, after every step.
use Rattle.std.specs.Prelude.{◌≡◌, ℕ, ◌+◌, ◌≤◌, ◌<◌, length, take}
use mathlib.Core.List.{List, [], ◌∷◌, ◌++◌, Memᴰ}
use Rattle.laws.specs.History.{Prefix}
use Rattle.wire.specs.Datagram.{Message, DATA, ACK, PROBE}
use Rattle.ring.specs.Ring.{capacity}
use Rattle.receiving.specs.Receiving.{ack_position}
use Rattle.end.specs.End.{got_of, reached_of, hear_answer}
use Rattle.network.specs.World.{Entry, Site, World, bytes_of}

-- no number is there twice
pub data Distinct : List ℕ → Type 0 where
  none : Distinct []
  more : {p : ℕ} {s : List ℕ} → (Memᴰ p s → ⊥) → Distinct s → Distinct (p ∷ s)

unfoldable pub numbers_of : List Entry → List ℕ
numbers_of [] = []
numbers_of (d ∷ ds) = d.number ∷ numbers_of ds

-- how many are ACKs, and how many ask for one
unfoldable pub is_ack : Message → ℕ
is_ack (DATA p bs e) = 0
is_ack (ACK p c) = 1
is_ack (PROBE p) = 0

unfoldable pub asks : Message → ℕ
asks (DATA p bs e) = 1
asks (ACK p c) = 0
asks (PROBE p) = 1

unfoldable pub acks_in : List Entry → ℕ
acks_in [] = 0
acks_in (d ∷ ds) = is_ack d.message + acks_in ds

unfoldable pub asks_in : List Entry → ℕ
asks_in [] = 0
asks_in (d ∷ ds) = asks d.message + asks_in ds

-- P holds of each of a list
pub data Every {A : Type 0} (P : A → Type 0) : List A → Type 0 where
  nil : Every P []
  cons : {d : A} {ds : List A} → P d → Every P ds → Every P (d ∷ ds)

-- an answer to an honest datagram of this epoch: accepted, or refused for its number alone
pub data Welcome : ℕ → Type 0 where
  accepted : Welcome 0
  too_old : Welcome 5
  taken_before : Welcome 6

pub record Delivered (x y : Site) : Type 0 where
  -- the bytes that y's host has taken are a beginning of those that x's host has given
  pub beginning : Prefix y.taken x.given
  -- if take has reported the END: finish was called, and all that was given was taken
  pub finished : y.reported ≡ 1 → x.finished ≡ 1
  pub whole : y.reported ≡ 1 → y.taken ≡ x.given
  -- acked is at most the lowest position missing at y, the END's counted
  pub acked : x.end.sending.acked ≤ ack_position y.end.receiving
  -- what x has dropped, y's host has taken or can take at once; the END too
  pub dropped : Prefix (take x.end.sending.acked x.given) (y.taken ++ got_of y.end capacity)
  pub dropped_end : length x.given < x.end.sending.acked → reached_of y.end capacity ≡ 1
  -- y accepts no number twice
  pub once : Distinct (numbers_of y.accepted)
  -- y has sent at most as many ACKs as it has accepted DATA and PROBE datagrams
  pub answered : acks_in y.sent ≤ asks_in y.accepted
  -- y refuses no datagram that x has sent with anything but 5 or 6, whenever it comes
  pub welcome : Every (λ d. Welcome (hear_answer y.end (bytes_of x.end.epoch d))) x.sent

pub record BothWays (w : World) : Type 0 where
  pub out : Delivered w.near w.far
  pub back : Delivered w.far w.near
