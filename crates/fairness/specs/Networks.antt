-- 03 §2: what it is for a datagram to arrive, and for a network to be fair; and the hosts that take all there is.
use Rattle.std.specs.Prelude.{◌≡◌, Bool, true, false, ◌&&◌, List, [], ◌∷◌, ℕ, suc, ◌+◌, ◌-◌, ◌^◌, ◌≤◌, ◌<◌, eqb, length, take}
use Rattle.laws.specs.Choice.{if}
use Rattle.wire.specs.Datagram.{ceiling, Message, DATA, ACK, PROBE}
use Rattle.receiving.specs.Receiving.{low_of}
use Rattle.sending.specs.CallLaws.{In}
use Rattle.network.specs.World.{Entry, handed}
use Rattle.counting.specs.Count.{Fair}
use Rattle.fairness.specs.Timed.{Plan, Side, other, arrivals_of, site_at, end_at}

-- a DATA of the segment from a to b, its END counted; an ACK; a PROBE
unfoldable pub is_segment : ℕ → ℕ → Message → Bool
is_segment a b (DATA p bs e) = eqb p a && eqb (p + length bs + e) b
is_segment a b (ACK p c) = false
is_segment a b (PROBE p) = false

unfoldable pub is_ack : Message → Bool
is_ack (DATA p bs e) = false
is_ack (ACK p c) = true
is_ack (PROBE p) = false

unfoldable pub is_probe : Message → Bool
is_probe (DATA p bs e) = false
is_probe (ACK p c) = false
is_probe (PROBE p) = true

-- what an end sends in tick n: what it has sent when that is over, and had not before; the newest first
unfoldable pub sent_in : Plan → Side → ℕ → List Entry
sent_in σ d n = take (length (site_at σ d (suc n)).sent - length (site_at σ d n).sent) (site_at σ d (suc n)).sent

-- 1 where a datagram of that kind is among them. A tick counts once, which asks no more of a network: L ticks with sendings have L sendings in a row
unfoldable pub any_of : (Message → Bool) → List Entry → ℕ
any_of f [] = 0
any_of f (e ∷ es) = if (f e.message) 1 (any_of f es)

unfoldable pub sends : Plan → Side → (Message → Bool) → ℕ → ℕ
sends σ d f n = any_of f (sent_in σ d n)

-- x is the i-th of a list, from 0 on
pub data Stands {A : Type 0} (x : A) : List A → ℕ → Type 0 where
  first : {xs : List A} → Stands x (x ∷ xs) 0
  later : {y : A} {xs : List A} {i : ℕ} → Stands x xs i → Stands x (y ∷ xs) (suc i)

-- such a datagram, sent in tick k, is handed to the other end in tick j
pub record Arrives (σ : Plan) (d : Side) (f : Message → Bool) (k j : ℕ) : Type 0 where
  pub entry : Entry
  pub sent : In entry (sent_in σ d k)
  pub is : f entry.message ≡ true
  pub place : ℕ
  pub stands : Stands entry (site_at σ d j).sent place
  pub comes : In (handed place) (arrivals_of (other d) (σ.round j))

-- an (L, D)-fair network, in the first T ticks
pub record FairNetwork (σ : Plan) (L D T : ℕ) : Type 0 where
  pub some : 1 ≤ L
  pub least : 1 ≤ D
  pub most : D ≤ 32
  -- of any L sendings of a segment in a row at least one arrives
  pub segments : (d : Side) (a b : ℕ) → Fair (sends σ d (is_segment a b)) (Arrives σ d (is_segment a b)) L D T
  -- the same of any L ACKs in a row, and of any L PROBEs
  pub acks : (d : Side) → Fair (sends σ d is_ack) (Arrives σ d is_ack) L D T
  pub probes : (d : Side) → Fair (sends σ d is_probe) (Arrives σ d is_probe) L D T

-- both ends are open, and in the first T ticks neither ticks nor numbers nor positions come to 2^62
pub record Going (σ : Plan) (T : ℕ) : Type 0 where
  pub epoch : σ.epoch < 2 ^ 64
  pub near : 1 ≤ σ.near
  pub far : 1 ≤ σ.far
  pub ticks : T < ceiling
  pub numbers : (d : Side) → (end_at σ d T).number + 1 < ceiling
  pub positions : (d : Side) → (end_at σ d T).sending.next < ceiling

-- hosts that take whatever is there in every tick: when it is over nothing is left that could be taken
pub record Takers (σ : Plan) (T : ℕ) : Type 0 where
  pub all : (d : Side) (n : ℕ) → n < T → low_of (end_at σ d (suc n)).receiving ≡ (end_at σ d (suc n)).receiving.taken

-- a host that gives all at the start: after the first tick nothing more is given, and finish is not called
pub record GivenAtStart (σ : Plan) (d : Side) (T : ℕ) : Type 0 where
  pub given : (n : ℕ) → 1 ≤ n → n ≤ T → (end_at σ d n).sending.given ≡ (end_at σ d 1).sending.given
  pub closed : (n : ℕ) → 1 ≤ n → n ≤ T → (end_at σ d n).sending.closed ≡ (end_at σ d 1).sending.closed
