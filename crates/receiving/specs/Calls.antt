-- What the calls of the receiving side ensure: for any contents of the buffers their lengths and the ranges of the scalars, and of buffers that may be read, what is read out of them after.
use Rattle.std.specs.Prelude.{ℕ, ◌+◌, ◌-◌, ◌≤◌, ◌<◌, ◌≡◌, List, length}
use Rattle.laws.specs.Over.{Over}
use Rattle.wire.specs.Datagram.{ceiling}
use Rattle.ring.specs.Ring.{capacity}
use Rattle.receiving.specs.Receiving.{end_of, end_at, fresh, fill_of, hear_of, take_of, got_of, refusal_by, Ranged, Sound, receiving_of}
use Rattle.receiving.specs.declared.Scalars.{Scalars}

-- buffers and scalars that a call may be asked with
pub record Lent (s : Scalars) (ring marks : List ℕ) : Type 0 where
  pub ring_size : length ring ≡ capacity
  pub marks_size : length marks ≡ capacity
  pub ranged : Ranged s

-- n bytes from position p on may be kept
pub record Room (s : Scalars) (p n : ℕ) : Type 0 where
  pub limit : n ≤ s.taken + capacity - p
  pub small : n ≤ ceiling - p
  pub few : n ≤ capacity

-- and there are some, the last of which lies at the lowest missing position or beyond
pub record New (s : Scalars) (p n : ℕ) : Type 0 where
  pub some : 0 < n
  pub new : s.low < p + n
  pub limit : p + n ≤ s.taken + capacity
  pub small : p + n ≤ ceiling
  pub few : n ≤ capacity

-- start: whatever the ring holds, a fresh end
pub record Starts (m m' : List ℕ) (s' : Scalars) : Type 0 where
  pub marks_same : length m' ≡ length m
  pub ranged : Ranged s'
  pub done : (r : List ℕ) → length r ≡ capacity → Sound s' r m'
  pub read : (r : List ℕ) → receiving_of s' r m' ≡ fresh

-- the bytes of a DATA
pub record Fills (r m : List ℕ) (s : Scalars) (p : ℕ) (bs : List ℕ) (r' m' : List ℕ) (s' : Scalars) : Type 0 where
  pub ring_same : length r' ≡ length r
  pub marks_same : length m' ≡ length m
  pub ranged : Ranged s'
  pub done : Sound s r m → Sound s' r' m'
  pub read : Sound s r m → receiving_of s' r' m' ≡ fill_of (receiving_of s r m) p bs

-- hear: a DATA
pub record Hears (r m : List ℕ) (s : Scalars) (p : ℕ) (bs : List ℕ) (e : ℕ) (r' m' : List ℕ) (s' : Scalars) : Type 0 where
  pub ring_same : length r' ≡ length r
  pub marks_same : length m' ≡ length m
  pub ranged : Ranged s'
  pub done : Sound s r m → Sound s' r' m'
  pub read : Sound s r m → receiving_of s' r' m' ≡ hear_of (receiving_of s r m) p bs e

-- take, whatever the marks: what it hands up is written over the first bytes of d
pub record Takes (r : List ℕ) (s : Scalars) (d d' : List ℕ) (s' : Scalars) : Type 0 where
  pub same : length d' ≡ length d
  pub ranged : Ranged s'
  pub rises : s.taken ≤ s'.taken
  pub count : s'.taken - s.taken ≤ length d
  pub few : s'.taken ≤ s.taken + capacity
  pub done : (m : List ℕ) → Sound s r m → Sound s' r m
  pub read : (m : List ℕ) → Sound s r m → receiving_of s' r m ≡ take_of (receiving_of s r m) (length d)
  pub counted : (m : List ℕ) → Sound s r m → s'.taken - s.taken ≡ length (got_of (receiving_of s r m) (length d))
  pub got : (m : List ℕ) → Sound s r m → Over (got_of (receiving_of s r m) (length d)) d d'

-- what the definitions make of the scalars alone
unfoldable pub refusal : Scalars → ℕ → ℕ → ℕ → ℕ
refusal s p n e = refusal_by s.taken (end_of s.known s.end) s.high p n e

unfoldable pub ended_by : Scalars → ℕ
ended_by s = end_at (end_of s.known s.end) s.taken

unfoldable pub position_by : Scalars → ℕ
position_by s = s.low + end_at (end_of s.known s.end) s.low

unfoldable pub credit_by : Scalars → ℕ
credit_by s = s.taken + capacity - position_by s
