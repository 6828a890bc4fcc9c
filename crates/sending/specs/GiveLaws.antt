-- Laws of the room for give. Assumes nothing.
use Rattle.std.specs.Prelude.{◌≡◌, ℕ, ◌-◌, ◌≤◌, min, eqb}
use Rattle.std.proofs.Common.{arith, eq-eqb, ne_eqb}
use Rattle.laws.specs.Choice.{if_case}
use Rattle.ring.specs.Ring.{capacity}
use Rattle.wire.specs.Datagram.{ceiling}
use Rattle.segments.specs.declared.Line.{Line}
use Rattle.sending.specs.Giving.{room_of}

pub room_closed : (l : Line) (acked : ℕ) → l.closed ≡ 1 → 0 ≡ room_of l acked
unfolding room_of
room_closed l acked h = rw (eq-eqb l.closed 1 h)

pub room_open : (l : Line) (acked : ℕ) → (l.closed ≡ 1 → ⊥) → min (capacity - (l.given - acked)) (ceiling - l.given) ≡ room_of l acked
unfolding room_of
room_open l acked h = rw (ne_eqb l.closed 1 h)

pub room_small : (l : Line) (acked : ℕ) → room_of l acked ≤ capacity - (l.given - acked)
unfolding room_of
room_small l acked = if_case (λ (n : ℕ). n ≤ capacity - (l.given - acked)) (eqb l.closed 1) (λ e. omega arith) (λ e. omega arith)

pub room_whole : (l : Line) (acked : ℕ) → room_of l acked ≤ ceiling - l.given
unfolding room_of
room_whole l acked = if_case (λ (n : ℕ). n ≤ ceiling - l.given) (eqb l.closed 1) (λ e. omega arith) (λ e. omega arith)
