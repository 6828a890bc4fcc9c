-- What each call ensures of what was lent, whatever it holds: refused, all is as it was; done, an end has become what the definition says.
use Rattle.std.specs.Prelude.{◌≡◌, List, ℕ, ◌≤◌, ℤ, ltb, length}
use Rattle.laws.specs.Over.{over}
use Rattle.laws.specs.Rows.{when, ◌or_else◌}
use Rattle.ring.specs.Ring.{capacity}
use Rattle.wire.specs.Reading.{form_of}
use Rattle.end.specs.End.{End, open_of, give_of, given_of, finish_of, got_of, take_of, reached_of, hear_answer, hear_of, tick_of, output_of}
use Rattle.table.specs.Layout.{Sound, end_of}
use Rattle.table.specs.Rows.{interval_row, short_row, ready_of, output_row}
use Rattle.endpoint.specs.Answer.{answer_of}

-- table, outgoing, incoming and marks hold an end, and it is f of the end that they held
pub record Became (t o i m t' o' i' m' : List ℕ) (f : End → End) : Type 0 where
  pub sound : Sound t' o' i' m'
  pub end : end_of t' o' i' m' ≡ f (end_of t o i m)

-- the answer is a number of bytes, at most n
pub record Count (r : ℤ) (n : ℕ) : Type 0 where
  pub count : ℕ
  pub is : r ≡ answer_of 0 count
  pub most : count ≤ n

-- OPEN
-- 10, then 11
unfoldable pub open_row : ℕ → ℕ → ℕ → ℕ → ℕ → ℕ
open_row interval table o i m = interval_row interval or_else short_row table o i or_else when (ltb m capacity) 11 or_else 0

pub record Opens (t o i m : List ℕ) (epoch interval : ℕ) (r : ℤ) (t' m' : List ℕ) : Type 0 where
  pub answer : r ≡ answer_of (open_row interval (length t) (length o) (length i) (length m)) 0
  pub refused : (open_row interval (length t) (length o) (length i) (length m) ≡ 0 → ⊥) → (t' ≡ t) × (m' ≡ m)
  pub sound : open_row interval (length t) (length o) (length i) (length m) ≡ 0 → Sound t' o i m'
  pub end : open_row interval (length t) (length o) (length i) (length m) ≡ 0 → end_of t' o i m' ≡ open_of epoch interval
  pub table_kept : length t' ≡ length t
  pub marks_kept : length m' ≡ length m

-- GIVE
pub record GaveEnd (t o i m bs : List ℕ) (r : ℤ) (t' o' : List ℕ) : Type 0 where
  pub became : Became t o i m t' o' i m (λ e. give_of e bs)
  pub answer : r ≡ answer_of 0 (given_of (end_of t o i m) bs)

pub record Gives (t o bs : List ℕ) (r : ℤ) (t' o' : List ℕ) : Type 0 where
  pub answer : (ready_of t (length o) capacity ≡ 0 → ⊥) → r ≡ answer_of (ready_of t (length o) capacity) 0
  pub refused : (ready_of t (length o) capacity ≡ 0 → ⊥) → (t' ≡ t) × (o' ≡ o)
  pub within : ready_of t (length o) capacity ≡ 0 → Count r (length bs)
  pub done : ready_of t (length o) capacity ≡ 0 → (i m : List ℕ) → Sound t o i m → GaveEnd t o i m bs r t' o'
  pub table_kept : length t' ≡ length t
  pub outgoing_kept : length o' ≡ length o

-- FINISH
pub record Finishes (t : List ℕ) (r : ℤ) (t' : List ℕ) : Type 0 where
  pub answer : r ≡ answer_of (ready_of t capacity capacity) 0
  pub refused : (ready_of t capacity capacity ≡ 0 → ⊥) → t' ≡ t
  pub done : ready_of t capacity capacity ≡ 0 → (o i m : List ℕ) → Sound t o i m → Became t o i m t' o i m finish_of
  pub table_kept : length t' ≡ length t

-- DATAGRAM
pub record HeardEnd (t o i m d : List ℕ) (r : ℤ) (t' i' m' : List ℕ) : Type 0 where
  pub became : Became t o i m t' o i' m' (λ e. hear_of e d)
  pub answer : r ≡ answer_of (hear_answer (end_of t o i m) d) 0

pub record Hears (t i m d : List ℕ) (r : ℤ) (t' i' m' : List ℕ) : Type 0 where
  pub answer : (ready_of t (length i) (length m) ≡ 0 → ⊥) → r ≡ answer_of (ready_of t (length i) (length m)) 0
  pub malformed : ready_of t (length i) (length m) ≡ 0 → (form_of d ≡ 0 → ⊥) → r ≡ answer_of (form_of d) 0
  pub refused : (r ≡ answer_of 0 0 → ⊥) → (t' ≡ t) × (i' ≡ i) × (m' ≡ m)
  pub done : ready_of t (length i) (length m) ≡ 0 → (o : List ℕ) → Sound t o i m → HeardEnd t o i m d r t' i' m'
  pub table_kept : length t' ≡ length t
  pub incoming_kept : length i' ≡ length i
  pub marks_kept : length m' ≡ length m

-- TAKE: d is where the bytes go, e is whether the END has been reached
pub record TookEnd (t o i m d : List ℕ) (r : ℤ) (t' d' : List ℕ) (e' : ℕ) : Type 0 where
  pub became : Became t o i m t' o i m (λ e. take_of e (length d))
  pub answer : r ≡ answer_of 0 (length (got_of (end_of t o i m) (length d)))
  pub bytes : d' ≡ over (got_of (end_of t o i m) (length d)) d
  pub reached : e' ≡ reached_of (end_of t o i m) (length d)

pub record Takes (t i d : List ℕ) (e : ℕ) (r : ℤ) (t' d' : List ℕ) (e' : ℕ) : Type 0 where
  pub answer : (ready_of t (length i) capacity ≡ 0 → ⊥) → r ≡ answer_of (ready_of t (length i) capacity) 0
  pub refused : (ready_of t (length i) capacity ≡ 0 → ⊥) → (t' ≡ t) × (d' ≡ d) × (e' ≡ e)
  pub within : ready_of t (length i) capacity ≡ 0 → Count r (length d)
  pub done : ready_of t (length i) capacity ≡ 0 → (o m : List ℕ) → Sound t o i m → TookEnd t o i m d r t' d' e'
  pub table_kept : length t' ≡ length t
  pub output_kept : length d' ≡ length d

-- TICK
-- 11, 12, then 13
unfoldable pub tick_row : List ℕ → ℕ → ℕ → ℕ
tick_row t o out = ready_of t o capacity or_else output_row out

pub record TickedEnd (t o i m out : List ℕ) (r : ℤ) (t' out' : List ℕ) : Type 0 where
  pub became : Became t o i m t' o i m tick_of
  pub answer : r ≡ answer_of 0 (length (output_of (end_of t o i m)))
  pub sent : out' ≡ over (output_of (end_of t o i m)) out

pub record Ticks (t o out : List ℕ) (r : ℤ) (t' out' : List ℕ) : Type 0 where
  pub answer : (tick_row t (length o) (length out) ≡ 0 → ⊥) → r ≡ answer_of (tick_row t (length o) (length out)) 0
  pub refused : (tick_row t (length o) (length out) ≡ 0 → ⊥) → (t' ≡ t) × (out' ≡ out)
  pub within : tick_row t (length o) (length out) ≡ 0 → Count r (length out)
  pub done : tick_row t (length o) (length out) ≡ 0 → (i m : List ℕ) → Sound t o i m → TickedEnd t o i m out r t' out'
  pub table_kept : length t' ≡ length t
  pub output_kept : length out' ≡ length out
