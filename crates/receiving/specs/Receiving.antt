-- 01 §5, and rows 8 and 9 of §3: the receiving side as a list of cells, and how it is read out of the lent buffers.
use Rattle.std.specs.Prelude.{ℕ, zero, suc, ◌+◌, ◌-◌, ◌≤◌, ◌<◌, ◌≡◌, Bool, false, not, List, [], ◌∷◌, ◌++◌, length, take, drop, replicate, eqb, leb, ltb}
use Rattle.laws.specs.Choice.{if}
use Rattle.laws.specs.Rows.{when, ◌or_else◌, branch}
use Rattle.wire.specs.Datagram.{ceiling}
use Rattle.ring.specs.Ring.{capacity}
use Rattle.arrivals.specs.Marks.{of, mark}
use Rattle.receiving.specs.declared.Scalars.{Scalars}

pub data Cell : Type 0 where
  missing : Cell
  byte : ℕ → Cell

-- the END's position, where it is known
pub data End : Type 0 where
  none : End
  at : ℕ → End

-- taken counts the bytes that the host has taken; cell i is position taken + i
pub record Receiving : Type 0 where
  pub taken : ℕ
  pub cells : List Cell
  pub end : End

unfoldable pub fresh : Receiving
fresh = record { taken = 0; cells = replicate capacity missing; end = none }

-- DATA: the first arrival wins
unfoldable pub first : Cell → ℕ → Cell
first missing b = byte b
first (byte a) b = byte a

-- bytes laid over cells, from the first on
unfoldable pub lay : List Cell → List ℕ → List Cell
lay [] bs = []
lay (c ∷ cs) [] = c ∷ cs
lay (c ∷ cs) (b ∷ bs) = first c b ∷ lay cs bs

-- bytes from position p on; positions below taken are passed over
unfoldable pub fill_cells : ℕ → List Cell → ℕ → List ℕ → List Cell
fill_cells taken cs p bs = take (p - taken) cs ++ lay (drop (p - taken) cs) (drop (taken - p) bs)

unfoldable pub fill_of : Receiving → ℕ → List ℕ → Receiving
fill_of v p bs = record { taken = v.taken; cells = fill_cells v.taken v.cells p bs; end = v.end }

-- where e is 1 the stream ends right after the bytes
unfoldable pub hear_of : Receiving → ℕ → List ℕ → ℕ → Receiving
hear_of v p bs e = record {
  taken = (fill_of v p bs).taken;
  cells = (fill_of v p bs).cells;
  end = if (eqb e 1) (at (p + length bs)) (fill_of v p bs).end;
}

-- how many cells hold a byte, from the first on
unfoldable pub lead : List Cell → ℕ
lead [] = 0
lead (missing ∷ cs) = 0
lead (byte b ∷ cs) = suc (lead cs)

-- the lowest missing position
unfoldable pub low_of : Receiving → ℕ
low_of v = v.taken + lead v.cells

-- how many cells there are up to the last that holds a byte
unfoldable pub up : Cell → ℕ → ℕ
up (byte b) n = suc n
up missing zero = 0
up missing (suc n) = suc (suc n)

unfoldable pub reach : List Cell → ℕ
reach [] = 0
reach (c ∷ cs) = up c (reach cs)

-- one more than the highest position that has arrived, or taken
unfoldable pub high_of : Receiving → ℕ
high_of v = v.taken + reach v.cells

-- take: at most n bytes, from the first cell on, up to a missing one
unfoldable pub heads : ℕ → List Cell → List ℕ
heads zero cs = []
heads (suc n) [] = []
heads (suc n) (missing ∷ cs) = []
heads (suc n) (byte b ∷ cs) = b ∷ heads n cs

-- what take n hands up, and what it leaves
unfoldable pub got_of : Receiving → ℕ → List ℕ
got_of v n = heads n v.cells

unfoldable pub take_of : Receiving → ℕ → Receiving
take_of v n =
    let k = length (heads n v.cells) in
    record { taken = v.taken + k; cells = drop k v.cells ++ replicate k missing; end = v.end }

-- 1 where the END is at q
unfoldable pub end_at : End → ℕ → ℕ
end_at none q = 0
end_at (at k) q = if (eqb k q) 1 0

-- 1 where the END is reached: every byte before it has been taken
unfoldable pub ended_of : Receiving → ℕ
ended_of v = end_at v.end v.taken

-- ACK: the lowest position that is not here yet, the END's counted, and how far beyond it bytes will be accepted
unfoldable pub ack_position : Receiving → ℕ
ack_position v = low_of v + end_at v.end (low_of v)

unfoldable pub ack_credit : Receiving → ℕ
ack_credit v = v.taken + capacity - ack_position v

-- 8, for n bytes from position p on: one is at taken + 65,536 or above, or at 2^62 or above
unfoldable pub beyond_of : ℕ → ℕ → ℕ → ℕ
beyond_of taken p n = branch (eqb n 0) 0 (when (ltb ceiling (p + n)) 8 or_else when (ltb (taken + capacity) (p + n)) 8 or_else 0)

-- 9, for n bytes that end before position q, with an END there where e is 1: bytes at or after the known END, an END elsewhere than known, or one before bytes that have arrived
unfoldable pub misplaced_of : End → ℕ → ℕ → ℕ → ℕ → ℕ
misplaced_of none high q n e = branch (eqb e 1) (when (ltb q high) 9 or_else 0) 0
misplaced_of (at k) high q n e = branch (eqb n 0) 0 (when (ltb k q) 9 or_else 0) or_else branch (eqb e 1) (when (not (eqb q k)) 9 or_else 0) 0

-- 0, or the refusal of a DATA of n bytes from position p on
unfoldable pub refusal_by : ℕ → End → ℕ → ℕ → ℕ → ℕ → ℕ
refusal_by taken end high p n e = beyond_of taken p n or_else misplaced_of end high (p + n) n e

unfoldable pub refusal_of : Receiving → ℕ → ℕ → ℕ → ℕ
refusal_of v p n e = refusal_by v.taken v.end (high_of v) p n e

-- THE LENT BUFFERS: scalars, a ring of bytes, and marks for what lies beyond the lowest missing position, up to tail: from there on all has arrived, up to high

unfoldable pub marked : ℕ → ℕ → Cell
marked zero b = missing
marked (suc _) b = byte b

-- the cell of position q, where the bytes are f and the marks g: all below low have arrived
unfoldable pub cell_at : (ℕ → ℕ) → (ℕ → ℕ) → ℕ → ℕ → Cell
cell_at f g low q = if (ltb q low) (byte (f q)) (marked (g q) (f q))

-- the marks g, and the last stretch, from tail up to high
unfoldable pub arrived : ℕ → ℕ → (ℕ → ℕ) → ℕ → ℕ
arrived tail high g q = if (ltb q tail) (g q) (if (ltb q high) 1 (g q))

abbrev pub arrived_of : Scalars → List ℕ → ℕ → ℕ
arrived_of s marks = arrived s.tail s.high (mark marks)

-- n cells from position q on
unfoldable pub cells_from : (ℕ → ℕ) → (ℕ → ℕ) → ℕ → ℕ → ℕ → List Cell
cells_from f g low q zero = []
cells_from f g low q (suc n) = cell_at f g low q ∷ cells_from f g low (suc q) n

unfoldable pub cells_of : (ℕ → ℕ) → (ℕ → ℕ) → ℕ → ℕ → List Cell
cells_of f g taken low = cells_from f g low taken capacity

unfoldable pub end_of : ℕ → ℕ → End
end_of zero e = none
end_of (suc _) e = at e

unfoldable pub receiving_of : Scalars → List ℕ → List ℕ → Receiving
receiving_of s ring marks = record { taken = s.taken; cells = cells_of (of ring) (arrived_of s marks) s.taken s.low; end = end_of s.known s.end }

-- scalars that may be an end's, whatever the buffers hold
pub record Ranged (s : Scalars) : Type 0 where
  pub taken_low : s.taken ≤ s.low
  pub low_tail : s.low ≤ s.tail
  pub tail_high : s.tail ≤ s.high
  pub high_limit : s.high ≤ s.taken + capacity
  pub high_small : s.high ≤ ceiling

unfoldable pub plausible_of : Scalars → Bool
plausible_of s =
    if (ltb s.low s.taken) false (if (ltb s.tail s.low) false (if (ltb s.high s.tail) false (if (ltb ceiling s.high) false (leb s.high (s.taken + capacity)))))

-- what has arrived beyond low: nothing up to low, nothing from high on in the window, and the position right below high
pub record Clear (s : Scalars) (g : ℕ → ℕ) : Type 0 where
  pub clear : (q : ℕ) → s.taken ≤ q → q ≤ s.low → q < s.taken + capacity → g q ≡ 0
  pub beyond : (q : ℕ) → s.high ≤ q → q < s.taken + capacity → g q ≡ 0
  pub top : s.low < s.high → 0 < g (s.high - 1)

-- buffers and scalars that may be read: the last stretch has no mark
pub record Sound (s : Scalars) (ring marks : List ℕ) : Type 0 where
  pub ranged : Ranged s
  pub ring_size : length ring ≡ capacity
  pub marks_size : length marks ≡ capacity
  pub clear : Clear s (arrived_of s marks)
  pub bare : (q : ℕ) → s.tail ≤ q → q < s.high → mark marks q ≡ 0
