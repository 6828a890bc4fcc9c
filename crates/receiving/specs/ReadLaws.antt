-- Laws of what is read out of the lent buffers. Assumes nothing.
use Rattle.std.specs.Prelude.{◌≡◌, refl, Bool, true, false, not, List, ℕ, zero, suc, ◌+◌, ◌-◌, ◌≤◌, ◌<◌, length, get_or, eqb, leb}
use Rattle.std.proofs.Common.{sym, ◌∙◌, ap, ⊎_elim, arith, le_of_suc-le-suc, not-suc-le-zero}
use borrow.Author.Tests.{lt-ltb, le-ltb, le-leb, leb-true, not-false}
use Rattle.laws.specs.Choice.{if_case}
use Rattle.wire.specs.Datagram.{ceiling}
use Rattle.ring.specs.Ring.{capacity}
use Rattle.arrivals.specs.Marks.{of}
use Rattle.receiving.specs.Receiving.{Cell, missing, byte, End, none, at, lead, low_of, reach, high_of, marked, cell_at, cells_from, cells_of, end_of, end_at, arrived, arrived_of, receiving_of, Ranged, Sound, plausible_of}
use Rattle.receiving.specs.Receiving.{ended_of, ack_position, ack_credit, refusal_of}
use Rattle.receiving.specs.Calls.{refusal, ended_by, position_by, credit_by}
use Rattle.laws.specs.Split.{split}
use Rattle.receiving.specs.CellLaws.{lead_is, reach_is}
use Rattle.receiving.specs.declared.Scalars.{Scalars}

marked_none : (k b : ℕ) → k ≡ 0 → marked k b ≡ missing
unfolding marked
marked_none zero b e = refl
marked_none (suc k) b e = absurd (omega arith)

marked_some : (k b : ℕ) → 0 < k → marked k b ≡ byte b
unfolding marked
marked_some zero b e = absurd (omega arith)
marked_some (suc k) b e = refl

module _ (f g : ℕ → ℕ) (low q : ℕ) where
  pub cell_low : q < low → cell_at f g low q ≡ byte (f q)
  unfolding cell_at
  cell_low h = rw (lt-ltb q low h)

  pub cell_missing : low ≤ q → g q ≡ 0 → cell_at f g low q ≡ missing
  unfolding cell_at
  cell_missing h k = rw (le-ltb q low h) (marked_none (g q) (f q) k)

  pub cell_marked : low ≤ q → 0 < g q → cell_at f g low q ≡ byte (f q)
  unfolding cell_at
  cell_marked h k = rw (le-ltb q low h) (marked_some (g q) (f q) k)

length_from : (f g : ℕ → ℕ) (low q n : ℕ) → length (cells_from f g low q n) ≡ n
unfolding cells_from
length_from f g low q zero = refl
length_from f g low q (suc n) = ap suc (length_from f g low (suc q) n)

from_at : (f g : ℕ → ℕ) (low q n i : ℕ) → i < n → get_or (cells_from f g low q n) i missing ≡ cell_at f g low (q + i)
unfolding cells_from
from_at f g low q zero i h = absurd (not-suc-le-zero h)
from_at f g low q (suc n) zero h = let e : q + 0 ≡ q = omega arith in rw e
from_at f g low q (suc n) (suc i) h = let e : suc q + i ≡ q + suc i = omega arith in from_at f g low (suc q) n i (le_of_suc-le-suc h) ∙ ap (cell_at f g low) e

module _ (f g : ℕ → ℕ) (taken low : ℕ) where
  pub length_cells : length (cells_of f g taken low) ≡ capacity
  unfolding cells_of
  length_cells = length_from f g low taken capacity

  pub cells_at : (i : ℕ) → i < capacity → get_or (cells_of f g taken low) i missing ≡ cell_at f g low (taken + i)
  unfolding cells_of
  cells_at i h = from_at f g low taken capacity i h

pub cell_same : (f g f' g' : ℕ → ℕ) (low q : ℕ) → f' q ≡ f q → g' q ≡ g q → cell_at f' g' low q ≡ cell_at f g low q
unfolding cell_at
cell_same f g f' g' low q x y = rw (x, y)

-- marks and the last stretch
module _ (tail high : ℕ) (g : ℕ → ℕ) (q : ℕ) where
  pub arrived_before : q < tail → arrived tail high g q ≡ g q
  unfolding arrived
  arrived_before h = rw (lt-ltb q tail h)

  pub arrived_within : tail ≤ q → q < high → arrived tail high g q ≡ 1
  unfolding arrived
  arrived_within h k = rw (le-ltb q tail h, lt-ltb q high k)

  pub arrived_beyond : tail ≤ high → high ≤ q → arrived tail high g q ≡ g q
  unfolding arrived
  arrived_beyond h k = rw (le-ltb q tail (omega arith), le-ltb q high k)

  -- where nothing has arrived there is no mark
  pub arrived_none : tail ≤ high → arrived tail high g q ≡ 0 → g q ≡ 0
  arrived_none h e =
      ⊎_elim (λ b. sym (arrived_before b) ∙ e)
      (λ b. ⊎_elim (λ c. let z = arrived_within b c in absurd (omega arith)) (λ c. sym (arrived_beyond h c) ∙ e) (split q high))
      (split q tail)

-- an empty stretch
pub arrived_empty : (tail : ℕ) (g : ℕ → ℕ) (q : ℕ) → arrived tail tail g q ≡ g q
arrived_empty tail g q = ⊎_elim (λ b. arrived_before tail tail g q b) (λ b. arrived_beyond tail tail g q (omega arith) b) (split q tail)

-- low is the lowest missing position
pub low_is : (s : Scalars) (r m : List ℕ) → Sound s r m → low_of (receiving_of s r m) ≡ s.low
unfolding low_of receiving_of
low_is s r m x =
    let g = x.ranged in
    let t : ℕ = s.taken in
    let n : ℕ = s.low - s.taken in
    let len = length_cells (of r) (arrived_of s m) t s.low in
    let l : n ≤ length (cells_of (of r) (arrived_of s m) t s.low) = omega arith in
    let e : lead (cells_of (of r) (arrived_of s m) t s.low) ≡ n =
    lead_is n (cells_of (of r) (arrived_of s m) t s.low) (λ i. of r (t + i)) l
    (λ i h. cells_at (of r) (arrived_of s m) t s.low i (omega arith) ∙ cell_low (of r) (arrived_of s m) s.low (t + i) (omega arith))
    (λ h. cells_at (of r) (arrived_of s m) t s.low n (omega arith) ∙ cell_missing (of r) (arrived_of s m) s.low (t + n) (omega arith) (x.clear.clear (t + n) (omega arith) (omega arith) (omega arith))) in
    omega arith

-- high is one more than the highest position that has arrived
pub high_is : (s : Scalars) (r m : List ℕ) → Sound s r m → high_of (receiving_of s r m) ≡ s.high
unfolding high_of receiving_of
high_is s r m x =
    let g = x.ranged in
    let t : ℕ = s.taken in
    let low : ℕ = s.low in
    let n : ℕ = s.high - t in
    let cs : List Cell = cells_of (of r) (arrived_of s m) t low in
    let len : length cs ≡ capacity = length_cells (of r) (arrived_of s m) t low in
    let e : reach cs ≡ n =
    reach_is n cs (of r (t + (n - 1))) (omega arith)
    (λ i h k. cells_at (of r) (arrived_of s m) t low i (omega arith) ∙ cell_missing (of r) (arrived_of s m) low (t + i) (omega arith) (x.clear.beyond (t + i) (omega arith) (omega arith)))
    (λ h. cells_at (of r) (arrived_of s m) t low (n - 1) (omega arith)
    ∙ ⊎_elim (λ b. cell_low (of r) (arrived_of s m) low (t + (n - 1)) b)
    (λ b.
    let f : t + (n - 1) ≡ s.high - 1 = omega arith in
    let z : 0 < arrived_of s m (s.high - 1) = x.clear.top (omega arith) in
    let z' : 0 < arrived_of s m (t + (n - 1)) = rw f z in
    cell_marked (of r) (arrived_of s m) low (t + (n - 1)) b z')
    (split (t + (n - 1)) low)) in
    omega arith

-- scalars that may be an end's
module _ (s : Scalars) where
  pub plausible_taken : s.low < s.taken → false ≡ plausible_of s
  unfolding plausible_of
  plausible_taken h = rw (lt-ltb s.low s.taken h)

  module _ (h : s.taken ≤ s.low) where
    pub plausible_low : s.tail < s.low → false ≡ plausible_of s
    unfolding plausible_of
    plausible_low k = rw (le-ltb s.low s.taken h, lt-ltb s.tail s.low k)

    module _ (k : s.low ≤ s.tail) where
      pub plausible_tail : s.high < s.tail → false ≡ plausible_of s
      unfolding plausible_of
      plausible_tail l = rw (le-ltb s.low s.taken h, le-ltb s.tail s.low k, lt-ltb s.high s.tail l)

      module _ (l : s.tail ≤ s.high) where
        pub plausible_high : ceiling < s.high → false ≡ plausible_of s
        unfolding plausible_of
        plausible_high z = rw (le-ltb s.low s.taken h, le-ltb s.tail s.low k, le-ltb s.high s.tail l, lt-ltb ceiling s.high z)

        pub plausible_limit : s.high ≤ ceiling → leb s.high (s.taken + capacity) ≡ plausible_of s
        unfolding plausible_of
        plausible_limit z = rw (le-ltb s.low s.taken h, le-ltb s.tail s.low k, le-ltb s.high s.tail l, le-ltb ceiling s.high z)

  pub ranged_plausible : Ranged s → plausible_of s ≡ true
  ranged_plausible g =
      sym (plausible_limit g.taken_low g.low_tail g.tail_high g.high_small) ∙ le-leb s.high (s.taken + capacity) g.high_limit

  pub plausible_ranged : (r : Bool) → r ≡ plausible_of s → r ≡ true → Ranged s
  plausible_ranged r e t =
      let f : false ≡ plausible_of s → ⊥ = λ x. let z : false ≡ true = x ∙ sym e ∙ t in let z : ◌≡◌ {A = ℕ} 0 1 = cc in omega arith in
      ⊎_elim (λ h. absurd (f (plausible_taken h)))
      (λ h.
      ⊎_elim (λ k. absurd (f (plausible_low h k)))
      (λ k.
      ⊎_elim (λ l. absurd (f (plausible_tail h k l)))
      (λ l.
      ⊎_elim (λ z. absurd (f (plausible_high h k l z)))
      (λ z. record {
        taken_low = h;
        low_tail = k;
        tail_high = l;
        high_limit = leb-true s.high (s.taken + capacity) (plausible_limit h k l z ∙ sym e ∙ t);
        high_small = z;
      })
      (split ceiling s.high))
      (split s.high s.tail))
      (split s.tail s.low))
      (split s.low s.taken)

  -- where the code tests that they are not
  pub plausible_not : (r : Bool) → r ≡ plausible_of s → not r ≡ false → Ranged s
  plausible_not r e t = plausible_ranged r e (not-false r t)

  pub sound_plausible : {ring marks : List ℕ} → Sound s ring marks → plausible_of s ≡ true
  sound_plausible x = ranged_plausible x.ranged

-- the END, as it is kept
pub end_some : (known e : ℕ) → (known ≡ 0 → ⊥) → end_of known e ≡ at e
unfolding end_of
end_some zero e h = absurd (h refl)
end_some (suc k) e h = refl

pub end_none : (known e : ℕ) → known ≡ 0 → end_of known e ≡ none
unfolding end_of
end_none known e h = rw h

pub ruleset end_laws = (end_none, end_some)

pub end_at_small : (e : End) (q : ℕ) → end_at e q ≤ 1
unfolding end_at
end_at_small none q = omega arith
end_at_small (at k) q = if_case (λ (n : ℕ). n ≤ 1) (eqb k q) (λ h. omega arith) (λ h. omega arith)

-- an ACK's position and credit fit their fields, whatever the buffers hold
pub position_small : {s : Scalars} → Ranged s → position_by s ≤ ceiling + 1
unfolding position_by
position_small {s} g = omega (arith, end_at_small (end_of s.known s.end) s.low, g.low_tail, g.tail_high, g.high_small)

pub credit_small : {s : Scalars} → Ranged s → credit_by s ≤ capacity
unfolding credit_by position_by
credit_small {s} g = omega (arith, g.taken_low)

-- what the calls answer from the scalars is what the definitions say of the receiving side
pub ended_read : (s : Scalars) (ring marks : List ℕ) → ended_by s ≡ ended_of (receiving_of s ring marks)
unfolding ended_by ended_of receiving_of
ended_read s ring marks = refl

module _ {s : Scalars} {ring marks : List ℕ} where
  pub position_read : Sound s ring marks → position_by s ≡ ack_position (receiving_of s ring marks)
  unfolding position_by ack_position receiving_of
  position_read x = rw (low_is s ring marks x)

  pub credit_read : Sound s ring marks → credit_by s ≡ ack_credit (receiving_of s ring marks)
  unfolding credit_by ack_credit receiving_of
  credit_read x = rw (position_read x)

  pub refusal_read : Sound s ring marks → (p n e : ℕ) → refusal s p n e ≡ refusal_of (receiving_of s ring marks) p n e
  unfolding refusal refusal_of receiving_of
  refusal_read x p n e = rw (high_is s ring marks x)
