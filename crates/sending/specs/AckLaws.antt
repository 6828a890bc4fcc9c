-- Laws of dropping: the oldest segments go, one after the other. Assumes nothing.
use Rattle.std.specs.Prelude.{◌≡◌, refl, ℕ, ◌≤◌, ◌<◌}
use mathlib.Core.List.{List, [], ◌∷◌, ◌++◌}
use Rattle.std.proofs.Common.{arith, lt-ltb, le-ltb}
use Rattle.sending.specs.Sending.{Segment, start_of}
use Rattle.sending.specs.Acking.{left_of, acked_of}
use Rattle.sending.specs.Buffers.{Chain}
use Rattle.sending.specs.Buffers.Chain.{none, one}

-- the oldest ends at the position or before: it goes
module _ (p : ℕ) (g : Segment) (h : g.to ≤ p) where
  pub left_oldest : (gs : List Segment) → left_of p (gs ++ (g ∷ [])) ≡ left_of p gs
  unfolding left_of
  left_oldest [] = rw (le-ltb p g.to h)
  left_oldest (x ∷ gs) = rw (left_oldest gs)

  pub acked_oldest : (acked : ℕ) (gs : List Segment) → acked_of acked p (gs ++ (g ∷ [])) ≡ acked_of g.to p gs
  unfolding acked_of
  acked_oldest acked [] = rw (le-ltb p g.to h)
  acked_oldest acked (x ∷ gs) = rw (acked_oldest acked gs)

start_oldest : (acked : ℕ) (gs : List Segment) (g : Segment) → start_of acked (gs ++ (g ∷ [])) ≡ start_of g.to gs
unfolding start_of
start_oldest acked [] g = refl
start_oldest acked (x ∷ gs) g = refl

pub chain_oldest : (acked given : ℕ) (gs : List Segment) (g : Segment) → Chain acked given (gs ++ (g ∷ [])) → Chain g.to given gs
chain_oldest acked given [] g c = none
chain_oldest acked given (x ∷ gs) g (one l m c) = one (rw (start_oldest acked gs g) at l) (rw (start_oldest acked gs g) at m) (chain_oldest acked given gs g c)

-- where the oldest ends beyond the position, all do
pub record Beyond (acked p : ℕ) (gs : List Segment) : Type 0 where
  pub top : p < start_of acked gs
  pub left : left_of p gs ≡ gs
  pub acked_is : acked_of acked p gs ≡ acked

pub beyond : (acked given p : ℕ) (gs : List Segment) (g : Segment) → p < g.to → Chain acked given (gs ++ (g ∷ [])) → Beyond acked p (gs ++ (g ∷ []))
unfolding left_of acked_of start_of
beyond acked given p [] g h c = record { top = h; left = rw (lt-ltb p g.to h); acked_is = rw (lt-ltb p g.to h) }
beyond acked given p (x ∷ gs) g h (one l m c) =
    let i = beyond acked given p gs g h c in
    let b : p < x.to = omega (arith, i.top) in
    record { top = b; left = rw (lt-ltb p x.to b, i.left); acked_is = rw (lt-ltb p x.to b, i.acked_is) }
