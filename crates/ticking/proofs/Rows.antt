-- The rows of ends and times, as they are lent from the halves of the table. Assumes nothing.
use Rattle.std.proofs.Common.{◌≡◌, refl, sym, arith, List, [], ◌++◌, ℕ, ◌-◌, length, take, drop, append-nil, drop_of_length-le, length-drop}
use Rattle.std.proofs.lemmas.List.{take_all}
use borrow.Rule.Slice.PartMut.{post_of}
use Rattle.table.specs.Layout.{ends_at, times_at, row_size}

-- f ends with the row of ends
module _ (f : List ℕ) (size : length f ≡ times_at) where
  pub ends_last : drop (length f - row_size) f ≡ take (length f - ends_at) (drop ends_at f)
  ends_last =
      let at : length f - row_size ≡ ends_at = omega (arith, size) in
      rw at (sym (take_all (length f - ends_at) (drop ends_at f) (rw length-drop (omega arith))))

  pub ends_back : (x : List ℕ) → take (length f - row_size) f ++ x ≡ take ends_at f ++ (x ++ post_of ends_at (length f - ends_at) f)
  ends_back x =
      let at : length f - row_size ≡ ends_at = omega (arith, size) in
      let none : post_of ends_at (length f - ends_at) f ≡ [] = drop_of_length-le (drop ends_at f) (rw length-drop (omega arith)) in
      rw (at, none, append-nil) refl
