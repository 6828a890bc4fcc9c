-- Laws of an ACK's position and credit: they never fall, DATA at the lowest missing position moves it, and take leaves it. Assumes nothing.
use Prim.Native.Nat.{ℕ, zero, suc, ◌+◌, ◌-◌, ◌≤◌, min, max}
use Rattle.std.specs.Prelude.{◌≡◌, List, [], ◌∷◌, ◌++◌, take, drop, replicate, eqb}
use Rattle.std.proofs.Math.Path.{refl}
use Rattle.std.proofs.Common.{ap, ⊎_elim, length-append, eqb-true, eq-eqb}
use native.Mathlib.Omega.{arith}
use Rattle.std.proofs.Math.ListN.{length, length-drop}
use Rattle.std.proofs.lemmas.List.{length-replicate}
use Rattle.laws.specs.Choice.{if, if_case}
use Rattle.laws.specs.RowsLaws.{row_right}
use Rattle.ring.specs.Ring.{capacity}
use Rattle.receiving.specs.Receiving.{Cell, missing, byte, End, none, at, Receiving, first, lay, fill_cells, fill_of, hear_of, lead, low_of, high_of, heads, got_of, take_of}
use Rattle.receiving.specs.Receiving.{end_at, ack_position, ack_credit, beyond_of, misplaced_of, refusal_by, refusal_of}
use Rattle.laws.specs.Split.{split}
use Rattle.receiving.specs.CellLaws.{length_fill}
use Rattle.receiving.specs.ReadLaws.{end_at_small}
use Rattle.receiving.specs.RefusalLaws.{known_elsewhere}

-- LISTS OF CELLS: bytes laid over them never shorten the lead
lead_lay : (cs : List Cell) (bs : List ℕ) → lead cs ≤ lead (lay cs bs)
unfolding lead lay first
lead_lay [] bs = omega arith
lead_lay (c ∷ cs) [] = omega arith
lead_lay (missing ∷ cs) (b ∷ bs) = omega arith
lead_lay (byte x ∷ cs) (b ∷ bs) = let h = lead_lay cs bs in omega arith

lead_lay_from : (n : ℕ) (cs : List Cell) (bs : List ℕ) → lead cs ≤ lead (take n cs ++ lay (drop n cs) bs)
unfolding lead lay
lead_lay_from zero cs bs = lead_lay cs bs
lead_lay_from (suc n) [] bs = omega arith
lead_lay_from (suc n) (missing ∷ cs) bs = omega arith
lead_lay_from (suc n) (byte x ∷ cs) bs = let h = lead_lay_from n cs bs in omega arith

lead_fill : (t : ℕ) (cs : List Cell) (p : ℕ) (bs : List ℕ) → lead cs ≤ lead (fill_cells t cs p bs)
unfolding fill_cells
lead_fill t cs p bs = lead_lay_from (p - t) cs (drop (t - p) bs)

-- and bytes that begin within the lead become part of it
lead_lay_all : (cs : List Cell) (bs : List ℕ) → length bs ≤ length cs → length bs ≤ lead (lay cs bs)
unfolding lead lay first
lead_lay_all cs [] h = omega arith
lead_lay_all [] (b ∷ bs) h = absurd (omega arith)
lead_lay_all (missing ∷ cs) (b ∷ bs) h = let k = lead_lay_all cs bs (omega arith) in omega arith
lead_lay_all (byte x ∷ cs) (b ∷ bs) h = let k = lead_lay_all cs bs (omega arith) in omega arith

lead_reach : (n : ℕ) (cs : List Cell) (bs : List ℕ) → n ≤ lead cs → n + length bs ≤ length cs → n + length bs ≤ lead (take n cs ++ lay (drop n cs) bs)
unfolding lead lay
lead_reach zero cs bs l h = let k = lead_lay_all cs bs (omega arith) in omega arith
lead_reach (suc n) [] bs l h = absurd (omega arith)
lead_reach (suc n) (missing ∷ cs) bs l h = absurd (omega arith)
lead_reach (suc n) (byte x ∷ cs) bs l h = let k = lead_reach n cs bs (omega arith) (omega arith) in omega arith

lead_passes : (t : ℕ) (cs : List Cell) (p : ℕ) (bs : List ℕ) → p ≤ t + lead cs → p + length bs ≤ t + length cs → p + length bs ≤ t + lead (fill_cells t cs p bs)
unfolding fill_cells
lead_passes t cs p bs l h =
    ⊎_elim (λ b. let k = lead_fill t cs p bs in omega arith)
    (λ b.
    let d = length-drop (t - p) bs in
    let k = lead_reach (p - t) cs (drop (t - p) bs) (omega arith) (omega arith) in
    omega arith)
    (split (p + length bs) t)

pub lead_length : (cs : List Cell) → lead cs ≤ length cs
unfolding lead
lead_length [] = omega arith
lead_length (missing ∷ cs) = omega arith
lead_length (byte b ∷ cs) = let h = lead_length cs in omega arith

-- what leaves at the front was part of the lead
heads_length : (n : ℕ) (cs : List Cell) → length (heads n cs) ≡ min n (lead cs)
unfolding heads lead
heads_length zero cs = omega arith
heads_length (suc n) [] = omega arith
heads_length (suc n) (missing ∷ cs) = omega arith
heads_length (suc n) (byte b ∷ cs) = let h = heads_length n cs in omega arith

lead_blank : (cs : List Cell) (j : ℕ) → lead (cs ++ replicate j missing) ≡ lead cs
unfolding lead
lead_blank [] zero = refl
lead_blank [] (suc j) = refl
lead_blank (missing ∷ cs) j = refl
lead_blank (byte b ∷ cs) j = ap suc (lead_blank cs j)

lead_drop : (k : ℕ) (cs : List Cell) (j : ℕ) → k ≤ lead cs → k + lead (drop k cs ++ replicate j missing) ≡ lead cs
unfolding lead
lead_drop zero cs j h = let e = lead_blank cs j in omega arith
lead_drop (suc k) [] j h = absurd (omega arith)
lead_drop (suc k) (missing ∷ cs) j h = absurd (omega arith)
lead_drop (suc k) (byte b ∷ cs) j h = let e = lead_drop k cs j (omega arith) in omega arith

-- TAKEN AND THE LOWEST MISSING POSITION
module _ (v : Receiving) where
  pub taken_low : v.taken ≤ low_of v
  unfolding low_of
  taken_low = omega arith

  pub low_room : low_of v ≤ v.taken + length v.cells
  unfolding low_of
  low_room = let h = lead_length v.cells in omega arith

  module _ (p : ℕ) (bs : List ℕ) (e : ℕ) where
    pub taken_hear : (hear_of v p bs e).taken ≡ v.taken
    unfolding hear_of fill_of
    taken_hear = refl

    pub size_hear : length (hear_of v p bs e).cells ≡ length v.cells
    unfolding hear_of fill_of
    size_hear = length_fill v.taken v.cells p bs

    pub low_hear : low_of v ≤ low_of (hear_of v p bs e)
    unfolding low_of hear_of fill_of
    low_hear = let h = lead_fill v.taken v.cells p bs in omega arith

    -- bytes that begin at or below the lowest missing position move it past them
    pub low_passes : length v.cells ≡ capacity → p ≤ low_of v → p + length bs ≤ v.taken + capacity → p + length bs ≤ low_of (hear_of v p bs e)
    unfolding low_of hear_of fill_of
    low_passes l h k = lead_passes v.taken v.cells p bs h (omega arith)

  module _ (n : ℕ) where
    pub got_length : length (got_of v n) ≡ min n (low_of v - v.taken)
    unfolding got_of low_of
    got_length = let h = heads_length n v.cells in omega arith

    pub taken_take : (take_of v n).taken ≡ v.taken + length (got_of v n)
    unfolding take_of got_of
    taken_take = refl

    pub end_take : (take_of v n).end ≡ v.end
    unfolding take_of
    end_take = refl

    pub size_take : length (take_of v n).cells ≡ length v.cells
    unfolding take_of
    size_take =
        let k : ℕ = length (heads n v.cells) in
        let h = heads_length n v.cells in
        let l = lead_length v.cells in
        simp (length-append, length-drop, length-replicate) (omega arith)

    pub low_take : low_of (take_of v n) ≡ low_of v
    unfolding take_of low_of
    low_take =
        let k : ℕ = length (heads n v.cells) in
        let h = heads_length n v.cells in
        let e = lead_drop k v.cells k (omega arith) in
        omega arith

-- THE ACK
position_up : (E : End) (a b : ℕ) → a ≤ b → a + end_at E a ≤ b + end_at E b
position_up E a b h =
    let s = end_at_small E a in
    ⊎_elim (λ l. omega arith) (λ l. let e : a ≡ b = omega arith in let f : end_at E a ≡ end_at E b = ap (end_at E) e in omega arith) (split a b)

end_at_same : (q : ℕ) → end_at (at q) q ≡ 1
unfolding end_at
end_at_same q = rw (eq-eqb q q refl)

end_none_at : (q : ℕ) → end_at none q ≡ 0
unfolding end_at
end_none_at q = refl

-- a known END stays where it is
end_hears : (E : End) (high q n e a b : ℕ) → misplaced_of E high q n e ≡ 0 → a ≤ b → a + end_at E a ≤ b + end_at (if (eqb e 1) (at q) E) b
end_hears none high q n e a b z h = let x = end_none_at a in omega arith
end_hears (at k) high q n e a b z h =
    if_case (λ (F : End). a + end_at (at k) a ≤ b + end_at F b) (eqb e 1)
    (λ t.
    let f : (q ≡ k → ⊥) → ⊥ = λ ne. let x = known_elsewhere k high q n e (eqb-true e 1 t) ne in omega arith in
    ⊎_elim (λ l. absurd (f (λ x. omega arith)))
    (λ l.
    ⊎_elim (λ m. absurd (f (λ x. omega arith))) (λ m. let x : q ≡ k = omega arith in rw x (position_up (at k) a b h)) (split k q))
    (split q k))
    (λ t. position_up (at k) a b h)

limit_is : (w : Receiving) → ack_position w + ack_credit w ≡ max (w.taken + capacity) (ack_position w)
unfolding ack_credit
limit_is w = omega arith

module _ (v : Receiving) where
  pub position_low : low_of v ≤ ack_position v
  unfolding ack_position
  position_low = omega arith

  -- position + credit is taken + 65,536, or the position where that is beyond it already
  pub ack_says : ack_position v + ack_credit v ≡ max (v.taken + capacity) (ack_position v)
  ack_says = limit_is v

  -- as it can be by one
  pub ack_limit : length v.cells ≡ capacity → ack_position v ≤ v.taken + capacity + 1
  unfolding ack_position
  ack_limit l = let h = low_room v in let k = end_at_small v.end (low_of v) in omega arith

  misplaced_zero : (p n e : ℕ) → refusal_of v p n e ≡ 0 → misplaced_of v.end (high_of v) (p + n) n e ≡ 0
  unfolding refusal_of refusal_by
  misplaced_zero p n e z = row_right (beyond_of v.taken p n) _ z

  pub position_hear : (p : ℕ) (bs : List ℕ) (e : ℕ) → refusal_of v p (length bs) e ≡ 0 → ack_position v ≤ ack_position (hear_of v p bs e)
  unfolding ack_position hear_of fill_of
  position_hear p bs e z =
      end_hears v.end (high_of v) (p + length bs) (length bs) e (low_of v) (low_of (hear_of v p bs e)) (misplaced_zero p (length bs) e z) (low_hear v p bs e)

  -- with its END the position passes that too
  pub position_passes : (p : ℕ) (bs : List ℕ) → length v.cells ≡ capacity → p ≤ low_of v → p + length bs ≤ v.taken + capacity → p + length bs + 1 ≤ ack_position (hear_of v p bs 1)
  unfolding ack_position hear_of fill_of
  position_passes p bs l h k =
      let q : ℕ = p + length bs in
      let x : q ≤ low_of (hear_of v p bs 1) = low_passes v p bs 1 l h k in
      let y : q + end_at (at q) q ≤ low_of (hear_of v p bs 1) + end_at (at q) (low_of (hear_of v p bs 1)) = position_up (at q) q (low_of (hear_of v p bs 1)) x in
      let z = end_at_same q in
      omega arith

  pub position_take : (n : ℕ) → ack_position (take_of v n) ≡ ack_position v
  unfolding ack_position
  position_take n = rw (low_take v n, end_take v n)

  -- so the limit never moves back
  pub limit_hear : (p : ℕ) (bs : List ℕ) (e : ℕ) → refusal_of v p (length bs) e ≡ 0 → ack_position v + ack_credit v ≤ ack_position (hear_of v p bs e) + ack_credit (hear_of v p bs e)
  limit_hear p bs e z =
      let w : Receiving = hear_of v p bs e in
      let t : w.taken ≡ v.taken = taken_hear v p bs e in
      omega (arith, position_hear p bs e z, ack_says, limit_is w)

  pub limit_take : (n : ℕ) → ack_position v + ack_credit v ≤ ack_position (take_of v n) + ack_credit (take_of v n)
  limit_take n =
      let w : Receiving = take_of v n in
      let t : w.taken ≡ v.taken + length (got_of v n) = taken_take v n in
      omega (arith, position_take n, ack_says, limit_is w)
