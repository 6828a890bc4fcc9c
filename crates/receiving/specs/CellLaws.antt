-- Laws of lists of cells, by index: what lay and fill_cells write, what lead, reach and heads find. Assumes nothing.
use Rattle.std.specs.Prelude.{◌≡◌, refl, List, [], ◌∷◌, ◌++◌, ℕ, zero, suc, ◌+◌, ◌-◌, ◌≤◌, ◌<◌, length, get_or, take, drop}
use Rattle.std.proofs.Common.{◌∙◌, ap, le_of_suc-le-suc, not-suc-le-zero, length-append, length-drop, get_or-drop, get_or-append-add}
use native.Mathlib.Omega.{arith}
use Rattle.std.proofs.Math.ListN.{length-take, get_or-append}
use Rattle.std.proofs.Math.Seq.{get_or-take, length-take-le}
use Rattle.receiving.specs.Receiving.{Cell, missing, byte, first, lay, fill_cells, lead, heads, up, reach}

pub length_lay : (cs : List Cell) (bs : List ℕ) → length (lay cs bs) ≡ length cs
unfolding lay
length_lay [] bs = refl
length_lay (c ∷ cs) [] = refl
length_lay (c ∷ cs) (b ∷ bs) = ap suc (length_lay cs bs)

pub lay_in : (cs : List Cell) (bs : List ℕ) (i : ℕ) → i < length cs → i < length bs → get_or (lay cs bs) i missing ≡ first (get_or cs i missing) (get_or bs i 0)
unfolding lay
lay_in [] bs i h k = absurd (not-suc-le-zero h)
lay_in (c ∷ cs) [] i h k = absurd (not-suc-le-zero k)
lay_in (c ∷ cs) (b ∷ bs) zero h k = refl
lay_in (c ∷ cs) (b ∷ bs) (suc i) h k = lay_in cs bs i (le_of_suc-le-suc h) (le_of_suc-le-suc k)

pub lay_out : (cs : List Cell) (bs : List ℕ) (i : ℕ) → length bs ≤ i → get_or (lay cs bs) i missing ≡ get_or cs i missing
unfolding lay
lay_out [] bs i h = refl
lay_out (c ∷ cs) [] i h = refl
lay_out (c ∷ cs) (b ∷ bs) zero h = absurd (not-suc-le-zero h)
lay_out (c ∷ cs) (b ∷ bs) (suc i) h = lay_out cs bs i (le_of_suc-le-suc h)

pub past : (x y : List Cell) (n j : ℕ) → length x ≡ n → get_or (x ++ y) (n + j) missing ≡ get_or y j missing
past x y n j e = rw (← e) (get_or-append-add x y j missing)

module _ (t : ℕ) (cs : List Cell) (p : ℕ) (bs : List ℕ) where
  pub length_fill : length (fill_cells t cs p bs) ≡ length cs
  unfolding fill_cells
  length_fill = simp (length-append, length-take, length_lay, length-drop) (omega arith)

  -- below p
  pub fill_before : (i : ℕ) → i < length cs → t + i < p → get_or (fill_cells t cs p bs) i missing ≡ get_or cs i missing
  unfolding fill_cells
  fill_before i h k =
      let l = length-take (p - t) cs in
      get_or-append (take (p - t) cs) (lay (drop (p - t) cs) (drop (t - p) bs)) missing i (omega arith) ∙ get_or-take (p - t) cs i missing (omega arith)

  -- from p on
  from : (i : ℕ) → i < length cs → p ≤ t + i → get_or (fill_cells t cs p bs) i missing ≡ get_or (lay (drop (p - t) cs) (drop (t - p) bs)) (i - (p - t)) missing
  unfolding fill_cells
  from i h k =
      let l = length-take-le (p - t) cs (omega arith) in
      let e : p - t + (i - (p - t)) ≡ i = omega arith in
      let f = past (take (p - t) cs) (lay (drop (p - t) cs) (drop (t - p) bs)) (p - t) (i - (p - t)) l in
      rw e at f

  pub fill_in : (i : ℕ) → i < length cs → p ≤ t + i → t + i < p + length bs
      → get_or (fill_cells t cs p bs) i missing ≡ first (get_or cs i missing) (get_or bs (t + i - p) 0)
  fill_in i h k l =
      let e : p - t + (i - (p - t)) ≡ i = omega arith in
      let f : t - p + (i - (p - t)) ≡ t + i - p = omega arith in
      let x = length-drop (p - t) cs in
      let y = length-drop (t - p) bs in
      from i h k ∙ lay_in (drop (p - t) cs) (drop (t - p) bs) (i - (p - t)) (omega arith) (omega arith) ∙ rw (get_or-drop (p - t) cs (i - (p - t)) missing, get_or-drop (t - p) bs (i - (p - t)) 0, e, f)

  pub fill_after : (i : ℕ) → i < length cs → p + length bs ≤ t + i → get_or (fill_cells t cs p bs) i missing ≡ get_or cs i missing
  fill_after i h k =
      let e : p - t + (i - (p - t)) ≡ i = omega arith in
      let y = length-drop (t - p) bs in
      from i h (omega arith) ∙ lay_out (drop (p - t) cs) (drop (t - p) bs) (i - (p - t)) (omega arith) ∙ rw (get_or-drop, e)

-- n leading bytes, and then a missing cell or the end
pub lead_is : (n : ℕ) (cs : List Cell) (f : ℕ → ℕ) → n ≤ length cs → ((i : ℕ) → i < n → get_or cs i missing ≡ byte (f i)) → (n < length cs → get_or cs n missing ≡ missing)
    → lead cs ≡ n
unfolding lead
lead_is zero [] f l b e = refl
lead_is zero (missing ∷ cs) f l b e = refl
lead_is zero (byte x ∷ cs) f l b e =
    let u : byte x ≡ missing = e (omega arith) in
    let z : ◌≡◌ {A = ℕ} 0 1 = cc in
    absurd (omega arith)
lead_is (suc n) [] f l b e = absurd (not-suc-le-zero l)
lead_is (suc n) (missing ∷ cs) f l b e =
    let u : missing ≡ byte (f 0) = b 0 (omega arith) in
    let z : ◌≡◌ {A = ℕ} 0 1 = cc in
    absurd (omega arith)
lead_is (suc n) (byte x ∷ cs) f l b e = ap suc (lead_is n cs (λ i. f (suc i)) (le_of_suc-le-suc l) (λ i h. b (suc i) (omega arith)) (λ h. e (omega arith)))

-- the bytes of d, and then a missing cell, or n of them
pub heads_is : (n : ℕ) (cs : List Cell) (d : List ℕ) → length d ≤ n → ((i : ℕ) → i < length d → get_or cs i missing ≡ byte (get_or d i 0))
    → (length d < n → get_or cs (length d) missing ≡ missing)
    → heads n cs ≡ d
unfolding heads
heads_is zero cs [] l b e = refl
heads_is zero cs (x ∷ d) l b e = absurd (not-suc-le-zero l)
heads_is (suc n) [] [] l b e = refl
heads_is (suc n) (missing ∷ cs) [] l b e = refl
heads_is (suc n) (byte y ∷ cs) [] l b e =
    let u : byte y ≡ missing = e (omega arith) in
    let z : ◌≡◌ {A = ℕ} 0 1 = cc in
    absurd (omega arith)
heads_is (suc n) [] (x ∷ d) l b e =
    let u : missing ≡ byte x = b 0 (omega arith) in
    let z : ◌≡◌ {A = ℕ} 0 1 = cc in
    absurd (omega arith)
heads_is (suc n) (missing ∷ cs) (x ∷ d) l b e =
    let u : missing ≡ byte x = b 0 (omega arith) in
    let z : ◌≡◌ {A = ℕ} 0 1 = cc in
    absurd (omega arith)
heads_is (suc n) (byte y ∷ cs) (x ∷ d) l b e =
    let u : byte y ≡ byte x = b 0 (omega arith) in
    let v : y ≡ x = cc in
    let ih : heads n cs ≡ d = heads_is n cs d (le_of_suc-le-suc l) (λ i h. b (suc i) (omega arith)) (λ h. e (omega arith)) in
    rw (v, ih)

reach_none : (cs : List Cell) → ((i : ℕ) → i < length cs → get_or cs i missing ≡ missing) → reach cs ≡ 0
unfolding reach up
reach_none [] h = refl
reach_none (c ∷ cs) h =
    let u : c ≡ missing = h 0 (omega arith) in
    let v : reach cs ≡ 0 = reach_none cs (λ i x. h (suc i) (omega arith)) in
    rw (u, v)

up_more : (c : Cell) (n : ℕ) → up c (suc n) ≡ suc (suc n)
unfolding up
up_more missing n = refl
up_more (byte b) n = refl

reach_byte : (cs : List Cell) (n b : ℕ) → n < length cs → ((i : ℕ) → suc n ≤ i → i < length cs → get_or cs i missing ≡ missing) → get_or cs n missing ≡ byte b → reach cs ≡ suc n
unfolding reach up
reach_byte [] n b l h e = absurd (not-suc-le-zero l)
reach_byte (c ∷ cs) zero b l h e =
    let v : reach cs ≡ 0 = reach_none cs (λ i x. h (suc i) (omega arith) (omega arith)) in
    rw (e, v)
reach_byte (c ∷ cs) (suc n) b l h e =
    let v : reach cs ≡ suc n = reach_byte cs n b (le_of_suc-le-suc l) (λ i x y. h (suc i) (omega arith) (omega arith)) e in
    ap (up c) v ∙ up_more c n

-- a byte at n - 1, and none from n on
pub reach_is : (n : ℕ) (cs : List Cell) (b : ℕ) → n ≤ length cs → ((i : ℕ) → n ≤ i → i < length cs → get_or cs i missing ≡ missing)
    → (0 < n → get_or cs (n - 1) missing ≡ byte b)
    → reach cs ≡ n
reach_is zero cs b l h e = reach_none cs (λ i x. h i (omega arith) x)
reach_is (suc n) cs b l h e =
    let f : suc n - 1 ≡ n = omega arith in
    let g = e (omega arith) in
    reach_byte cs n b l h (rw f at g)
